-- What the event of a new name tells of the scratch and of the type that the name comes to. No call of document 01
-- names this in its contract. Assumes nothing.
use Rattle.std.specs.Prelude.{◌≡◌, true, false, ◌||◌, List, ◌++◌, ℕ, ◌+◌, ◌≤◌, ◌<◌, length, eqb}
use Rattle.type_book.specs.Book.{is_type}
use Rattle.type_category.specs.declared.type_category.AdsTypeCategory.{AdsTypeCategory}
use Rattle.type_category.specs.Category.{category_of}
use Rattle.resolvers.specs.declared.Resolved.{Resolved}
use Rattle.resolvers.specs.declared.Resolved.TheVariants.{Base, NotFound, TooLong}
use Rattle.resolvers.specs.Resolve.{resolve_alias}
use Rattle.resolve_walk_scratch.specs.Parts.{parts_kind, parts_of}
use Rattle.resolve_walk_scratch.specs.Scratch.{stack_of, marked_in, is_part, marked_on, pushed_to, pushed_on}
use Rattle.resolve_walk_events.specs.declared.Event.{Event}
use Rattle.resolve_walk_events.specs.declared.Event.TheVariants.{Old, New, Full}
use Rattle.resolve_walk_events.specs.declared.Event.TheVariants as event

-- ---- the event and the numbers

-- the event of a new name, by what it comes to: a type with its category, the alias at which 7 is due, or a chain that is too long
unfoldable pub settled_event : List ℕ → ℕ → ℕ → Resolved → Event
settled_event book width depth (Base u) = New u (pushed_to book depth u (parts_kind (category_of book width u))) (category_of book width u)
settled_event book width depth (NotFound c) = event.NotFound c depth
settled_event book width depth TooLong = event.TooLong depth

-- the scratch then: type block t is marked, and the parts of the type that it comes to are laid on
unfoldable pub settled_on : List ℕ → ℕ → List ℕ → ℕ → ℕ → Resolved → List ℕ
settled_on book width sc depth t (Base u) = pushed_on book (marked_on sc t) depth u (parts_kind (category_of book width u))
settled_on book width sc depth t (NotFound c) = marked_on sc t
settled_on book width sc depth t TooLong = marked_on sc t

-- ---- what they stand for

-- type block t is marked, and the parts of type u are laid on, where u is what t comes to, and c its category
pub record Expanded (book : List ℕ) (width : ℕ) (sc : List ℕ) (depth t u : ℕ) (c : AdsTypeCategory) (r : ℕ) (sc' : List ℕ) : Type 0 where
  pub kind : c ≡ category_of book width u
  pub to : resolve_alias book width t ≡ Base u
  pub typed : is_type book u ≡ true
  pub top : stack_of sc' r ≡ parts_of book width u ++ stack_of sc depth
  pub marks : (u : ℕ) → marked_in sc' u ≡ eqb t u || marked_in sc u
  pub more : r ≤ depth + 1
  pub few : length (stack_of sc' r) < 65536 + length (stack_of sc depth)

-- type block t is marked, and comes to nothing
pub record Dead (sc : List ℕ) (depth t r : ℕ) (sc' : List ℕ) : Type 0 where
  pub top : stack_of sc' r ≡ stack_of sc depth
  pub marks : (u : ℕ) → marked_in sc' u ≡ eqb t u || marked_in sc u
  pub more : r ≤ depth + 1

-- it comes to nothing at alias c, whose type name is not in the book
pub record Broken (book : List ℕ) (width : ℕ) (sc : List ℕ) (depth t c r : ℕ) (sc' : List ℕ) : Type 0 where
  pub to : resolve_alias book width t ≡ NotFound c
  pub alias : is_part book c ≡ false
  pub dead : Dead sc depth t r sc'

-- it comes to nothing, since its chain is too long
pub record Unending (book : List ℕ) (width : ℕ) (sc : List ℕ) (depth t r : ℕ) (sc' : List ℕ) : Type 0 where
  pub to : resolve_alias book width t ≡ TooLong
  pub dead : Dead sc depth t r sc'

-- type block t is marked, by the event that it gives
abbrev pub Settled : List ℕ → ℕ → List ℕ → ℕ → ℕ → Event → List ℕ → Type 0
Settled book width sc depth t (Old d) sc' = ⊥
Settled book width sc depth t (event.NotFound c d) sc' = Broken book width sc depth t c d sc'
Settled book width sc depth t (New u d c) sc' = Expanded book width sc depth t u c d sc'
Settled book width sc depth t (event.TooLong d) sc' = Unending book width sc depth t d sc'
Settled book width sc depth t Full sc' = ⊥

-- `Settled` of the event r, as a record, which `search` takes as it stands; the event and every number of the scratch are fixed
pub record Settles (book : List ℕ) (width : ℕ) (sc : List ℕ) (depth t : ℕ) (r : Event) (sc' : List ℕ) : Type 0 where
  pub so : Settled book width sc depth t r sc'
  pub event : r ≡ settled_event book width depth (resolve_alias book width t)
  pub numbers : sc' ≡ settled_on book width sc depth t (resolve_alias book width t)
