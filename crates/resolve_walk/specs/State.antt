-- How a walk's state stands in the scratch of crate `resolve_walk_scratch`, and what a turn promises the two readings. No contract of a call of
-- document 01 cites this. Assumes nothing.
use Rattle.std.specs.Prelude.{◌≡◌, Bool, true, cond, ◌||◌, ℕ, ◌+◌, ◌*◌, ◌-◌, ◌≤◌, ◌<◌, length, eqb, Option, Some, None}
use mathlib.Core.List.{List, [], ◌∷◌, ◌++◌, Memᴰ}
use Rattle.type_book.specs.Book.{type_name_of}
use Rattle.type_provider.specs.Find.{find}
use Rattle.type_category.specs.declared.type_category.AdsTypeCategory.{AdsTypeCategory}
use Rattle.type_category.specs.Category.{category_of}
use Rattle.type_book_check.specs.Check.{ValidBook}
use Rattle.resolvers.specs.declared.Resolved.TheVariants.{Base, NotFound, TooLong}
use Rattle.resolvers.specs.Resolve.{resolve_alias}
use Rattle.resolve_walk_scratch.specs.declared.Taken.{Taken}
use Rattle.resolve_walk_scratch.specs.Scratch.{stack_of, marked_in, marked_on, lacking_bit, is_part, has_ref, was_listed, taken_at, taken_from}
use Rattle.resolve_walk_events.specs.Events.{settled_event, settled_on}
use Rattle.resolve_walk_events.specs.declared.Event.{Event}
use Rattle.resolve_walk_events.specs.declared.Event.TheVariants.{Old, New, Full}
use Rattle.resolve_walk_events.specs.declared.Event.TheVariants as event
use Rattle.resolve_walk.specs.Walk.{Walk, full, met, comes_to, has, walk, walk_of}

-- a name was visited: where the book defines it, by its block's bit; else its own bit is set, and a listed block names it as a part
unfoldable pub seen_by : List ℕ → List ℕ → List ℕ → List ℕ → Option ℕ → Bool
seen_by book sc ls x (Some t) = marked_in sc t
seen_by book sc ls x None = was_listed book sc ls x

-- ---- the event and the numbers of a turn

-- the event of the block that was taken off, by what the look-up of its type name found: visited before, one name too many, or new
unfoldable pub turn_event : List ℕ → ℕ → List ℕ → List ℕ → ℕ → Taken → Option ℕ → Event
turn_event book width sc ls left k f =
    cond (seen_by book sc ls (type_name_of book k.block) f) (Old k.depth)
    (cond (eqb left 0) Full (settled_event book width k.depth (comes_to book width k.block f)))

-- the scratch after the new name x, by what its look-up found: a name that the book lacks has no block to mark, but a bit of its own
unfoldable pub new_on : List ℕ → ℕ → List ℕ → ℕ → List ℕ → Option ℕ → List ℕ
new_on book width sc depth x (Some t) = settled_on book width sc depth t (resolve_alias book width t)
new_on book width sc depth x None = marked_on sc (lacking_bit x)

-- the scratch then: as the block was taken off it, unless the name is new
unfoldable pub turn_on : List ℕ → ℕ → List ℕ → List ℕ → ℕ → Taken → Option ℕ → List ℕ
turn_on book width sc ls left k f =
    cond (seen_by book sc ls (type_name_of book k.block) f || eqb left 0) sc (new_on book width sc k.depth (type_name_of book k.block) f)

-- the event of one turn: the top block is taken off, and its type name looked up
unfoldable pub step_event : List ℕ → ℕ → List ℕ → List ℕ → ℕ → ℕ → Event
step_event book width sc ls left depth =
    turn_event book width (taken_from sc depth) ls left (taken_at sc depth) (find book (type_name_of book (taken_at sc depth).block))

-- the scratch after one turn
unfoldable pub step_on : List ℕ → ℕ → List ℕ → List ℕ → ℕ → ℕ → List ℕ
step_on book width sc ls left depth =
    turn_on book width (taken_from sc depth) ls left (taken_at sc depth) (find book (type_name_of book (taken_at sc depth).block))

-- ---- what they stand for

-- w is what is left to walk
pub record LeftToWalk (book : List ℕ) (width : ℕ) (sc ls : List ℕ) (left depth : ℕ) (w : Walk) : Type 0 where
  pub v : List (List ℕ)
  pub seen : 0 < depth → (x : List ℕ) → has v x ≡ seen_by book sc ls x (find book x)
  pub told : (x : List ℕ) → has_ref book ls x ≡ true → marked_in sc (lacking_bit x) ≡ true
  pub is : w ≡ walk book width left v (stack_of sc depth)
  pub room : depth + left ≤ 4096
  pub valid : ValidBook book
  pub parts : (b : ℕ) → Memᴰ b (stack_of sc depth) → is_part book b ≡ true

-- the walk w meets a name that comes to type block t, of category c; the rest of w is what is left to walk
pub record AfterNew (book : List ℕ) (width : ℕ) (sc ls : List ℕ) (left t depth : ℕ) (c : AdsTypeCategory) (w : Walk) : Type 0 where
  pub kind : c ≡ category_of book width t
  pub by : ℕ
  pub name : List ℕ
  pub next : Walk
  pub is : w ≡ met by name (Base t) next
  pub left_over : LeftToWalk book width sc ls left depth next

-- the walk w meets a name that comes to nothing at block b, whose type name is not in the book; its rest is left to walk, with b listed
pub record AfterLacking (book : List ℕ) (width : ℕ) (sc ls : List ℕ) (left b depth : ℕ) (w : Walk) : Type 0 where
  pub by : ℕ
  pub name : List ℕ
  pub next : Walk
  pub is : w ≡ met by name (NotFound b) next
  pub left_over : LeftToWalk book width sc (ls ++ (b ∷ [])) left depth next

-- the walk w meets a name whose alias chain is too long; the rest of w is what is left to walk
pub record AfterLong (book : List ℕ) (width : ℕ) (sc ls : List ℕ) (left depth : ℕ) (w : Walk) : Type 0 where
  pub by : ℕ
  pub name : List ℕ
  pub next : Walk
  pub is : w ≡ met by name TooLong next
  pub left_over : LeftToWalk book width sc ls left depth next

-- the name is one too many, and nothing is left
pub record AfterFull (w : Walk) : Type 0 where
  pub by : ℕ
  pub name : List ℕ
  pub is : w ≡ full by name

-- what an event tells of the walk w, whose next event it is, or which it leaves as it is where the name was visited
abbrev pub After : List ℕ → ℕ → List ℕ → List ℕ → ℕ → Walk → Event → Type 0
After book width sc ls left w (Old d) = LeftToWalk book width sc ls left d w
After book width sc ls left w (event.NotFound b d) = AfterLacking book width sc ls (left - 1) b d w
After book width sc ls left w (New t d c) = AfterNew book width sc ls (left - 1) t d c w
After book width sc ls left w (event.TooLong d) = AfterLong book width sc ls (left - 1) d w
After book width sc ls left w Full = AfterFull w

-- how much is left to do at most
unfoldable pub work : List ℕ → ℕ → ℕ → ℕ
work sc left depth = left * 65536 + length (stack_of sc depth)

-- less than n is left to do after an event
abbrev pub Falls : List ℕ → ℕ → ℕ → Event → Type 0
Falls sc left n (Old d) = work sc left d < n
Falls sc left n (event.NotFound b d) = (0 < left) × (work sc (left - 1) d < n)
Falls sc left n (New t d c) = (0 < left) × (work sc (left - 1) d < n)
Falls sc left n (event.TooLong d) = (0 < left) × (work sc (left - 1) d < n)
Falls sc left n Full = left ≡ 0

-- one turn gives the next event of any walk that the state stands for, and less is left to do; its event and every number
-- of the scratch are fixed
pub record Stepped (book : List ℕ) (width : ℕ) (sc ls : List ℕ) (left depth : ℕ) (r : Event) (sc' : List ℕ) : Type 0 where
  pub goes : (w : Walk) → LeftToWalk book width sc ls left depth w → After book width sc' ls left w r
  pub falls : Falls sc' left (work sc left depth) r
  pub event : r ≡ step_event book width sc ls left depth
  pub numbers : sc' ≡ step_on book width sc ls left depth

-- an event after which `left - 1` names are left, and one after which none was
abbrev pub DueAfter : ℕ → Event → Type 0
DueAfter left (Old d) = Unit {0}
DueAfter left (event.NotFound c d) = 0 < left
DueAfter left (New t d c) = 0 < left
DueAfter left (event.TooLong d) = 0 < left
DueAfter left Full = left ≡ 0

-- `DueAfter` of an event, as a record, which `search` takes as it stands
pub record IsDue (left : ℕ) (e : Event) : Type 0 where
  pub due : DueAfter left e

-- the root's own name is met, out of 4,096; its event and every number of the scratch are fixed
pub record Started (book : List ℕ) (width root : ℕ) (sc : List ℕ) (r : Event) (sc' : List ℕ) : Type 0 where
  pub goes : After book width sc' [] 4096 (walk_of book width root) r
  pub due : DueAfter 4096 r
  pub event : r ≡ settled_event book width 0 (resolve_alias book width root)
  pub numbers : sc' ≡ settled_on book width sc 0 root (resolve_alias book width root)
