-- The names that a root is made of (document 01's terms *reached* and *needed*). Assumes nothing.
use Rattle.std.specs.Prelude.{◌≡◌, true, false, ℕ, Some}
use mathlib.Core.List.{List, [], ◌∷◌, Memᴰ}
use Rattle.type_book.specs.Book.{type_name_of}
use Rattle.type_provider.specs.Find.{find}
use Rattle.resolvers.specs.declared.Resolved.TheVariants.{Base}
use Rattle.resolvers.specs.Resolve.{is_followed, resolve_alias}
use Rattle.resolve_walk_scratch.specs.Parts.{parts_of}

-- the root's name, and from a reached name those that its resolved type is made of
pub data Reached (book : List ℕ) (width : ℕ) (root : List ℕ) : List ℕ → Type 0 where
  start : {x : List ℕ} → x ≡ root → Reached book width root x
  part : {x y : List ℕ} {t u b : ℕ} → Reached book width root x → find book x ≡ Some t → resolve_alias book width t ≡ Base u
      → Memᴰ b (parts_of book width u) → y ≡ type_name_of book b → Reached book width root y

-- the reached names, and every name on their alias chains
pub data Needed (book : List ℕ) (width : ℕ) (root : List ℕ) : List ℕ → Type 0 where
  reached : {x : List ℕ} → Reached book width root x → Needed book width root x
  chain : {x y : List ℕ} {t : ℕ} → Needed book width root x → find book x ≡ Some t → is_followed false book width t ≡ true
      → y ≡ type_name_of book t → Needed book width root y

-- no two are the same
pub data Distinct : List (List ℕ) → Type 0 where
  none : Distinct []
  more : {x : List ℕ} {xs : List (List ℕ)} → (Memᴰ x xs → ⊥) → Distinct xs → Distinct (x ∷ xs)

-- the look-up of a name finds a type block, whose aliases end
pub record Resolves (book : List ℕ) (width : ℕ) (x : List ℕ) : Type 0 where
  pub at : ℕ
  pub to : ℕ
  pub found : find book x ≡ Some at
  pub base : resolve_alias book width at ≡ Base to
