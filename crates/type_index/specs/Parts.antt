-- What the parts of the look-up by an index promise each other. Assumes nothing.
use Rattle.std.specs.Prelude.{◌≡◌, List, ℕ, ◌+◌, ◌≤◌, ◌<◌, Option, Some}
use Rattle.type_provider.specs.Find.{NamedBlock}
use Rattle.type_index.specs.Index.{slots_of, slot_for, next_of}

-- the hints begin after the slots, within an index of len numbers, and are no more than a book has blocks
pub record HintsAt (book : List ℕ) (len r : ℕ) : Type 0 where
  pub is : r ≡ slots_of book len
  pub within : r ≤ len
  pub few : len ≤ r + 65536
  pub some : 0 < len → 0 < r

-- the name's place, which is one of the n slots
pub record PlaceIs (name : List ℕ) (n r : ℕ) : Type 0 where
  pub is : r ≡ slot_for name n
  pub below : r < n

-- the slot after slot `at`, which is one of the n slots too
pub record NextIs (at n r : ℕ) : Type 0 where
  pub is : r ≡ next_of n at
  pub below : r < n

-- a block to which the index leads is a type block of that name
pub record Probed (book name : List ℕ) (r : Option ℕ) : Type 0 where
  pub at : (n : ℕ) → r ≡ Some n → NamedBlock book name n
