-- An index of a book's names that goes on as the index of the book with one type more: when it takes that type, and what it holds then.
-- Assumes nothing.
use Rattle.std.specs.Prelude.{◌≡◌, Bool, cond, ◌&&◌, List, ℕ, ◌+◌, ◌/◌, length, set, ltb}
use Rattle.type_book.specs.Book.{name_of}
use Rattle.type_index.specs.Index.{free_of}

-- an index takes block n, the first past the blocks that it was made for, where it is all slots, so that each name keeps its place, and one of
-- the slots that are tried for the block's name is empty
unfoldable pub takes : List ℕ → List ℕ → ℕ → Bool
takes book index n = ltb (length index / 3) n && ltb (free_of book index (name_of book n)) (length index)

-- the index with block n in the first empty slot for its name
unfoldable pub with_last : List ℕ → List ℕ → ℕ → List ℕ
with_last book index n = set index (free_of book index (name_of book n)) (n + 1)

-- what is answered, and what the index holds then: as before where it does not take the block
pub record LastIs (book index : List ℕ) (n : ℕ) (r : Bool) (index' : List ℕ) : Type 0 where
  pub answer : r ≡ takes book index n
  pub numbers : index' ≡ cond (takes book index n) (with_last book index n) index
