-- The names of types that were met, by the marks of their hashes. No contract of a public function cites this. Assumes nothing.
use Rattle.std.specs.Prelude.{◌≡◌, Bool, true, false, List, ℕ, ◌+◌, ◌<◌}
use Rattle.type_book.specs.Book.{is_type, name_of}
use Rattle.type_marks.specs.Marks.{hash_of, is_marked}
use Rattle.type_doubles.specs.Doubles.{is_first}

-- the hash of each type block before n is marked
pub record MarkedTo (book marks : List ℕ) (n : ℕ) : Type 0 where
  pub all : (m : ℕ) → m < n → is_type book m ≡ true → is_marked marks (hash_of (name_of book m)) ≡ true

-- block n is marked, if it is a type block; where it is not said to be met before, no block before it has its name
pub record MetIs (book : List ℕ) (n : ℕ) (r : Bool) (marks' : List ℕ) : Type 0 where
  pub new : r ≡ false → is_first book n ≡ true
  pub marked : MarkedTo book marks' (n + 1)
