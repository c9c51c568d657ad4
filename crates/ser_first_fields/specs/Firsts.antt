-- What the bits of a type's fields say, and the marks by which they are found. No contract of a public function of the papers cites this.
-- Assumes nothing.
use Rattle.std.specs.Prelude.{◌≡◌, true, List, ℕ, ◌+◌, ◌%◌, ◌<◌, Option, Some, None}
use Rattle.type_book.specs.Book.{name_of}
use Rattle.ser_named_blocks.specs.Named.{field_named}
use Rattle.type_marks.specs.Marks.{hash_of, bit_of, is_marked}

-- the block of a field that was found, 0 where none was: block 0 is no field
unfoldable pub found_block : Option ℕ → ℕ
found_block (Some f) = f
found_block None = 0

-- a bit that is set is that of a field of type block t, the first of its name
pub record Firsts (book : List ℕ) (t : ℕ) (firsts : List ℕ) : Type 0 where
  pub at : (i : ℕ) → bit_of firsts i ≡ true → field_named book t (name_of book (t + 1 + i)) ≡ Some (t + 1 + i)

-- of the fields before field i, the hashes of the names that are of class c of k are marked
pub record Met (book : List ℕ) (t k c : ℕ) (names : List ℕ) (i : ℕ) : Type 0 where
  pub all : (j : ℕ) → j < i → hash_of (name_of book (t + 1 + j)) % k ≡ c → is_marked names (hash_of (name_of book (t + 1 + j))) ≡ true

-- field i is noted: its name's hash, if it is of that class, is marked too, and the bits say what they say
pub record Noted (book : List ℕ) (t k c i : ℕ) (names firsts : List ℕ) : Type 0 where
  pub met : Met book t k c names (i + 1)
  pub firsts_are : Firsts book t firsts
