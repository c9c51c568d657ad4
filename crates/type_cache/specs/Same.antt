-- One definition in two books. Assumes nothing.
use Rattle.std.specs.Prelude.{◌≡◌, List, ℕ, ◌+◌, ◌*◌, take, drop}
use Rattle.type_book.specs.Book.{fields_of, entries_of}

-- the number of blocks of a type: its type block, its fields and its entries
abbrev pub blocks_of : List ℕ → ℕ → ℕ
blocks_of book n = fields_of book n + entries_of book n + 1

-- document 01's term: a definition is a type block with its fields and entries, as bytes
unfoldable pub definition_of : List ℕ → ℕ → List ℕ
definition_of book n = take (blocks_of book n * 512) (drop (n * 512) book)

-- block m of book a is defined as block n of book b: their definitions are equal byte for byte
pub record Same (a : List ℕ) (m : ℕ) (b : List ℕ) (n : ℕ) : Type 0 where
  pub bytes : definition_of a m ≡ definition_of b n
