-- Two books: one holds only definitions of the other (demand 3 has it of ours and the controller's). Assumes nothing.
use Rattle.std.specs.Prelude.{◌≡◌, true, List, ℕ}
use Rattle.type_book.specs.Book.{is_type}
use Rattle.type_cache.specs.Same.{Same}

-- a definition "equal to its": a type block of the other book with that definition, "equal byte for byte"
pub record Twin (book : List ℕ) (m : ℕ) (c : List ℕ) : Type 0 where
  pub block : ℕ
  pub type : is_type c block ≡ true
  pub same : Same book m c block

-- a book that holds "only definitions equal to its"
pub record Covers (book c : List ℕ) : Type 0 where
  pub only : (m : ℕ) → is_type book m ≡ true → Twin book m c
