-- Refusal 4 of document 01: two types of one name. Assumes nothing.
use Rattle.std.specs.Prelude.{Bool, true, not, ◌&&◌, ◌||◌, List, ℕ, zero, suc, ◌+◌}
use Rattle.type_book.specs.Book.{blocks, is_type, name_of, is_named}

-- each of the k blocks from block i on passes a test
unfoldable pub all_from : (ℕ → Bool) → ℕ → ℕ → Bool
all_from p i zero = true
all_from p i (suc k) = p i && all_from p (i + 1) k

-- block n is no type block of that name
unfoldable pub is_other : List ℕ → List ℕ → ℕ → Bool
is_other book name n = not (is_named book name n)

-- no block before type block n is a type block of its name
unfoldable pub is_first : List ℕ → ℕ → Bool
is_first book n = not (is_type book n) || all_from (is_other book (name_of book n)) 0 n

-- no two type blocks of the book have one name
abbrev pub distinct : List ℕ → Bool
distinct book = all_from (is_first book) 0 (blocks book)
