-- Which of the types of one book another book knows by name, and appending where both were checked once. Assumes nothing.
use Rattle.std.specs.Prelude.{◌≡◌, Bool, true, ◌||◌, List, ℕ, length, get_or, take, eqb}
use Rattle.type_book.specs.Book.{is_type, name_of, is_named}
use Rattle.type_book_check.specs.declared.BookCheck.TheVariants.{Valid}
use Rattle.type_book_check.specs.Check.{check_book}
use Rattle.type_cache.specs.declared.Appended.{Appended}
use Rattle.type_cache.specs.declared.Appended.TheVariants.{Done, Refused}
use Rattle.type_cache.specs.Append.{is_known, AppendIs}
use Rattle.type_cache.specs.Same.{definition_of}

-- block n is marked
unfoldable pub has_mark : List ℕ → ℕ → Bool
has_mark known n = eqb (get_or known n 0) 1

-- one mark for each block that a book may have: type block n of book c is marked exactly if the book knows its name
pub record Knows (c book known : List ℕ) : Type 0 where
  pub long : length known ≡ 65536
  pub is : (n : ℕ) → is_type c n ≡ true → has_mark known n ≡ is_known book (name_of c n)

-- the type of c that has the name of type block i of the book is marked too
pub record MarkedBy (c book : List ℕ) (i : ℕ) (known known' : List ℕ) : Type 0 where
  pub long : length known' ≡ length known
  pub is : (n : ℕ) → is_type c n ≡ true → has_mark known' n ≡ has_mark known n || is_named book (name_of c n) i

-- the length of a book after appending's answer
abbrev pub length_then : ℕ → Appended → ℕ
length_then len (Done n) = n
length_then len (Refused k) = len

-- appending the definition of type block n of c: answer and buffer are those of `append`; the book that is left is valid and has the old
-- types, and the marks are those of that book
pub record AppendedIn (c : List ℕ) (n : ℕ) (buffer : List ℕ) (len : ℕ) (r : Appended) (after known : List ℕ) : Type 0 where
  pub appends : AppendIs buffer len (definition_of c n) r after
  pub valid : check_book after (length_then len r) ≡ Valid
  pub knows : Knows c (take (length_then len r) after) known
  pub types : (m : ℕ) → is_type (take len buffer) m ≡ true → is_type (take (length_then len r) after) m ≡ true
