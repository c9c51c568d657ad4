-- Refusals 1 to 5 of document 01, over a book that fills the first `len` bytes of a buffer. Assumes nothing.
use Rattle.std.specs.Prelude.{◌≡◌, Bool, false, cond, ◌&&◌, List, [], ◌∷◌, Option, Some, None, ℕ, zero, suc, ◌+◌, ◌/◌, ◌%◌, length, take, eqb, leb, ltb}
use Rattle.enc_number.specs.Answer.{refusal_of}
use Rattle.enc_number.specs.Refusals as refusal
use Rattle.type_book.specs.Book.{blocks, block_of, is_type, fields_of, entries_of}
use Rattle.type_block_form.specs.Form.{sum_right, type_form, field_form, entry_form}
use Rattle.type_doubles.specs.Doubles.{all_from, distinct}
use Rattle.type_book_check.specs.declared.BookCheck.{BookCheck}
use Rattle.type_book_check.specs.declared.BookCheck.TheVariants.{Valid, Size, Sum, Form, Doubled}
use Rattle.type_book_check.specs.declared.RootCheck.{RootCheck}
use Rattle.type_book_check.specs.declared.RootCheck.TheVariants.{Root, Refused}

-- 1: a book lies in its buffer and is at most 65,536 whole blocks; a book of no bytes is one that defines no name
unfoldable pub size_right : ℕ → ℕ → Bool
size_right room len = leb len room && (eqb (len % 512) 0 && leb (len / 512) 65536)

-- block n holds its sum
unfoldable pub sum_at : List ℕ → ℕ → Bool
sum_at book n = sum_right (block_of book n)

-- 2: every block of the book holds its sum
abbrev pub sums : List ℕ → Bool
sums book = all_from (sum_at book) 0 (blocks book)

-- 3: with f fields and e entries due, block n has to be a field, then an entry, then a type, whose own fields and entries are due next;
-- nothing where it is not of its place
unfoldable pub place_of : List ℕ → ℕ → ℕ → ℕ → Option (ℕ × ℕ)
place_of book n (suc f) e = cond (field_form (block_of book n)) (Some (f, e)) None
place_of book n zero (suc e) = cond (entry_form (block_of book n)) (Some (zero, e)) None
place_of book n zero zero = cond (type_form (block_of book n)) (Some (fields_of book n, entries_of book n)) None

-- what `go` says of the fields and entries due after a block; after a block that is not of its place, false
unfoldable pub places_onward : (ℕ → ℕ → Bool) → Option (ℕ × ℕ) → Bool
places_onward go (Some due) = go due.0 due.1
places_onward go None = false

-- the k blocks from block n on have the form of their places, and nothing is due after them
unfoldable pub placed_from : List ℕ → ℕ → ℕ → ℕ → ℕ → Bool
placed_from book n zero f e = eqb f 0 && eqb e 0
placed_from book n (suc k) f e = places_onward (placed_from book (n + 1) k) (place_of book n f e)

-- 3: all blocks of the book have the form of their places, and nothing is due before the first or after the last
abbrev pub all_in_place : List ℕ → Bool
all_in_place book = placed_from book 0 (blocks book) 0 0

-- the refusal of a book in which a block has not the form of its place: 3, unless 2 comes first
unfoldable pub misplaced_scan : List ℕ → BookCheck
misplaced_scan book = cond (sums book) Form Sum

-- what a pass over the blocks finds: all of 2 before all of 3
unfoldable pub scan_of : List ℕ → BookCheck
scan_of book = cond (sums book) (cond (all_in_place book) Valid Form) Sum

-- 2 to 4 of a book: all of 2 before all of 3, all of 3 before 4, which is `distinct`: no two types of one name
unfoldable pub check_blocks : List ℕ → BookCheck
check_blocks book = cond (sums book) (cond (all_in_place book) (cond (distinct book) Valid Doubled) Form) Sum

-- the book in the first `len` bytes of a buffer: 1 before 2 to 4
unfoldable pub check_book : List ℕ → ℕ → BookCheck
check_book buffer len = cond (size_right (length buffer) len) (check_blocks (take len buffer)) Size

-- document 01's number of a book's check, 0 for a book that is not refused
unfoldable pub book_numbers : BookCheck → List ℕ
book_numbers Valid = 0 ∷ []
book_numbers Size = refusal.wrong_length ∷ []
book_numbers Sum = refusal.wrong_sum ∷ []
book_numbers Form = refusal.wrong_form ∷ []
book_numbers Doubled = refusal.doubled_name ∷ []

-- document 01's term: a valid book passes 1 to 4
abbrev pub ValidBook : List ℕ → Type 0
ValidBook book = check_book book (length book) ≡ Valid

-- document 01's number and value of a root's check: 0 and the root's block, or the refusal
unfoldable pub root_numbers : RootCheck → List ℕ
root_numbers (Root n) = 0 ∷ n ∷ []
root_numbers (Refused n) = n ∷ []

-- 5: the root is the number of a type block
unfoldable pub root_of : List ℕ → ℕ → RootCheck
root_of book root = cond (ltb root (blocks book) && is_type book root) (Root root) (Refused refusal.wrong_root)

-- 1 to 4 before 5
unfoldable pub check_root : List ℕ → ℕ → ℕ → RootCheck
check_root buffer len root =
    cond (eqb (refusal_of (book_numbers (check_book buffer len))) 0)
    (root_of (take len buffer) root)
    (Refused (refusal_of (book_numbers (check_book buffer len))))

-- what a call with a root answers: its refusal for 1 to 5, else what is said of the root block
unfoldable pub at_root : {A : Type 0} → (ℕ → A) → (ℕ → A) → RootCheck → A
at_root refuse go (Root t) = go t
at_root refuse go (Refused n) = refuse n
