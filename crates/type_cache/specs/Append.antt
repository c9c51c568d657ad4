-- Appending one type's blocks to the book that fills the first `len` bytes of a buffer (document 01, "The type book" and the last
-- paragraph of its refusals). Assumes nothing.
use Rattle.std.specs.Prelude.{◌≡◌, Bool, cond, ◌&&◌, List, [], ◌∷◌, ◌++◌, ℕ, zero, suc, ◌+◌, ◌/◌, length, take, drop, eqb, leb}
use Rattle.enc_number.specs.Answer.{refusal_of}
use Rattle.enc_number.specs.Refusals as refusal
use Rattle.type_book.specs.Book.{blocks, fields_of, entries_of, name_of}
use Rattle.type_provider.specs.Find.{find, is_found}
use Rattle.type_book_check.specs.Check.{check_book, book_numbers}
use Rattle.type_book_check.specs.declared.BookCheck.{BookCheck}
use Rattle.type_book_check.specs.declared.BookCheck.TheVariants.{Valid, Size, Sum, Form, Doubled}
use Rattle.type_cache.specs.declared.Appended.{Appended}
use Rattle.type_cache.specs.declared.Appended.TheVariants.{Done, Refused}

-- document 01's number and value of what appending answers: 0 and the book's new length, or the refusal
unfoldable pub appended_numbers : Appended → List ℕ
appended_numbers (Done n) = 0 ∷ n ∷ []
appended_numbers (Refused n) = n ∷ []

-- of an addition that is a book by itself: the first type, with its fields and entries, is all of it
abbrev pub is_one_type : List ℕ → Bool
is_one_type addition = eqb (fields_of addition 0 + entries_of addition 0 + 1) (blocks addition)

-- how a book's check is taken for an addition: what is not one whole type, and so two types of one name, is of the wrong form
unfoldable pub addition_check : BookCheck → Bool → BookCheck
addition_check Valid one = cond one Valid Form
addition_check Size one = Size
addition_check Sum one = Sum
addition_check Form one = Form
addition_check Doubled one = Form

-- 1, 2 and 3 of the addition by itself, 0 if there is none
abbrev pub addition_refusal : List ℕ → ℕ
addition_refusal addition = refusal_of (book_numbers (addition_check (check_book addition (length addition)) (is_one_type addition)))

-- 4: the book has a type of that name, whatever its definition
abbrev pub is_known : List ℕ → List ℕ → Bool
is_known book name = is_found (find book name)

-- 15 otherwise: the longer book fits the buffer, and has at most 65,536 blocks
unfoldable pub has_room : ℕ → ℕ → ℕ → Bool
has_room room len more = leb (len + more) room && leb ((len + more) / 512) 65536

-- the first of two refusals, where 0 is none
unfoldable pub or_next : ℕ → ℕ → ℕ
or_next zero next = next
or_next (suc n) next = suc n

-- the book's 1 to 4, then the addition's 1 to 3, then 4 for a known name, then 15; 0 if there is none
unfoldable pub append_refusal : List ℕ → ℕ → List ℕ → ℕ
append_refusal buffer len addition =
    or_next (refusal_of (book_numbers (check_book buffer len)))
    (or_next (addition_refusal addition)
    (cond (is_known (take len buffer) (name_of addition 0)) refusal.doubled_name
    (cond (has_room (length buffer) len (length addition)) 0 refusal.no_room)))

-- the book, the addition after it, and the rest of the buffer as before
abbrev pub joined : List ℕ → ℕ → List ℕ → List ℕ
joined buffer len addition = take len buffer ++ addition ++ drop (len + length addition) buffer

-- what a copy leaves: the joined buffer, and the length of the book with the addition
pub record CopyIs (buffer : List ℕ) (len : ℕ) (addition : List ℕ) (r : ℕ) (after : List ℕ) : Type 0 where
  pub new : r ≡ len + length addition
  pub bytes : after ≡ joined buffer len addition

-- the answer: the book's new length, or the refusal
unfoldable pub append_call : List ℕ → ℕ → List ℕ → Appended
append_call buffer len addition =
    let refusal = append_refusal buffer len addition in cond (eqb refusal 0) (Done (len + length addition)) (Refused refusal)

-- the buffer afterwards: unchanged by a refusal
unfoldable pub append_buffer : List ℕ → ℕ → List ℕ → List ℕ
append_buffer buffer len addition = cond (eqb (append_refusal buffer len addition) 0) (joined buffer len addition) buffer

-- what the call promises: its answer, and every byte of the buffer
pub record AppendIs (buffer : List ℕ) (len : ℕ) (addition : List ℕ) (r : Appended) (after : List ℕ) : Type 0 where
  pub answer : appended_numbers r ≡ appended_numbers (append_call buffer len addition)
  pub bytes : after ≡ append_buffer buffer len addition
