-- What the answers tell a caller: how it comes to a valid book and a type block, which the forms whose names end in `_in` want, and what the number that
-- a write returned says of its output. Assumes nothing.
use mathlib.Core.Path.{◌≡◌, refl, sym, ap, ◌∙◌}
use mathlib.Core.Bool.{Bool, true, false, cond}
use mathlib.Core.List.{List, ◌∷◌}
use Prim.Native.Nat.{ℕ, zero, suc, ◌+◌}
use native.Mathlib.Omega.{arith}
use lib.ListN.{length, take}
use lib.Dec.{eqb}
use borrow.Author.Tests.{ne_eqb}
use Rattle.type_book.specs.Book.{is_type}
use Rattle.type_book_check.specs.Check.{check_book, book_numbers, ValidBook}
use Rattle.type_book_check.specs.Given.{Given}
use Rattle.type_book_check.proofs.Numbers.{zero-valid}
use Rattle.type_book_check.proofs.Valid.{valid-book}
use Rattle.type_cache.specs.declared.Appended.TheVariants.{Done, Refused}
use Rattle.type_cache.specs.Append.{appended_numbers, append_refusal, append_call}
use Rattle.type_cache.proofs.Adds.{grown}
use Rattle.type_index.specs.Trust.{holds_all, Trusted}
use Rattle.enc_number.specs.Answer.{refusal_of, truth_number}
use Rattle.gateway_appending.specs.Growth.{trust_of}
use Rattle.gateway_appending.proofs.Next.{Next, held-said, given-next}
use Rattle.ser.specs.Write.{Outcome, went, refused}
use Rattle.ser.specs.Call.{given_write, write_numbers}
use Rattle.gateway_write_answers.specs.Answers.{is_written, Numbered}
use Rattle.gateway_write_answers.proofs.Given.{given_numbered}
use Rattle.gateway.specs.Calls.{AppendGiven, AppendInGiven, WriteGiven}

-- `gateway_check_book` returned 0
pub book-checked : (buffer : List ℕ) (len : ℕ) → refusal_of (book_numbers (check_book buffer len)) ≡ 0 → ValidBook (take len buffer)
book-checked buffer len e = valid-book buffer len (zero-valid _ e)

one-true : (b : Bool) → truth_number b ≡ 1 → b ≡ true
one-true true e = refl
one-true false e = absurd (omega arith)

-- `gateway_is_type` returned 1
pub root-checked : (book : List ℕ) (n : ℕ) → truth_number (is_type book n) ≡ 1 → is_type book n ≡ true
root-checked book n e = one-true (is_type book n) e

none-refused : (n k : ℕ) → 0 ≡ refusal_of (appended_numbers (cond (eqb n 0) (Done k) (Refused n))) → n ≡ 0
unfolding appended_numbers
none-refused zero k e = refl
none-refused (suc n) k e = sym (rw (ne_eqb (suc n) 0 (λ q. omega arith)) at e)

-- `gateway_append` returned 0: the longer book needs no check
pub append_checked : (buffer : List ℕ) (len : ℕ) (piece : List ℕ) {before buffer' after : List ℕ} → AppendGiven buffer len piece before 0 buffer' after
    → ValidBook (take (len + length piece) buffer')
unfolding append_call
append_checked buffer len piece {buffer' = buffer'} a =
    let z : append_refusal buffer len piece ≡ 0 = none-refused _ _ (a.gives.is ∙ ap refusal_of a.by.answer) in
    valid-book buffer' (len + length piece) (rw a.by.bytes (grown buffer len piece z).check)

-- `gateway_index_holds` returned 1: that may be said of the index
pub index-checked : (book index : List ℕ) → truth_number (holds_all book index) ≡ 1 → Trusted book index (trust_of 1)
index-checked book index e = held-said book index (one-true (holds_all book index) e)

-- `gateway_append_in` returned 0: the longer book needs no check, and the second value is what may be said of the index the next time
pub append_in_next : {buffer piece index buffer' index' : List ℕ} {len held : ℕ} (x y : ℕ) (rest : List ℕ) (n h : ℕ) (more : List ℕ)
    → AppendInGiven buffer len piece index held (x ∷ y ∷ rest) 0 buffer' index' (n ∷ h ∷ more) → Next buffer' index' n h
append_in_next x y rest n h more a = given-next a.answer a.by x y rest n h more a.gives

-- `gateway_write` returned 0: something was written, and the output is that (`call_numbered` and `book-numbered` of `gateway_write_answers` give the premise)
pub write_done : (o : Outcome) {image output before output' after : List ℕ} → Numbered o → WriteGiven o image output before 0 output' after → is_written o ≡ true
write_done o n g = n.nought (sym (g.gives.is ∙ ap refusal_of g.by.answer))

-- so of a write for a root however it is given, `gateway_write_named` too
pub given_write_done : (buffer : List ℕ) (len width : ℕ) (root : Given) (image output tape text : List ℕ) {before output' after : List ℕ}
    → WriteGiven (given_write buffer len width root image (length output) tape text) image output before 0 output' after
    → is_written (given_write buffer len width root image (length output) tape text) ≡ true
given_write_done buffer len width root image output tape text g =
    (given_numbered buffer len width root image (length output) tape text).nought (sym (g.gives.is ∙ ap refusal_of g.by.answer))

-- it returned another number: an output as long as the image is the image
pub write_kept : (o : Outcome) {image output before output' after : List ℕ} {r : ℕ} → WriteGiven o image output before r output' after → (r ≡ 0 → ⊥)
    → eqb (length output) (length image) ≡ true → output' ≡ image
unfolding write_numbers
write_kept (went at bytes) g h e = absurd (h (g.gives.is ∙ ap refusal_of g.by.answer))
write_kept (refused n b bytes) g h e = rw e at g.by.output_is

-- whatever it returned: an output of another length is as before
pub write_other : (o : Outcome) {image output before output' after : List ℕ} {r : ℕ} → WriteGiven o image output before r output' after
    → eqb (length output) (length image) ≡ false → output' ≡ output
write_other o g e = rw e at g.by.output_is
