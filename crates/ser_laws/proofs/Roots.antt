-- A root however it is given: what is known of the block that it stands for, and what calls for it are. Assumes nothing.
use mathlib.Core.Path.{◌≡◌, refl, sym, ap, ◌∙◌}
use mathlib.Core.Bool.{Bool, true, false, cond}
use mathlib.Core.List.{List, []}
use Prim.Native.Nat.{ℕ, ◌<◌}
use borrow.Author.Tests.{eqb-true, lt-ltb}
use lib.ListN.{length, take}
use lib.Dec.{eqb}
use Rattle.type_book.specs.Book.{blocks, kind_of}
use Rattle.type_book_check.specs.Check.{check_book, book_numbers, root_of, check_root, at_root}
use Rattle.type_book_check.specs.declared.BookCheck.TheVariants.{Valid}
use Rattle.type_book_check.specs.declared.RootCheck.{RootCheck}
use Rattle.type_book_check.specs.declared.RootCheck.TheVariants as checked
use Rattle.type_book_check.specs.declared.GivenRoot.{GivenRoot}
use Rattle.type_book_check.specs.declared.GivenRoot.TheVariants.{Block, Lacking, Refused}
use Rattle.type_book_check.specs.Given.{Given, number, name, lacking_root, check_given, at_given}
use Rattle.type_book_check.proofs.Valid.{valid-below, valid_in, root-valid}
use Rattle.type_book_check.proofs.Givens.{named-valid, at-number}
use Rattle.tape_form.specs.Form.{formed}
use Rattle.de_output.specs.declared.Step.TheVariants.{Stop}
use Rattle.de_output.specs.declared.ReadAnswer.{ReadAnswer}
use Rattle.de_output.specs.declared.ReadAnswer.TheVariants as reading
use Rattle.de_output.specs.Trace.{events_of, end_of, fits, step_of, refuse}
use Rattle.de_output.specs.Answer.{read_answer_of, ReadIs}
use Rattle.de_output.proofs.Numbers.{read_is}
use Rattle.de.specs.Walk.{ctx}
use Rattle.de.specs.Read.{root_trace, read_trace, given_trace}
use Rattle.ser.specs.declared.WriteAnswer.{WriteAnswer}
use Rattle.ser.specs.declared.WriteAnswer.TheVariants.{Done}
use Rattle.ser.specs.declared.WriteAnswer.TheVariants as writing
use Rattle.ser.specs.Write.{write_ctx, refused}
use Rattle.ser.specs.Call.{lacking_write, book_write, write_call, given_write, write_answer_of, WriteIs}
use Rattle.ser.proofs.Numbers.{write_is}
use Rattle.ser_laws.specs.Touched.{leaves_of}
use Rattle.ser_laws.specs.Trip.{is_kept}
use Rattle.ser_laws.specs.Given.{given_leaves, given_kept}
use Rattle.ser_laws.proofs.Plain.{different}

-- a number that stands for a block was checked to be that one
number_root : (buffer : List ℕ) (len n m : ℕ) → check_given buffer len (number n) ≡ Block m → check_root buffer len n ≡ checked.Root m
unfolding at_given at_root
number_root buffer len n m e = by (check_root buffer len n) (sym (ap (at_given Refused Lacking Block) e) ∙ at-number Refused Lacking Block buffer len n)
  where
    by : (x : RootCheck) → Block m ≡ at_root Refused Block x → x ≡ checked.Root m
    by (checked.Root t) q = let z : t ≡ m = cc in ap checked.Root z
    by (checked.Refused k) q = different cc

-- the block that a root stands for passes the check of a number
pub block_checked : (buffer : List ℕ) (len : ℕ) (root : Given) (t : ℕ) → check_given buffer len root ≡ Block t → check_root buffer len t ≡ checked.Root t
unfolding check_root root_of book_numbers
block_checked buffer len (number n) t e =
    let h : check_root buffer len n ≡ checked.Root t = number_root buffer len n t e in
    let q : t ≡ n = (root-valid buffer len n t h).is in
    rw (← q) at h
block_checked buffer len (name bytes) t e =
    let v = named-valid buffer len bytes t e in
    let c : check_book buffer len ≡ Valid = valid_in buffer len v.fits v.valid in
    let l : t < blocks (take len buffer) = valid-below (take len buffer) v.valid t 0 (eqb-true (kind_of (take len buffer) t) 1 v.kind) in
    rw (c, lt-ltb t (blocks (take len buffer)) l, v.kind)

-- ---- a root that stands for block t: the calls are those for its number

module _ (buffer : List ℕ) (len : ℕ) (root : Given) (t : ℕ) (e : check_given buffer len root ≡ Block t) (width : ℕ) where
  pub block_write : (image : List ℕ) (room : ℕ) (tape text : List ℕ) → given_write buffer len width root image room tape text ≡ write_call buffer len width t image room tape text
  unfolding given_write write_call at_given at_root
  block_write image room tape text = rw (e, block_checked buffer len root t e)

  pub block_trace : (mem : List ℕ) → given_trace buffer len width root mem ≡ read_trace buffer len width t mem
  unfolding given_trace read_trace at_given at_root
  block_trace mem = rw (e, block_checked buffer len root t e)

  pub block_leaves : (size : ℕ) (tape text : List ℕ) → given_leaves buffer len width root size tape text ≡ leaves_of (write_ctx (take len buffer) width tape text) t size
  unfolding given_leaves at_given
  block_leaves size tape text = rw e

  pub block_kept : (mem : List ℕ) → given_kept buffer len width root mem ≡ is_kept (ctx (take len buffer) width) t mem
  unfolding given_kept at_given
  block_kept mem = rw e

-- ---- a root of an accepted call stands for a block

pub record Accepted (buffer : List ℕ) (len : ℕ) (root : Given) : Type 0 where
  pub block : ℕ
  pub is : check_given buffer len root ≡ Block block

refused_write : (k b : ℕ) (bytes : List ℕ) → write_answer_of (refused k b bytes) ≡ Done → ⊥
refused_write k b bytes = by (eqb k 7)
  where
    by : (x : Bool) → cond x (writing.NotFound b) (writing.Refused k) ≡ Done → ⊥
    by true h = different cc
    by false h = different cc

lacking_refused : (image : List ℕ) (x y : Bool) → write_answer_of (cond x (cond y (refused 7 lacking_root image) (refused 16 0 image)) (refused 10 0 image)) ≡ Done → ⊥
lacking_refused image true true h = different cc
lacking_refused image true false h = different cc
lacking_refused image false y h = different cc

module _ (buffer : List ℕ) (len width : ℕ) (root : Given) where
  pub accepted_write : (image output tape text : List ℕ) (r : WriteAnswer) (new : List ℕ) → WriteIs (given_write buffer len width root image (length output) tape text) image output r new → r ≡ Done
      → Accepted buffer len root
  unfolding given_write lacking_write at_given
  accepted_write image output tape text r new w d = by (check_given buffer len root) refl (sym (write_is _ _ w.answer) ∙ d)
    where
      by : (k : GivenRoot) → check_given buffer len root ≡ k
          → write_answer_of (at_given (λ k. refused k 0 image) (lacking_write (take len buffer) tape text (length output) image)
          (λ t. book_write (write_ctx (take len buffer) width tape text) t (length output) image) k) ≡ Done
          → Accepted buffer len root
      by (Block t) e h = record { block = t; is = e }
      by Lacking e h = absurd (lacking_refused image (eqb (length output) (length image)) (formed (take len buffer) tape text) h)
      by (Refused k) e h = absurd (refused_write k 0 image h)

  refused_read : (k b n m : ℕ) → reading.Done n m ≡ read_answer_of (Stop k b) → ⊥
  refused_read k b n m = by (eqb k 7)
    where
      by : (x : Bool) → reading.Done n m ≡ cond x (reading.NotFound b) (reading.Refused k) → ⊥
      by true h = different cc
      by false h = different cc

  stopped : (k b n m : ℕ) (x : Bool) → reading.Done n m ≡ read_answer_of (cond x (Stop k b) (Stop 15 0)) → ⊥
  stopped k b n m true h = refused_read k b n m h
  stopped k b n m false h = refused_read 15 0 n m h

  pub accepted_read : (mem tape txt : List ℕ) (r : ReadAnswer) (tape' txt' : List ℕ) (k m : ℕ) → ReadIs (given_trace buffer len width root mem) tape txt r tape' txt' → r ≡ reading.Done k m
      → Accepted buffer len root
  unfolding given_trace at_given step_of end_of events_of
  accepted_read mem tape txt r tape' txt' k m h d = by (check_given buffer len root) refl (sym d ∙ read_is _ _ h.answer)
    where
      by : (g : GivenRoot) → check_given buffer len root ≡ g
          → reading.Done k m ≡ read_answer_of (step_of (at_given (λ k. refuse k 0) (refuse 7 lacking_root) (λ t. root_trace (ctx (take len buffer) width) t mem) g) (length tape) (length txt) 0 0)
          → Accepted buffer len root
      by (Block t) e q = record { block = t; is = e }
      by Lacking e q = absurd (stopped 7 lacking_root k m (fits [] 0 0 (length tape) (length txt)) q)
      by (Refused i) e q = absurd (stopped i 0 k m (fits [] 0 0 (length tape) (length txt)) q)
