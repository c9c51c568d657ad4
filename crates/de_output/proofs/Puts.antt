-- What a record or a text that is put does, as a trace of one event. Assumes nothing.
use Rattle.std.specs.Prelude.{Option, Some, None}
use mathlib.Core.Path.{◌≡◌, refl, sym, ◌∙◌}
use mathlib.Core.Bool.{Bool, true, false, cond}
use mathlib.Core.List.{List, [], ◌∷◌, ◌++◌, append-nil}
use Prim.Native.Nat.{ℕ, ◌+◌, ◌-◌, ◌≤◌, ◌<◌}
use native.Mathlib.Omega.{arith}
use lib.ListN.{length}
use Rattle.std.proofs.lemmas.Bool.{and_right}
use Rattle.enc_utf_8.specs.Buffer.{splice, fits_in, Wrote}
use Rattle.enc_utf_8.proofs.Splices.{splice-none, fits-none, fits_not, next-full, Went, went, stayed}
use Rattle.tape.specs.Record.{record_bytes}
use Rattle.tape.specs.declared.record.Record.{Record}
use Rattle.tape.proofs.Records.{length-record}
use lib.Dec.{leb}
use borrow.Author.Tests.{leb-true, leb-false}
use Rattle.de_output.specs.declared.Step.TheVariants.{Next, Stop}
use Rattle.de_output.specs.Trace.{TapeEvent, rec, text, text_record, text_bytes, tape_bytes, events_of, end_of, one, fits, step_of, fitting, Ran}
use Rattle.de_output.proofs.Runs.{fitting-all}

not-fits : (b : Bool) (xs out : List ℕ) (at : ℕ) → fits_in xs at (length out) ≡ b → None ≡ cond b (Some (at + length xs)) None → b ≡ false
not-fits true xs out at e a = next-full (sym a)
not-fits false xs out at e a = refl

over : {xs out out' : List ℕ} {at : ℕ} {p : Option ℕ} → Wrote xs out at p out' → p ≡ None → fits_in xs at (length out) ≡ false
over {xs} {out} {out'} {at} {p} w e = not-fits (fits_in xs at (length out)) xs out at refl (sym e ∙ w.answer)

-- one event that does not fit: nothing is put
none_put : (e : TapeEvent) (tape txt : List ℕ) (at from : ℕ) → fits (e ∷ []) at from (length tape) (length txt) ≡ false → Ran (one e) tape txt at from (Stop 15 0) tape txt
unfolding step_of events_of fitting tape_bytes text_bytes
none_put e tape txt at from h = record { answer = rw h; wrote = rw h (sym (splice-none tape at)); told = rw h (sym (splice-none txt from)) }

-- ---- a record

module _ (r : Record) (tape txt : List ℕ) (at from : ℕ) {p : Option ℕ} {tape' : List ℕ} (h : Wrote (record_bytes r) tape at p tape') where
  record-over : p ≡ None → fits (rec r ∷ []) at from (length tape) (length txt) ≡ false
  unfolding fits tape_bytes
  record-over e = rw (append-nil (record_bytes r), over h e)

  pub record-full : p ≡ None → Ran (one (rec r)) tape txt at from (Stop 15 0) tape' txt
  record-full e = rw (stayed h e).buffer (none_put (rec r) tape txt at from (record-over e))

  module _ (n : ℕ) (e : p ≡ Some n) where
    put_there : Went (record_bytes r) tape at n tape'
    put_there = went h e

    record-fits : fits (rec r ∷ []) at from (length tape) (length txt) ≡ true
    unfolding fits tape_bytes text_bytes
    record-fits = rw (append-nil (record_bytes r), put_there.fits, fits-none from (length txt))

    record-answer : Next n from ≡ step_of (one (rec r)) (length tape) (length txt) at from
    unfolding step_of events_of end_of tape_bytes text_bytes
    record-answer = let z : from + 0 ≡ from = omega arith in rw (record-fits, append-nil (record_bytes r), z, put_there.place)

    record-wrote : tape' ≡ splice tape at (tape_bytes from (rec r ∷ []))
    unfolding tape_bytes
    record-wrote = rw (append-nil (record_bytes r)) put_there.buffer

    record-told : txt ≡ splice txt from (text_bytes (rec r ∷ []))
    unfolding text_bytes
    record-told = sym (splice-none txt from)

    pub record-done : Ran (one (rec r)) tape txt at from (Next n from) tape' txt
    unfolding events_of
    record-done =
        let q = fitting-all (rec r ∷ []) at from (length tape) (length txt) record-fits in
        record { answer = record-answer; wrote = rw q record-wrote; told = rw q record-told }

-- ---- a text and its record

-- the tape has no room for a text's record
pub text-short : (w d : ℕ) (xs tape txt : List ℕ) (at from : ℕ) (b : Bool) → b ≡ leb (at + 24) (length tape) → b ≡ false → Ran (one (text w d xs)) tape txt at from (Stop 15 0) tape txt
unfolding fits tape_bytes
text-short w d xs tape txt at from b e h =
    none_put (text w d xs) tape txt at from (rw (append-nil (record_bytes (text_record w d from (length xs))), unfit))
  where
    unfit : fits_in (record_bytes (text_record w d from (length xs))) at (length tape) ≡ false
    unfit =
        let n = length-record (text_record w d from (length xs)) in
        let l : length tape < at + 24 = leb-false (at + 24) (length tape) (sym e ∙ h) in
        fits_not (record_bytes (text_record w d from (length xs))) at (length tape) (omega arith) (omega arith)

module _ (w d : ℕ) (xs tape txt : List ℕ) (at from : ℕ) {p : Option ℕ} {txt' : List ℕ} (h : Wrote xs txt from p txt') where
  text-over : p ≡ None → fits (text w d xs ∷ []) at from (length tape) (length txt) ≡ false
  unfolding fits tape_bytes text_bytes
  text-over e = rw (append-nil xs, over h e, and_right (fits_in (record_bytes (text_record w d from (length xs)) ++ []) at (length tape)) false refl)

  pub text-full : p ≡ None → Ran (one (text w d xs)) tape txt at from (Stop 15 0) tape txt'
  text-full e = rw (stayed h e).buffer (none_put (text w d xs) tape txt at from (text-over e))

  module _ (to : ℕ) (e : p ≡ Some to) {r : Option ℕ} {tape' : List ℕ} (on : Wrote (record_bytes (text_record w d from (to - from))) tape at r tape') where
    long : to - from ≡ length xs
    long = omega (arith, (went h e).place)

    -- where the record fits, it is not said to be too long
    pub text-never : (b : Bool) → b ≡ leb (at + 24) (length tape) → b ≡ true → {tape₁ txt₁ : List ℕ} → r ≡ None → Ran (one (text w d xs)) tape txt at from (Stop 15 0) tape₁ txt₁
    text-never b eb hb q =
        let n = length-record (text_record w d from (to - from)) in
        let l : at + 24 ≤ length tape = leb-true (at + 24) (length tape) (sym eb ∙ hb) in
        let o = (stayed on q).over in
        absurd (omega arith)

    module _ (n : ℕ) (q : r ≡ Some n) where
      in_text : Went xs txt from to txt'
      in_text = went h e

      on-tape : Went (record_bytes (text_record w d from (length xs))) tape at n tape'
      on-tape = went (rw long at on) q

      text-fits : fits (text w d xs ∷ []) at from (length tape) (length txt) ≡ true
      unfolding fits tape_bytes text_bytes
      text-fits = rw (append-nil (record_bytes (text_record w d from (length xs))), append-nil xs, in_text.fits, on-tape.fits)

      text-answer : Next n to ≡ step_of (one (text w d xs)) (length tape) (length txt) at from
      unfolding step_of events_of end_of tape_bytes text_bytes
      text-answer = rw (text-fits, append-nil (record_bytes (text_record w d from (length xs))), append-nil xs, in_text.place, on-tape.place)

      text-wrote : tape' ≡ splice tape at (tape_bytes from (text w d xs ∷ []))
      unfolding tape_bytes
      text-wrote = rw (append-nil (record_bytes (text_record w d from (length xs)))) on-tape.buffer

      text-told : txt' ≡ splice txt from (text_bytes (text w d xs ∷ []))
      unfolding text_bytes
      text-told = rw (append-nil xs) in_text.buffer

      pub text-done : Ran (one (text w d xs)) tape txt at from (Next n to) tape' txt'
      unfolding events_of
      text-done =
          let z = fitting-all (text w d xs ∷ []) at from (length tape) (length txt) text-fits in
          record { answer = text-answer; wrote = rw z text-wrote; told = rw z text-told }

-- the text of an earlier place comes before a later one
pub text-order : {xs txt txt' : List ℕ} {from to : ℕ} {p : Option ℕ} → Wrote xs txt from p txt' → p ≡ Some to → from ≤ to
text-order h e = omega (arith, (went h e).place)
