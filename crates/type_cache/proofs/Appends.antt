-- The call: one law for each way out. Assumes nothing.
use Rattle.std.specs.Prelude.{Option, Some, None}
use mathlib.Core.Path.{◌≡◌, refl, sym, ap, ◌∙◌}
use mathlib.Core.Bool.{Bool, true, false, cond}
use mathlib.Core.List.{List}
use Prim.Native.Nat.{ℕ, zero, suc, ◌+◌, ◌/◌, ◌≤◌, ◌<◌}
use native.Mathlib.Omega.{arith}
use borrow.Author.Tests.{eq-eqb, ne_eqb, le-leb, leb-true, eqb-true}
use native.Mathlib.Numerals.{add-one}
use lib.ListN.{length, get_or, take, set}
use lib.Seq.{length-take-le, take-length, paste, paste-zero, paste-suc}
use lib.Dec.{eqb, leb}
use Rattle.enc_number.specs.Answer.{refusal_of}
use Rattle.type_book.specs.Book.{name_of}
use Rattle.type_provider.specs.Find.{find, is_found}
use Rattle.type_book_check.specs.Check.{check_book, book_numbers}
use Rattle.type_book_check.specs.declared.BookCheck.{BookCheck}
use Rattle.type_book_check.specs.declared.BookCheck.TheVariants.{Valid, Size, Sum, Form, Doubled}
use Rattle.type_cache.specs.Append.{is_one_type, addition_check, addition_refusal, is_known, has_room, or_next, append_refusal, joined, CopyIs, append_call, append_buffer, AppendIs}
use Rattle.type_cache.specs.declared.Appended.TheVariants.{Done, Refused}
use Rattle.type_book_check.proofs.Numbers.{zero-valid}
use Rattle.type_cache.proofs.Checked.{and_left, and_right, book-fits}
use Rattle.type_cache.proofs.Numbers.{appended-says}

-- ---- the addition by itself
pub addition_one : (addition : List ℕ) (c : BookCheck) → c ≡ check_book addition (length addition) → c ≡ Valid → (t : Bool) → t ≡ is_one_type addition → t ≡ true → 0 ≡ addition_refusal addition
unfolding addition_check book_numbers
addition_one addition c e h t q g = rw (← e, h, ← q, g)

valid-one : (k : BookCheck) (one : Bool) → refusal_of (book_numbers (addition_check k one)) ≡ 0 → k ≡ Valid
unfolding addition_check book_numbers
valid-one Valid one h = refl
valid-one Size one h = absurd (omega arith)
valid-one Sum one h = absurd (omega arith)
valid-one Form one h = absurd (omega arith)
valid-one Doubled one h = absurd (omega arith)

single : (one : Bool) → refusal_of (book_numbers (addition_check Valid one)) ≡ 0 → one ≡ true
unfolding addition_check book_numbers
single true h = refl
single false h = absurd (omega arith)

-- an addition that is not refused is a valid book of one type
module _ (addition : List ℕ) (z : addition_refusal addition ≡ 0) where
  pub addition_valid : check_book addition (length addition) ≡ Valid
  addition_valid = valid-one _ _ z

  pub addition_single : is_one_type addition ≡ true
  addition_single = single _ (rw addition_valid at z)

-- ---- a known name
module _ (book name : List ℕ) (r : Option ℕ) (e : r ≡ find book name) where
  pub known_at : (n : ℕ) → r ≡ Some n → true ≡ is_known book name
  known_at n h = rw (← e, h)

  pub known-not : r ≡ None → false ≡ is_known book name
  known-not h = rw (← e, h)

not_found_lem : (r : Option ℕ) → is_found r ≡ false → r ≡ None
not_found_lem (Some n) h = cc
not_found_lem None h = refl

pub unknown : (book name : List ℕ) → is_known book name ≡ false → find book name ≡ None
unknown book name h = not_found_lem _ h

-- ---- the room
module _ (room len more : ℕ) where
  pub room-is : len + more ≤ room → (len + more) / 512 ≤ 65536 → has_room room len more ≡ true
  unfolding has_room
  room-is h g = rw (le-leb (len + more) room h, le-leb ((len + more) / 512) 65536 g)

  pub room_fits : has_room room len more ≡ true → len + more ≤ room
  unfolding has_room
  room_fits h = leb-true _ _ (and_left _ _ h)

  pub room-few : has_room room len more ≡ true → (len + more) / 512 ≤ 65536
  unfolding has_room
  room-few h = leb-true _ _ (and_right (leb (len + more) room) _ h)

-- ---- one refusal after another
or_stop : (n k : ℕ) → (n ≡ 0 → ⊥) → or_next n k ≡ n
unfolding or_next
or_stop zero k h = absurd (h refl)
or_stop (suc n) k h = refl

or_next_lem : (n k : ℕ) → n ≡ 0 → or_next n k ≡ k
unfolding or_next
or_next_lem zero k h = refl
or_next_lem (suc n) k h = absurd (omega arith)

or_left : (n k : ℕ) → or_next n k ≡ 0 → n ≡ 0
unfolding or_next
or_left zero k h = refl
or_left (suc n) k h = h

or_right : (n k : ℕ) → or_next n k ≡ 0 → k ≡ 0
or_right n k h = sym (or_next_lem n k (or_left n k h)) ∙ h

module _ (buffer : List ℕ) (len : ℕ) (addition : List ℕ) where
  module _ (c : BookCheck) (ec : c ≡ check_book buffer len) (b : ℕ) (eb : b ≡ refusal_of (book_numbers c)) where
    pub refused-book : (b ≡ 0 → ⊥) → b ≡ append_refusal buffer len addition
    unfolding append_refusal
    refused-book h = rw (← ec, ← eb) (sym (or_stop b _ h))

    module _ (zb : b ≡ 0) where
      pub refused-cut : len ≡ length (take len buffer)
      refused-cut = sym (length-take-le len buffer (book-fits buffer len (sym ec ∙ zero-valid c (sym eb ∙ zb))))

      pub refused-fits : len ≤ length buffer
      refused-fits = book-fits buffer len (sym ec ∙ zero-valid c (sym eb ∙ zb))

      module _ (a : ℕ) (ea : a ≡ addition_refusal addition) where
        pub refused_addition : (a ≡ 0 → ⊥) → a ≡ append_refusal buffer len addition
        unfolding append_refusal
        refused_addition h = rw (← ec, ← eb, or_next_lem b _ zb, ← ea) (sym (or_stop a _ h))

        module _ (za : a ≡ 0) (name : List ℕ) (en : name ≡ name_of addition 0) (k : Bool) (ek : k ≡ is_known (take len buffer) name) where
          onward : append_refusal buffer len addition ≡ cond k 4 (cond (has_room (length buffer) len (length addition)) 0 15)
          unfolding append_refusal
          onward = rw (← ec, ← eb, or_next_lem b _ zb, ← ea, or_next_lem a _ za, ← en, ← ek)

          pub refused-known : k ≡ true → 4 ≡ append_refusal buffer len addition
          refused-known h = sym (onward ∙ rw h)

          module _ (zk : k ≡ false) (t : Bool) (et : t ≡ has_room (length buffer) len (length addition)) where
            pub refused_none : t ≡ true → 0 ≡ append_refusal buffer len addition
            refused_none h = sym (onward ∙ rw (zk, ← et, h))

            pub refused-room : t ≡ false → 15 ≡ append_refusal buffer len addition
            refused-room h = sym (onward ∙ rw (zk, ← et, h))

-- ---- what is appended, and when
pub record Accepted (buffer : List ℕ) (len : ℕ) (addition : List ℕ) : Type 0 where
  pub book : check_book buffer len ≡ Valid
  pub one : addition_refusal addition ≡ 0
  pub new : is_known (take len buffer) (name_of addition 0) ≡ false
  pub room : has_room (length buffer) len (length addition) ≡ true

last-new : (k t : Bool) → ◌≡◌ {A = ℕ} (cond k 4 (cond t 0 15)) 0 → k ≡ false
last-new true t h = absurd (omega arith)
last-new false t h = refl

last-room : (k t : Bool) → ◌≡◌ {A = ℕ} (cond k 4 (cond t 0 15)) 0 → t ≡ true
last-room true t h = absurd (omega arith)
last-room false true h = refl
last-room false false h = absurd (omega arith)

module _ (buffer : List ℕ) (len : ℕ) (addition : List ℕ) where
  pub accepted : append_refusal buffer len addition ≡ 0 → Accepted buffer len addition
  unfolding append_refusal
  accepted h =
      let a = or_right (refusal_of (book_numbers (check_book buffer len))) _ h in
      let l = or_right (addition_refusal addition) _ a in
      record {
        book = zero-valid _ (or_left _ _ h);
        one = or_left _ _ a;
        new = last-new (is_known (take len buffer) (name_of addition 0)) (has_room (length buffer) len (length addition)) l;
        room = last-room (is_known (take len buffer) (name_of addition 0)) (has_room (length buffer) len (length addition)) l;
      }

  pub accepts : Accepted buffer len addition → append_refusal buffer len addition ≡ 0
  unfolding append_refusal book_numbers
  accepts a = rw (a.book, a.one, a.new, a.room, or_next_lem 0 _ refl, or_next_lem 0 _ refl)

  -- the answer tells an accepted addition from a refused one
  pub call_done : append_refusal buffer len addition ≡ 0 → append_call buffer len addition ≡ Done (len + length addition)
  unfolding append_call
  call_done h = rw (eq-eqb (append_refusal buffer len addition) 0 h)

  pub call_refused : (append_refusal buffer len addition ≡ 0 → ⊥) → append_call buffer len addition ≡ Refused (append_refusal buffer len addition)
  unfolding append_call
  call_refused h = rw (ne_eqb (append_refusal buffer len addition) 0 h)

  pub done_none : (n : ℕ) → append_call buffer len addition ≡ Done n → append_refusal buffer len addition ≡ 0
  unfolding append_call
  done_none n h = by (eqb (append_refusal buffer len addition) 0) refl h
    where
      by : (t : Bool) → eqb (append_refusal buffer len addition) 0 ≡ t
          → cond t (Done (len + length addition)) (Refused (append_refusal buffer len addition)) ≡ Done n → append_refusal buffer len addition ≡ 0
      by true e g = eqb-true _ _ e
      by false e g = let z : ◌≡◌ {A = ℕ} 0 1 = cc in absurd (omega arith)

  -- and so does the buffer
  pub buffer-done : append_refusal buffer len addition ≡ 0 → append_buffer buffer len addition ≡ joined buffer len addition
  unfolding append_buffer
  buffer-done h = rw (eq-eqb (append_refusal buffer len addition) 0 h)

  pub buffer-kept : (append_refusal buffer len addition ≡ 0 → ⊥) → append_buffer buffer len addition ≡ buffer
  unfolding append_buffer
  buffer-kept h = rw (ne_eqb (append_refusal buffer len addition) 0 h)

  module _ (r : ℕ) (e : r ≡ append_refusal buffer len addition) where
    pub append_refused : (r ≡ 0 → ⊥) → AppendIs buffer len addition (Refused r) buffer
    unfolding append_call append_buffer
    append_refused h = record { answer = appended-says _ _ (rw (← e, ne_eqb r 0 h)); bytes = rw (← e, ne_eqb r 0 h) }

    module _ (z : r ≡ 0) where
      pub append_fits : len + length addition ≤ length buffer
      append_fits = room_fits _ _ _ (accepted (sym e ∙ z)).room

      pub append_done : (n : ℕ) (after : List ℕ) → CopyIs buffer len addition n after → AppendIs buffer len addition (Done n) after
      unfolding append_call append_buffer
      append_done n after o = record { answer = appended-says _ _ (rw (← e, eq-eqb r 0 z) (ap Done o.new)); bytes = rw (← e, eq-eqb r 0 z) o.bytes }

-- ---- the loop of `copy`
module _ (buffer : List ℕ) (len : ℕ) (addition : List ℕ) where
  pub copy_start : buffer ≡ paste buffer len addition 0
  copy_start = paste-zero buffer len addition

  module _ (l : len + length addition ≤ length buffer) (i : ℕ) (now : List ℕ) (inv : now ≡ paste buffer len addition i) where
    pub copy_again : i < length addition → set now (len + i) (get_or addition i 0) ≡ paste buffer len addition (i + 1)
    copy_again h = rw (inv, add-one) (paste-suc buffer len addition i 0 (omega arith) h)

    pub copy_end : length addition ≤ i → i ≤ length addition → CopyIs buffer len addition (len + length addition) now
    copy_end h g =
        let q : i ≡ length addition = omega arith in
        record { new = refl; bytes = inv ∙ rw (q, take-length addition) }
