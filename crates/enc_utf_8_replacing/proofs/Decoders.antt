-- The exits and the loops of the decoder's functions. Assumes nothing.
use Rattle.std.specs.Prelude.{Option, Some, None}
use mathlib.Core.Path.{◌≡◌, refl, sym, ap, ◌∙◌}
use mathlib.Core.Bool.{Bool, true, false}
use mathlib.Core.List.{List, [], ◌∷◌, ◌++◌}
use Prim.Native.Nat.{ℕ, ◌+◌, ◌-◌, ◌/◌, ◌≤◌, ◌<◌}
use native.Mathlib.Omega.{arith}
use lib.ListN.{length, take, drop, length-append, length-drop}
use lib.Seq.{length-take-le, take_all}
use lib.Dec.{leb, eqb}
use borrow.Author.Tests.{le-leb, lt-leb, leb-true, leb-false, eq-eqb}
use Rattle.enc_utf_8.specs.Buffer.{Wrote, Laid, room_for}
use Rattle.enc_utf_8.specs.Utf8.{utf8_of, well_formed, ValidTo, Stretch}
use Rattle.enc_utf_8.proofs.Splices.{wrote_as}
use Rattle.enc_utf_8.proofs.Lays.{Rest, rest_all, rest-room, rest-next, rest_end, laid_as, put_went, put_never, room_fits, room-over, count-all, wrote-laid, wrote-over}
use Rattle.enc_utf_8_replacing.specs.Text.{decode8_text}
use Rattle.enc_utf_8_replacing.specs.Step.{ScalarAt, TextAt}
use Rattle.enc_utf_8_replacing.proofs.Texts.{text-formed, text-part, text-scalar, text-end, decode-some}

-- ---- formed_end

module _ (bytes : List ℕ) (at : ℕ) (l : at ≤ length bytes) (r : ℕ) (v : ValidTo (take (length bytes - at) (drop at bytes)) r) where
  whole : take (length bytes - at) (drop at bytes) ≡ drop at bytes
  whole = take_all (length bytes - at) (drop at bytes) (omega (arith, length-drop at bytes))

  pub end-within : at + r ≤ length bytes
  end-within = omega (arith, v.within, ap length whole, length-drop at bytes)

  pub end-formed : Stretch bytes at (at + r)
  end-formed = record {
    order = omega arith;
    within = end-within;
    formed = let k : at + r - at ≡ r = omega arith in rw k (rw whole at v.begins);
  }

-- ---- measure

module _ (bytes : List ℕ) (at : ℕ) where
  pub measured_part : (e : ℕ) → Stretch bytes at e → at < e → TextAt bytes at (e - at) e
  measured_part e f l =
      let k = length-take-le (e - at) (drop at bytes) (omega (arith, length-drop at bytes, f.within)) in
      record {
        is = ap length (text-part bytes at e f) ∙ length-append (take (e - at) (drop at bytes)) _ ∙ rw k;
        later = l;
        within = f.within;
      }

  pub measured_scalar : (code next n : ℕ) → ScalarAt bytes at code next → n ≡ length (utf8_of code) → TextAt bytes at n next
  measured_scalar code next n s e = record {
    is = ap length (text-scalar bytes at code next s) ∙ length-append (utf8_of code) _ ∙ rw e;
    later = s.later;
    within = s.within;
  }

-- ---- decoded_len

module _ (bytes : List ℕ) (at used all : ℕ) (inv : used + length (decode8_text (drop at bytes)) ≡ all) where
  pub length-again : (size next : ℕ) → TextAt bytes at size next → used + size + length (decode8_text (drop next bytes)) ≡ all
  length-again size next h = omega (arith, h.is)

  pub length_over : (size next room : ℕ) → TextAt bytes at size next → used ≤ room → room - used < size → None ≡ room_for all room
  length_over size next room h l s = sym (rw (lt-leb all room (omega (arith, h.is))))

  pub length-fits : (room : ℕ) → used ≤ room → length bytes ≤ at → Some used ≡ room_for all room
  length-fits room l h =
      let z : used ≡ all = omega (arith, ap length (text-end bytes at h)) in
      sym (rw (← z, le-leb used room l))

-- ---- fits_in

module _ (len room : ℕ) (r : Option ℕ) (e : r ≡ room_for len room) where
  pub measured_fits : (n : ℕ) → r ≡ Some n → true ≡ leb len room
  measured_fits n q = sym (le-leb len room (room_fits n len room e q).fits)

  pub measured_over : r ≡ None → false ≡ leb len room
  measured_over q = sym (lt-leb len room (room-over len room e q))

-- ---- put_part, put_scalar

module _ (xs out out₁ : List ℕ) (at : ℕ) (h : at + length xs ≤ length out) (r : Option ℕ) (w : Wrote xs out at r out₁) where
  pub part-went : (n : ℕ) → r ≡ Some n → Laid xs out at n out₁
  part-went n q = put_went n w q

  pub part-never : r ≡ None → Laid xs out at at out₁
  part-never q = put_never h w q

-- ---- put_text

pub first_stretch : (bytes : List ℕ) (formed : ℕ) → ValidTo bytes formed → Stretch bytes 0 formed
first_stretch bytes formed v = record {
  order = omega arith;
  within = v.within;
  formed = let k : formed - 0 ≡ formed = omega arith in rw k v.begins;
}

module _ (xs out bytes out₁ : List ℕ) (at from end to : ℕ) (q : Rest xs out at (decode8_text (drop from bytes)) out₁ to) (f : Stretch bytes from end) where
  pub part_room : to + length (take (end - from) (drop from bytes)) ≤ length out₁
  part_room = rest-room (take (end - from) (drop from bytes)) (decode8_text (drop end bytes)) q (text-part bytes from end f)

  module _ (n : ℕ) (out₂ : List ℕ) (l : Laid (take (end - from) (drop from bytes)) out₁ to n out₂) where
    passed : Rest xs out at (decode8_text (drop end bytes)) out₂ n
    passed = rest-next q (text-part bytes from end f) l

    module _ (code next : ℕ) (s : ScalarAt bytes end code next) where
      pub scalar-room : n + length (utf8_of code) ≤ length out₂
      scalar-room = rest-room (utf8_of code) (decode8_text (drop next bytes)) passed (text-scalar bytes end code next s)

      pub text-again : (m : ℕ) (out₃ : List ℕ) → Laid (utf8_of code) out₂ n m out₃ → Rest xs out at (decode8_text (drop next bytes)) out₃ m
      text-again m out₃ k = rest-next passed (text-scalar bytes end code next s) k

    pub text-done : length bytes ≤ end → Laid xs out at n out₂
    text-done h = rest_end passed (text-end bytes end h)

pub text-less : (bytes : List ℕ) (end code next end' : ℕ) → ScalarAt bytes end code next → Stretch bytes next end' → end < length bytes → length bytes - end' < length bytes - end
text-less bytes end code next end' s f h = omega (arith, s.later, s.within, f.order, f.within)

-- ---- decode

module _ (bytes out : List ℕ) (at v : ℕ) (e : well_formed bytes ≡ eqb v (length bytes)) where
  pub decode-copied : (r : Option ℕ) (out₁ : List ℕ) → v ≡ length bytes → Wrote bytes out at r out₁ → Wrote (decode8_text bytes) out at r out₁
  decode-copied r out₁ h w = wrote_as (text-formed bytes (e ∙ eq-eqb v (length bytes) h)) w

pub decode-room : (len room at : ℕ) (t : Bool) → at ≤ room → t ≡ leb len (room - at) → t ≡ true → at + len ≤ room
decode-room len room at t h e q = omega (arith, leb-true len (room - at) (sym e ∙ q))

module _ (bytes out : List ℕ) (at v : ℕ) (k : ValidTo bytes v) (n : v ≡ length bytes → ⊥) where
  some : 0 < length (decode8_text bytes)
  some = decode-some bytes (omega (arith, k.within, n))

  pub decode-past : length out < at → Wrote (decode8_text bytes) out at None out
  decode-past h = wrote-over (decode8_text bytes) out at (omega arith) some

  module _ (t : Bool) (h : at ≤ length out) (e : t ≡ leb (length (decode8_text bytes)) (length out - at)) where
    pub decode-over : t ≡ false → Wrote (decode8_text bytes) out at None out
    decode-over q =
        let o = leb-false (length (decode8_text bytes)) (length out - at) (sym e ∙ q) in
        wrote-over (decode8_text bytes) out at (omega arith) some

    pub decode-done : t ≡ true → (j : ℕ) (out₁ : List ℕ) → Laid (decode8_text bytes) out at j out₁ → Wrote (decode8_text bytes) out at (Some j) out₁
    decode-done q j out₁ l = wrote-laid (decode8_text bytes) out at (decode-room (length (decode8_text bytes)) (length out) at t h e q) l
