-- UTF-16 bytes that are decoded without an error are the same, decoded and encoded again. Assumes nothing.
use mathlib.Core.Path.{◌≡◌, refl, ap, ◌∙◌}
use mathlib.Core.Bool.{Bool, true, false, ◌&&◌, ◌||◌}
use mathlib.Core.List.{List, [], ◌∷◌, ◌++◌, flat_map}
use Prim.Native.Nat.{ℕ, suc, ◌+◌, ◌*◌, ◌/◌, ◌%◌, ◌≤◌, ◌<◌}
use native.Mathlib.Omega.{arith}
use borrow.Author.Tests.{leb-true, leb-false, ltb-false, le-leb}
use lib.Dec.{leb, ltb}
use Rattle.enc_number.specs.Le.{Bytes}
use Rattle.enc_number.proofs.ByteOrder.{le_bytes-two, le_value-two}
use Rattle.enc_utf_8.specs.Utf8.{Item, scalar, error, no_error, is_scalar, utf8_of, decode_from}
use Rattle.enc_utf_8.proofs.Trips.{decode_utf8}
use Rattle.enc_utf_16.specs.Unit16.{unit_of, is_leading, is_trailing, from_surrogates}
use Rattle.enc_utf_16.specs.Decode.{decode_items, decode_scalars, decode16_text}
use Rattle.enc_utf_16.specs.Decode as decode
use Rattle.enc_utf_16.specs.Encode.{unit_bytes, leading_of, trailing_of, utf16_of, encode16_text}
use Rattle.enc_utf_16_scalar.proofs.Decodes.{odd_byte, plain-unit, trailing_unit, leading_end, leading_odd, leading_pair, leading-restored}
use Rattle.enc_utf_16_encoder.proofs.Encodes.{one_unit, two_units}
use Rattle.ser_laws.proofs.Plain.{different}
use Rattle.std.proofs.lemmas.Bool.{and_parts}

-- ---- code units

-- the two bytes of a unit
unit-back : (x y : ℕ) → x < 256 → y < 256 → unit_bytes (unit_of x y) ≡ x ∷ y ∷ []
unit-back x y a b =
    let p : (x + y * 256) % 256 ≡ x = omega arith in
    let q : (x + y * 256) / 256 ≡ y = omega arith in
    let r : y % 256 ≡ y = omega arith in
    rw (le_bytes-two (unit_of x y), le_value-two x y, p, q, r)

record Between (lo hi u : ℕ) : Type 0 where
  from : lo ≤ u
  upto : u ≤ hi

between : (lo hi u : ℕ) → (leb lo u && leb u hi) ≡ true → Between lo hi u
between lo hi u h = record { from = leb-true lo u (and_parts (leb lo u) _ h).0; upto = leb-true u hi (and_parts (leb lo u) _ h).1 }

past : (lo hi u : ℕ) → (leb lo u && leb u hi) ≡ false → lo ≤ u → hi < u
past lo hi u h l = leb-false u hi (rw (le-leb lo u l) at h)

-- a unit that is no surrogate
plain-scalar : (u : ℕ) → u < 0x10000 → is_leading u ≡ false → is_trailing u ≡ false → is_scalar u ≡ true
plain-scalar u s l t = by (ltb u 0xd800) refl
  where
    by : (b : Bool) → ltb u 0xd800 ≡ b → (b || (leb 0xe000 u && leb u 0x10ffff)) ≡ true
    by true e = refl
    by false e =
        let a : 0xdbff < u = past 0xD800 0xDBFF u l (ltb-false u 0xd800 e) in
        let c : 0xdfff < u = past 0xDC00 0xDFFF u t (omega arith) in
        rw (le-leb 0xe000 u (omega arith), le-leb u 0x10ffff (omega arith))

-- a pair of surrogates
module _ (u v : ℕ) (a : Between 0xD800 0xDBFF u) (b : Between 0xDC00 0xDFFF v) where
  pair_from : 0x10000 ≤ from_surrogates u v
  pair_from = omega arith

  pair_upto : from_surrogates u v ≤ 0x10ffff
  pair_upto = let p = a.from in let q = a.upto in let r = b.upto in omega arith

  pair_scalar : is_scalar (from_surrogates u v) ≡ true
  pair_scalar = by (ltb (from_surrogates u v) 0xd800)
    where
      by : (t : Bool) → (t || (leb 0xe000 (from_surrogates u v) && leb (from_surrogates u v) 0x10ffff)) ≡ true
      by true = refl
      by false = rw (le-leb 0xe000 (from_surrogates u v) (omega (arith, pair_from)), le-leb (from_surrogates u v) 0x10ffff pair_upto)

  pair_leading : leading_of (from_surrogates u v) ≡ u
  pair_leading = let p = a.from in let r = b.from in let s = b.upto in omega arith

  pair_trailing : trailing_of (from_surrogates u v) ≡ v
  pair_trailing = let p = a.from in let r = b.from in let s = b.upto in omega arith

-- ---- texts

-- a scalar value and what follows it
scalar-again : (c : ℕ) (bytes xs : List ℕ) → is_scalar c ≡ true → decode_items bytes ≡ scalar c ∷ decode_items xs
    → encode16_text (decode16_text bytes) ≡ utf16_of c ++ encode16_text (decode16_text xs)
unfolding decode_scalars flat_map
scalar-again c bytes xs s e =
    let q : decode16_text bytes ≡ utf8_of c ++ decode16_text xs = rw e in
    rw (q, decode_utf8 c (decode16_text xs) s)

-- an error is one
no-error : (bytes : List ℕ) {xs : List Item} → decode_items bytes ≡ error ∷ xs → no_error (decode_items bytes) ≡ true → {X : Type 0} → X
unfolding no_error
no-error bytes e h = let z : false ≡ true = rw e at h in different cc

rest-fine : (c : ℕ) (bytes xs : List ℕ) → decode_items bytes ≡ scalar c ∷ decode_items xs → no_error (decode_items bytes) ≡ true → no_error (decode_items xs) ≡ true
unfolding no_error
rest-fine c bytes xs e h = rw e at h

none-again : encode16_text (decode16_text []) ≡ []
unfolding decode_scalars flat_map decode_from decode.decode16_from
none-again = refl

module _ (x y : ℕ) (a : x < 256) (b : y < 256) where
  -- a unit alone
  plain-again : (xs : List ℕ) → is_leading (unit_of x y) ≡ false → is_trailing (unit_of x y) ≡ false → encode16_text (decode16_text xs) ≡ xs → encode16_text (decode16_text (x ∷ y ∷ xs)) ≡ x ∷ y ∷ xs
  plain-again xs l t ih =
      let s : unit_of x y < 0x10000 = omega (arith, le_value-two x y) in
      scalar-again (unit_of x y) (x ∷ y ∷ xs) xs (plain-scalar (unit_of x y) s l t) (plain-unit x y xs l t)
      ∙ ap (λ (e : List ℕ). utf16_of (unit_of x y) ++ e) ih ∙ ap (λ (e : List ℕ). e ++ xs) (one_unit (unit_of x y) s ∙ unit-back x y a b)

  -- a pair
  pair_again : (z w : ℕ) → z < 256 → w < 256 → (xs : List ℕ) → is_leading (unit_of x y) ≡ true → is_trailing (unit_of z w) ≡ true → encode16_text (decode16_text xs) ≡ xs
      → encode16_text (decode16_text (x ∷ y ∷ z ∷ w ∷ xs)) ≡ x ∷ y ∷ z ∷ w ∷ xs
  pair_again z w c d xs l t ih =
      let p = between 0xD800 0xDBFF (unit_of x y) l in
      let q = between 0xDC00 0xDFFF (unit_of z w) t in
      let n : ℕ = from_surrogates (unit_of x y) (unit_of z w) in
      let u : utf16_of n ≡ x ∷ y ∷ z ∷ w ∷ [] =
      two_units n (pair_from (unit_of x y) (unit_of z w) p q)
      ∙ ap (λ (k : ℕ). unit_bytes k ++ unit_bytes (trailing_of n)) (pair_leading (unit_of x y) (unit_of z w) p q)
      ∙ ap (λ (k : ℕ). unit_bytes (unit_of x y) ++ unit_bytes k) (pair_trailing (unit_of x y) (unit_of z w) p q)
      ∙ ap (λ (e : List ℕ). e ++ unit_bytes (unit_of z w)) (unit-back x y a b)
      ∙ ap (λ (e : List ℕ). x ∷ y ∷ e) (unit-back z w c d) in
      scalar-again n (x ∷ y ∷ z ∷ w ∷ xs) xs (pair_scalar (unit_of x y) (unit_of z w) p q) (leading_pair x y l z w xs t)
      ∙ ap (λ (e : List ℕ). utf16_of n ++ e) ih ∙ ap (λ (e : List ℕ). e ++ xs) u

after_two : (x y : ℕ) (xs : List ℕ) → Bytes (x ∷ y ∷ xs) → Bytes xs
after_two x y xs b i = b (suc (suc i))

-- by the first unit: no surrogate, or a leading one with its trailing one after it; all else is an error
module _ (x y : ℕ) (a : x < 256) (b : y < 256) (xs : List ℕ) (h : no_error (decode_items (x ∷ y ∷ xs)) ≡ true) where
  unit-again : is_leading (unit_of x y) ≡ false → (no_error (decode_items xs) ≡ true → encode16_text (decode16_text xs) ≡ xs) → encode16_text (decode16_text (x ∷ y ∷ xs)) ≡ x ∷ y ∷ xs
  unit-again l ih = by (is_trailing (unit_of x y)) refl
    where
      by : (t : Bool) → is_trailing (unit_of x y) ≡ t → encode16_text (decode16_text (x ∷ y ∷ xs)) ≡ x ∷ y ∷ xs
      by true t = no-error (x ∷ y ∷ xs) (trailing_unit x y xs l t) h
      by false t = plain-again x y a b xs l t (ih (rest-fine (unit_of x y) (x ∷ y ∷ xs) xs (plain-unit x y xs l t) h))

module _ (x y z w : ℕ) (a : x < 256) (b : y < 256) (c : z < 256) (d : w < 256) (xs : List ℕ) (h : no_error (decode_items (x ∷ y ∷ z ∷ w ∷ xs)) ≡ true) where
  two-again : is_leading (unit_of x y) ≡ true → (no_error (decode_items xs) ≡ true → encode16_text (decode16_text xs) ≡ xs)
      → encode16_text (decode16_text (x ∷ y ∷ z ∷ w ∷ xs)) ≡ x ∷ y ∷ z ∷ w ∷ xs
  two-again l ih = by (is_trailing (unit_of z w)) refl
    where
      by : (t : Bool) → is_trailing (unit_of z w) ≡ t → encode16_text (decode16_text (x ∷ y ∷ z ∷ w ∷ xs)) ≡ x ∷ y ∷ z ∷ w ∷ xs
      by true t = pair_again x y a b z w c d xs l t (ih (rest-fine _ (x ∷ y ∷ z ∷ w ∷ xs) xs (leading_pair x y l z w xs t) h))
      by false t = no-error (x ∷ y ∷ z ∷ w ∷ xs) (leading-restored x y l z w xs t) h

-- one of two tests
either : {X : Type 0} (t : Bool) → (t ≡ true → X) → (t ≡ false → X) → X
either true p q = p refl
either false p q = q refl

pub wide-again : (bytes : List ℕ) → Bytes bytes → no_error (decode_items bytes) ≡ true → encode16_text (decode16_text bytes) ≡ bytes
wide-again [] b h = none-again
wide-again (x ∷ []) b h = no-error (x ∷ []) (odd_byte x) h
wide-again (x ∷ y ∷ []) b h =
    either (is_leading (unit_of x y)) (λ l. no-error (x ∷ y ∷ []) (leading_end x y l) h) (λ l. unit-again x y (b 0) (b 1) [] h l (λ e. none-again))
wide-again (x ∷ y ∷ z ∷ []) b h =
    either (is_leading (unit_of x y)) (λ l. no-error (x ∷ y ∷ z ∷ []) (leading_odd x y l z) h)
    (λ l. unit-again x y (b 0) (b 1) (z ∷ []) h l (λ e. wide-again (z ∷ []) (after_two x y (z ∷ []) b) e))
wide-again (x ∷ y ∷ z ∷ w ∷ xs) b h =
    either (is_leading (unit_of x y)) (λ l. two-again x y z w (b 0) (b 1) (b 2) (b 3) xs h l (λ e. wide-again xs (after_two z w xs (after_two x y (z ∷ w ∷ xs) b)) e))
    (λ l. unit-again x y (b 0) (b 1) (z ∷ w ∷ xs) h l (λ e. wide-again (z ∷ w ∷ xs) (after_two x y (z ∷ w ∷ xs) b) e))
