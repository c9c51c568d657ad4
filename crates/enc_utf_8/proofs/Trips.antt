-- The decoder gives back what the encoder wrote. Assumes nothing.
use mathlib.Core.Path.{◌≡◌, refl, sym, ap, ◌∙◌}
use mathlib.Core.Bool.{Bool, true, false, cond}
use mathlib.Core.List.{List, ◌∷◌, ◌++◌}
use Prim.Native.Nat.{ℕ, ◌+◌, ◌*◌, ◌/◌, ◌%◌, ◌-◌, ◌≤◌, ◌<◌}
use native.Mathlib.Omega.{arith}
use native.Mathlib.Nat.{div-add-mod', div-div-eq-div-mul}
use lib.Dec.{ltb, eqb}
use borrow.Author.Tests.{lt-ltb, le-ltb, le-leb, eqb-true, ltb-true, ltb-false}
use Rattle.enc_utf_8.specs.Utf8.{scalar, lower_of, upper_of, leading, following, after_reply, decode_from, decode, no_error, well_formed, is_scalar, two, utf8_of}
use Rattle.enc_utf_8.proofs.Encodes.{Ranges, range_one, range_two, range_three, range_four, ranges, utf8_one, utf8_two, utf8_four, encoded_for, replaced-scalar}

-- one code point of one to four bytes, and what follows it
module _ (rest : List ℕ) where
  decode-one : (a : ℕ) → a < 0x80 → decode (a ∷ rest) ≡ scalar a ∷ decode rest
  unfolding decode_from leading after_reply
  decode-one a h = rw (lt-ltb a 0x80 h)

  module _ (a b : ℕ) where
    decode-two : 0xc2 ≤ a → a < 0xe0 → 0x80 ≤ b → b ≤ 0xbf → decode (a ∷ b ∷ rest) ≡ scalar (a % 32 * 64 + b % 64) ∷ decode rest
    unfolding decode_from leading following after_reply
    decode-two l h lb hb =
        rw (le-ltb a 0x80 (omega arith), le-ltb a 0xc2 l, lt-ltb a 0xe0 h, le-leb 0x80 b lb, le-leb b 0xbf hb)

    module _ (lb : lower_of a ≤ b) (hb : b ≤ upper_of a) (c : ℕ) (lc : 0x80 ≤ c) (hc : c ≤ 0xbf) where
      decode-three : 0xe0 ≤ a → a < 0xf0 → decode (a ∷ b ∷ c ∷ rest) ≡ scalar ((a % 16 * 64 + b % 64) * 64 + c % 64) ∷ decode rest
      unfolding decode_from leading following after_reply
      decode-three l h =
          rw (le-ltb a 0x80 (omega arith), le-ltb a 0xc2 (omega arith), le-ltb a 0xe0 l, lt-ltb a 0xf0 h, le-leb (lower_of a) b lb, le-leb b (upper_of a) hb, le-leb 0x80 c lc, le-leb c 0xbf hc)

      decode-four : 0xf0 ≤ a → a < 0xf5 → (d : ℕ) → 0x80 ≤ d → d ≤ 0xbf → decode (a ∷ b ∷ c ∷ d ∷ rest) ≡ scalar (((a % 8 * 64 + b % 64) * 64 + c % 64) * 64 + d % 64) ∷ decode rest
      unfolding decode_from leading following after_reply
      decode-four l h d ld hd =
          rw (
            le-ltb a 0x80 (omega arith),
            le-ltb a 0xc2 (omega arith),
            le-ltb a 0xe0 (omega arith),
            le-ltb a 0xf0 l,
            lt-ltb a 0xf5 h,
            le-leb (lower_of a) b lb,
            le-leb b (upper_of a) hb,
            le-leb 0x80 c lc,
            le-leb c 0xbf hc,
            le-leb 0x80 d ld,
            le-leb d 0xbf hd,
          )

-- the boundaries after a lead byte hold `b`
lower-holds : (a b : ℕ) → (a ≡ 0xe0 → 0xa0 ≤ b) → (a ≡ 0xf0 → 0x90 ≤ b) → 0x80 ≤ b → lower_of a ≤ b
lower-holds a b e f h = by (eqb a 0xe0) (eqb a 0xf0) refl refl
  where
    by : (s t : Bool) → eqb a 0xe0 ≡ s → eqb a 0xf0 ≡ t → cond s 0xa0 (cond t 0x90 0x80) ≤ b
    by true t p q = e (eqb-true a 0xe0 p)
    by false true p q = f (eqb-true a 0xf0 q)
    by false false p q = h

upper-holds : (a b : ℕ) → (a ≡ 0xed → b ≤ 0x9f) → (a ≡ 0xf4 → b ≤ 0x8f) → b ≤ 0xbf → b ≤ upper_of a
upper-holds a b e f h = by (eqb a 0xed) (eqb a 0xf4) refl refl
  where
    by : (s t : Bool) → eqb a 0xed ≡ s → eqb a 0xf4 ≡ t → b ≤ cond s 0x9f (cond t 0x8f 0xbf)
    by true t p q = e (eqb-true a 0xed p)
    by false true p q = f (eqb-true a 0xf4 q)
    by false false p q = h

-- ---- the code point in digits of six bits

-- a byte that follows holds its six bits
six : (d : ℕ) → d < 64 → (0x80 + d) % 64 ≡ d
six d h = omega arith

record Digits (c : ℕ) : Type 0 where
  low : c / 64 * 64 + c % 64 ≡ c
  middle : c / 4096 * 64 + c / 64 % 64 ≡ c / 64
  high : c / 262144 * 64 + c / 4096 % 64 ≡ c / 4096

digits : (c : ℕ) → Digits c
digits c = record {
  low = div-add-mod' c 64;
  middle = ap (λ (q : ℕ). q * 64 + c / 64 % 64) (sym (div-div-eq-div-mul c 64 64)) ∙ div-add-mod' (c / 64) 64;
  high = ap (λ (q : ℕ). q * 64 + c / 4096 % 64) (sym (div-div-eq-div-mul c 4096 64)) ∙ div-add-mod' (c / 4096) 64;
}

-- ---- the three shapes, given back

two_back : (rest : List ℕ) (c : ℕ) → 0x80 ≤ c → c < 0x800 → decode (two c ++ rest) ≡ scalar c ∷ decode rest
two_back rest c l h =
    let e : (0xc0 + c / 64) % 32 * 64 + (0x80 + c % 64) % 64 ≡ c = omega arith in
    decode-two rest (0xc0 + c / 64) (0x80 + c % 64) (omega arith) (omega arith) (omega arith) (omega arith) ∙ rw e

-- the same with the digits `p`, `q`, `r` by themselves
three-digits : (rest : List ℕ) (c p q r : ℕ) → (p * 64 + q) * 64 + r ≡ c → q < 64 → r < 64 → 0x800 ≤ c → c < 0x10000 → (0xd800 ≤ c → 0xe000 ≤ c)
    → decode ((0xe0 + p) ∷ (0x80 + q) ∷ (0x80 + r) ∷ rest) ≡ scalar c ∷ decode rest
three-digits rest c p q r e hq hr l h o =
    let hp : p < 16 = omega arith in
    let ep : (0xe0 + p) % 16 ≡ p = omega arith in
    let lb = lower-holds (0xe0 + p) (0x80 + q) (λ z. omega arith) (λ z. omega arith) (omega arith) in
    let hb = upper-holds (0xe0 + p) (0x80 + q) (λ z. not-surrogate (ltb c 0xd800) refl (omega arith)) (λ z. omega arith) (omega arith) in
    decode-three rest (0xe0 + p) (0x80 + q) lb hb (0x80 + r) (omega arith) (omega arith) (omega arith) (omega arith) ∙ rw (ep, six q hq, six r hr, e)
  where
    not-surrogate : (t : Bool) → ltb c 0xd800 ≡ t → p ≡ 13 → 0x80 + q ≤ 0x9f
    not-surrogate true s z = let s' : c < 0xd800 = ltb-true _ _ s in omega arith
    not-surrogate false s z = let s' : 0xe000 ≤ c = o (ltb-false _ _ s) in omega arith

four-digits : (rest : List ℕ) (c p q r s : ℕ) → ((p * 64 + q) * 64 + r) * 64 + s ≡ c → q < 64 → r < 64 → s < 64 → 0x10000 ≤ c → c < 0x110000
    → decode ((0xf0 + p) ∷ (0x80 + q) ∷ (0x80 + r) ∷ (0x80 + s) ∷ rest) ≡ scalar c ∷ decode rest
four-digits rest c p q r s e hq hr hs l h =
    let hp : p < 5 = omega arith in
    let ep : (0xf0 + p) % 8 ≡ p = omega arith in
    let lb = lower-holds (0xf0 + p) (0x80 + q) (λ z. omega arith) (λ z. omega arith) (omega arith) in
    let hb = upper-holds (0xf0 + p) (0x80 + q) (λ z. omega arith) (λ z. omega arith) (omega arith) in
    decode-four rest (0xf0 + p) (0x80 + q) lb hb (0x80 + r) (omega arith) (omega arith) (omega arith) (omega arith) (0x80 + s) (omega arith) (omega arith)
    ∙ rw (ep, six q hq, six r hr, six s hs, e)

back : (rest : List ℕ) (c : ℕ) → Ranges c → decode (utf8_of c ++ rest) ≡ scalar c ∷ decode rest
back rest c (range_one h) = rw (utf8_one c h) (decode-one rest c h)
back rest c (range_two l h) = rw (utf8_two c l h) (two_back rest c l h)
back rest c (range_three l h v e) =
    let d = digits c in
    rw e (three-digits rest c (c / 4096) (c / 64 % 64) (c % 64) (rw (d.middle, d.low)) (omega arith) (omega arith) l h v.outside)
back rest c (range_four l h) =
    let d = digits c in
    rw (utf8_four c l h)
    (four-digits rest c (c / 262144) (c / 4096 % 64) (c / 64 % 64) (c % 64) (rw (d.high, d.middle, d.low)) (omega arith) (omega arith) (omega arith) l h)

-- ---- what others cite

-- a scalar value is given back
pub decode_utf8 : (c : ℕ) (rest : List ℕ) → is_scalar c ≡ true → decode (utf8_of c ++ rest) ≡ scalar c ∷ decode rest
decode_utf8 c rest h = back rest c (ranges c h)

-- any number's bytes are well-formed, whatever follows
pub formed_utf8 : (c : ℕ) (rest : List ℕ) → well_formed (utf8_of c ++ rest) ≡ well_formed rest
unfolding no_error
formed_utf8 c rest = rw (encoded_for c, decode_utf8 (cond (is_scalar c) c 0xfffd) rest (replaced-scalar c))
