-- Laws of two's complement, over the width in bytes; this module alone unfolds `twos_complement`, `twos_bits`, `fits_signed` and `fits_unsigned`. Assumes nothing.
use mathlib.Core.Path.{◌≡◌, refl, sym, ap, ◌∙◌}
use mathlib.Core.Bool.{Bool, true, false}
use Prim.Native.Nat.{ℕ, zero, suc, ◌+◌, ◌-◌, ◌*◌, ◌/◌, ◌%◌, ◌^◌, ◌≤◌, ◌<◌}
use native.Mathlib.Nat.{pow-le-pow_right, pow-suc, add-mul, suc-mul, mod-lt, mod-eq_of_lt, div-add-mod', div-lt_iff_lt-mul}
use native.Mathlib.Omega.{arith}
use lib.Arith.{digits_mod, digits_div, mul_pred}
use lib.Dec.{leb, ltb, leb-suc-suc}
use lib.IntN.{ℤ, pos, negsuc, ◌-ℤ◌}
use lib.Pow.{pow-add, pow_pos, pow_mono}
use borrow.Author.Tests.{ltb-true, ltb-false, leb-true, leb-false, lt-ltb, le-ltb}
use Rattle.enc_integer.specs.Integer.{twos_complement, twos_bits, fits_signed, fits_unsigned}

halves : (w : ℕ) → 1 ≤ w → 2 ^ (8 * w) ≡ 2 ^ (8 * w - 1) * 2
halves w h = let e : 8 * w ≡ suc (8 * w - 1) = omega arith in ap (λ (k : ℕ). 2 ^ k) e ∙ pow-suc 2 (8 * w - 1)

full-small : (w : ℕ) → w ≤ 8 → 2 ^ (8 * w) ≤ 2 ^ 64
full-small w h = pow_mono {i = 8 * w} {j = 64} (omega arith)

shifted : (j k : ℕ) → (2 ^ (j + k) - 1) / 2 ^ k + 1 ≡ 2 ^ j
shifted j k =
    let p : 0 < 2 ^ j = pow_pos j in
    let q : 0 < 2 ^ k = pow_pos k in
    let l : 2 ^ k - 1 < 2 ^ k = omega arith in
    let d : (2 ^ (j + k) - 1) / 2 ^ k ≡ 2 ^ j - 1 = rw (pow-add 2 j k, mul_pred p q, digits_div (2 ^ j - 1) l) in
    omega arith

-- the largest number of w bytes, by a shift
pub largest_is : (w : ℕ) → w ≤ 8 → 18446744073709551615 / 2 ^ (64 - 8 * w) + 1 ≡ 2 ^ (8 * w)
largest_is w h = let e : 8 * w + (64 - 8 * w) ≡ 64 = omega arith in rw e at (shifted (8 * w) (64 - 8 * w))

minus : (n p : ℕ) → n < p → pos n -ℤ pos p ≡ negsuc (p - suc n)
minus n zero l = absurd (omega arith)
minus n (suc p) l = rw (lt-ltb n (suc p) l)

module _ (w n : ℕ) where
  pub twos_low : n < 2 ^ (8 * w - 1) → twos_complement w n ≡ pos n
  unfolding twos_complement
  twos_low h = rw (lt-ltb n (2 ^ (8 * w - 1)) h)

  pub twos_high : 2 ^ (8 * w - 1) ≤ n → n < 2 ^ (8 * w) → twos_complement w n ≡ negsuc (2 ^ (8 * w) - suc n)
  unfolding twos_complement
  twos_high h l = rw (le-ltb n (2 ^ (8 * w - 1)) h) (minus n (2 ^ (8 * w)) l)

-- the low part of a complement
complement : (d q n : ℕ) → 0 < d → n < q * d → d - 1 - (q * d - suc n) % d ≡ n % d
complement d q n h l =
    let r : n % d < d = mod-lt n h in
    let s : n / d * d + n % d ≡ n = div-add-mod' n d in
    let k : n / d < q = (div-lt_iff_lt-mul h).1 l in
    let c : suc (n / d) + (q - suc (n / d)) ≡ q = omega arith in
    let m : q * d ≡ n / d * d + d + (q - suc (n / d)) * d = sym (ap (λ (x : ℕ). x * d) c) ∙ add-mul (suc (n / d)) (q - suc (n / d)) d ∙ ap (λ (x : ℕ). x + (q - suc (n / d)) * d) (suc-mul (n / d) d) in
    let e : q * d - suc n ≡ (q - suc (n / d)) * d + (d - 1 - n % d) = omega arith in
    let g : (q * d - suc n) % d ≡ d - 1 - n % d = rw e (digits_mod (q - suc (n / d)) (omega arith)) in
    omega arith

pub bits_of_plain : (w n : ℕ) → twos_bits w (pos n) ≡ n % 2 ^ (8 * w)
unfolding twos_bits
bits_of_plain w n = refl

-- the low v bytes of what n stands for are those of n
pub bits_of_twos : (v w n : ℕ) → 1 ≤ w → v ≤ w → n < 2 ^ (8 * w) → twos_bits v (twos_complement w n) ≡ n % 2 ^ (8 * v)
unfolding twos_bits
bits_of_twos v w n h k l = by (ltb n (2 ^ (8 * w - 1))) refl
  where
    by : (b : Bool) → ltb n (2 ^ (8 * w - 1)) ≡ b → twos_bits v (twos_complement w n) ≡ n % 2 ^ (8 * v)
    by true e = rw (twos_low w n (ltb-true n (2 ^ (8 * w - 1)) e))
    by false e =
        let s : 8 * (w - v) + 8 * v ≡ 8 * w = omega arith in
        let p : 2 ^ (8 * w) ≡ 2 ^ (8 * (w - v)) * 2 ^ (8 * v) = sym (ap (λ (x : ℕ). 2 ^ x) s) ∙ pow-add 2 (8 * (w - v)) (8 * v) in
        rw (twos_high w n (ltb-false n (2 ^ (8 * w - 1)) e) l, p) (complement (2 ^ (8 * v)) (2 ^ (8 * (w - v))) n (pow_pos (8 * v)) (rw p at l))

-- what 64 bits stand for, by their half
low_64 : (b : ℕ) → b ≤ 9223372036854775807 → twos_complement 8 b ≡ pos b
low_64 b h = twos_low 8 b (omega arith)

high_64 : (b : ℕ) → 9223372036854775807 < b → b < 2 ^ 64 → twos_complement 8 b ≡ negsuc (18446744073709551616 - suc b)
high_64 b h l = twos_high 8 b (omega arith) l

-- ---- a number of w bytes, what it stands for, and the number again

module _ (w n : ℕ) (l : n < 2 ^ (8 * w)) where
  pub twos_back : 1 ≤ w → twos_bits w (twos_complement w n) ≡ n
  twos_back h = bits_of_twos w w n h (omega arith) l ∙ mod-eq_of_lt l

  pub plain_back : twos_bits w (pos n) ≡ n
  plain_back = bits_of_plain w n ∙ mod-eq_of_lt l

  pub plain_fits : fits_unsigned w (pos n) ≡ true
  unfolding fits_unsigned
  plain_fits = lt-ltb n (2 ^ (8 * w)) l

  module _ (h : 1 ≤ w) where
    pub twos_fits : fits_signed w (twos_complement w n) ≡ true
    unfolding fits_signed
    twos_fits = by (ltb n (2 ^ (8 * w - 1))) refl
      where
        by : (b : Bool) → ltb n (2 ^ (8 * w - 1)) ≡ b → fits_signed w (twos_complement w n) ≡ true
        by true e = rw (twos_low w n (ltb-true n (2 ^ (8 * w - 1)) e), e)
        by false e =
            let g : 2 ^ (8 * w - 1) ≤ n = ltb-false n (2 ^ (8 * w - 1)) e in
            rw (twos_high w n g l) (lt-ltb (2 ^ (8 * w) - suc n) (2 ^ (8 * w - 1)) (omega (arith, halves w h)))

    -- sign extension to 64 bits keeps the integer
    pub twos_extended : w ≤ 8 → twos_complement 8 (twos_bits 8 (twos_complement w n)) ≡ twos_complement w n
    unfolding twos_bits
    twos_extended k = by (ltb n (2 ^ (8 * w - 1))) refl
      where
        s : 2 ^ (8 * w) ≤ 18446744073709551616
        s = full-small w k

        by : (b : Bool) → ltb n (2 ^ (8 * w - 1)) ≡ b → twos_complement 8 (twos_bits 8 (twos_complement w n)) ≡ twos_complement w n
        by true e =
            let g : n < 2 ^ (8 * w - 1) = ltb-true n (2 ^ (8 * w - 1)) e in
            let m : n % 18446744073709551616 ≡ n = mod-eq_of_lt (omega (arith, s)) in
            rw (twos_low w n g, m) (low_64 n (omega (arith, s, halves w h)))
        by false e =
            let g : 2 ^ (8 * w - 1) ≤ n = ltb-false n (2 ^ (8 * w - 1)) e in
            let i : 2 ^ (8 * w) - suc n < 9223372036854775808 = omega (arith, s, halves w h) in
            let m : (2 ^ (8 * w) - suc n) % 18446744073709551616 ≡ 2 ^ (8 * w) - suc n = mod-eq_of_lt (omega arith) in
            let r : 18446744073709551616 - suc (18446744073709551615 - (2 ^ (8 * w) - suc n)) ≡ 2 ^ (8 * w) - suc n = omega arith in
            rw (twos_high w n g l, m) (high_64 (18446744073709551615 - (2 ^ (8 * w) - suc n)) (omega arith) (omega arith) ∙ ap negsuc r)

module _ (w n most : ℕ) (h : 1 ≤ w) (k : w ≤ 8) (q : most + 1 ≡ 2 ^ (8 * w)) (l : n < 2 ^ (8 * w)) where
  pub extend_low : n ≤ most / 2 → n ≡ twos_bits 8 (twos_complement w n)
  unfolding twos_bits
  extend_low a =
      let s : 2 ^ (8 * w) ≤ 18446744073709551616 = full-small w k in
      let m : n % 18446744073709551616 ≡ n = mod-eq_of_lt (omega arith) in
      rw (twos_low w n (omega (arith, halves w h)), m)

  pub extend_high : most / 2 < n → n + (18446744073709551615 - most) ≡ twos_bits 8 (twos_complement w n)
  unfolding twos_bits
  extend_high a =
      let s : 2 ^ (8 * w) ≤ 18446744073709551616 = full-small w k in
      let m : (2 ^ (8 * w) - suc n) % 18446744073709551616 ≡ 2 ^ (8 * w) - suc n = mod-eq_of_lt (omega arith) in
      rw (twos_high w n (omega (arith, halves w h)) l, m) (omega arith)

half-small : (w : ℕ) → w ≤ 8 → 2 ^ (8 * w - 1) ≤ 2 ^ 63
half-small w l = let q : 8 * w - 1 ≤ 63 = omega arith in pow-le-pow_right (omega arith) q

-- what the 64 bits of a number that a width holds stand for, is that number
pub bits_back : (w : ℕ) (z : ℤ) → w ≤ 8 → fits_signed w z ≡ true → twos_complement 8 (twos_bits 8 z) ≡ z
unfolding fits_signed twos_bits
bits_back w (pos n) l h =
    let k : n < 2 ^ (8 * w - 1) = ltb-true n (2 ^ (8 * w - 1)) h in
    let p : 2 ^ (8 * w - 1) ≤ 2 ^ 63 = half-small w l in
    let m : n % 18446744073709551616 ≡ n = mod-eq_of_lt (omega arith) in
    rw m (twos_low 8 n (omega arith))
bits_back w (negsuc n) l h =
    let k : n < 2 ^ (8 * w - 1) = ltb-true n (2 ^ (8 * w - 1)) h in
    let p : 2 ^ (8 * w - 1) ≤ 2 ^ 63 = half-small w l in
    let m : n % 18446744073709551616 ≡ n = mod-eq_of_lt (omega arith) in
    let e : 18446744073709551616 - suc (18446744073709551615 - n) ≡ n = omega arith in
    rw m (twos_high 8 (18446744073709551615 - n) (omega arith) (omega arith) ∙ ap negsuc e)

-- a number that an unsigned integer of w bytes holds is below 2 ^ (8 * w)
pub plain-below : (w n : ℕ) → fits_unsigned w (pos n) ≡ true → n < 2 ^ (8 * w)
unfolding fits_unsigned
plain-below w n h = ltb-true n (2 ^ (8 * w)) h

leb-ltb : (b l p : ℕ) → l + 1 ≡ p → leb b l ≡ ltb b p
leb-ltb b l p e = let q : p ≡ suc l = omega arith in rw q (sym (leb-suc-suc b l))

module _ (w most b : ℕ) (h : 1 ≤ w) (k : w ≤ 8) (q : most + 1 ≡ 2 ^ (8 * w)) where
  half : most / 2 + 1 ≡ 2 ^ (8 * w - 1)
  half = omega (arith, halves w h)

  small : most ≤ 18446744073709551615
  small = omega (arith, full-small w k)

  -- an unsigned number into a signed integer
  pub signed-plain : leb b (most / 2) ≡ fits_signed w (pos b)
  unfolding fits_signed
  signed-plain = leb-ltb b (most / 2) (2 ^ (8 * w - 1)) half

  pub signed_low : b ≤ most / 2 → true ≡ fits_signed w (twos_complement 8 b)
  unfolding fits_signed
  signed_low a = rw (low_64 b (omega (arith, small)), lt-ltb b (2 ^ (8 * w - 1)) (omega (arith, half)))

  pub signed_high : most / 2 < b → b < 2 ^ 64 → leb (18446744073709551615 - most / 2) b ≡ fits_signed w (twos_complement 8 b)
  unfolding fits_signed
  signed_high a l = by (leb (18446744073709551615 - most / 2) b) refl (ltb 9223372036854775807 b) refl
    where
      by : (x : Bool) → leb (18446744073709551615 - most / 2) b ≡ x → (y : Bool) → ltb 9223372036854775807 b ≡ y → x ≡ fits_signed w (twos_complement 8 b)
      by true e true f =
          let g : 18446744073709551615 - most / 2 ≤ b = leb-true (18446744073709551615 - most / 2) b e in
          rw (high_64 b (ltb-true 9223372036854775807 b f) l, lt-ltb (18446744073709551616 - suc b) (2 ^ (8 * w - 1)) (omega (arith, half, small)))
      by true e false f =
          let g : 18446744073709551615 - most / 2 ≤ b = leb-true (18446744073709551615 - most / 2) b e in
          let z : b ≤ 9223372036854775807 = ltb-false 9223372036854775807 b f in
          absurd (omega (arith, small))
      by false e true f =
          let g : b < 18446744073709551615 - most / 2 = leb-false (18446744073709551615 - most / 2) b e in
          rw (high_64 b (ltb-true 9223372036854775807 b f) l, le-ltb (18446744073709551616 - suc b) (2 ^ (8 * w - 1)) (omega (arith, half, small)))
      by false e false f = rw (low_64 b (ltb-false 9223372036854775807 b f), le-ltb b (2 ^ (8 * w - 1)) (omega (arith, half)))

  -- an unsigned number into an unsigned integer
  pub unsigned-plain : leb b most ≡ fits_unsigned w (pos b)
  unfolding fits_unsigned
  unsigned-plain = leb-ltb b most (2 ^ (8 * w)) q

  pub unsigned-high : 9223372036854775807 < b → b < 2 ^ 64 → false ≡ fits_unsigned w (twos_complement 8 b)
  unfolding fits_unsigned
  unsigned-high a l = rw (high_64 b a l)

  pub unsigned-low : b ≤ 9223372036854775807 → leb b most ≡ fits_unsigned w (twos_complement 8 b)
  unfolding fits_unsigned
  unsigned-low a = rw (low_64 b a) unsigned-plain
