-- Laws of the encoder: the bytes of a number in each range, and the exits of `put` and `utf8_len`. They alone open `encoded` and `utf8_of`. Assumes nothing.
use Rattle.std.specs.Prelude.{Option}
use mathlib.Core.Path.{◌≡◌, refl, sym, ◌∙◌}
use mathlib.Core.Bool.{Bool, true, false, cond, ◌&&◌, ◌||◌}
use mathlib.Core.List.{List, [], ◌∷◌}
use Prim.Native.Nat.{ℕ, zero, suc, ◌-◌, ◌≤◌, ◌<◌}
use native.Mathlib.Omega.{arith}
use lib.ListN.{length, get_or}
use lib.Dec.{leb, ltb}
use borrow.Author.Tests.{lt-ltb, le-ltb, le-leb, lt-leb, ltb-true, ltb-false, leb-true}
use Rattle.enc_utf_8.specs.Buffer.{Wrote}
use Rattle.enc_utf_8.specs.Utf8.{is_scalar, two, three, four, encoded, utf8_of}
use Rattle.enc_utf_8.proofs.Splices.{wrote_as}

-- ---- scalar values

pub scalar-low : (c : ℕ) → c < 0xd800 → is_scalar c ≡ true
scalar-low c h = rw (lt-ltb c 0xd800 h)

pub scalar-high : (c : ℕ) → 0xe000 ≤ c → c < 0x110000 → is_scalar c ≡ true
scalar-high c l h = rw (le-ltb c 0xd800 (omega arith), le-leb 0xe000 c l, le-leb c 0x10ffff (omega arith))

pub scalar-not-surrogate : (c : ℕ) → 0xd800 ≤ c → c < 0xe000 → is_scalar c ≡ false
scalar-not-surrogate c l h = rw (le-ltb c 0xd800 l, lt-leb 0xe000 c h)

pub scalar-not-past : (c : ℕ) → 0x110000 ≤ c → is_scalar c ≡ false
scalar-not-past c l = rw (le-ltb c 0xd800 (omega arith), le-leb 0xe000 c (omega arith), lt-leb c 0x10ffff (omega arith))

-- what a scalar value is, as facts on numbers
pub record Valued (c : ℕ) : Type 0 where
  pub below : c < 0x110000
  pub outside : 0xd800 ≤ c → 0xe000 ≤ c

pub valued : (c : ℕ) → is_scalar c ≡ true → Valued c
valued c h = by (ltb c 0xd800) (leb 0xe000 c) (leb c 0x10ffff) refl refl refl h
  where
    by : (s t u : Bool) → ltb c 0xd800 ≡ s → leb 0xe000 c ≡ t → leb c 0x10ffff ≡ u → s || (t && u) ≡ true → Valued c
    by true t u p q r k = let l : c < 0xd800 = ltb-true _ _ p in record { below = omega arith; outside = λ m. omega arith }
    by false true true p q r k = let l : c ≤ 0x10ffff = leb-true _ _ r in record { below = omega arith; outside = λ m. leb-true _ _ q }
    by false true false p q r k = absurd (let z : ◌≡◌ {A = ℕ} 0 1 = cc in omega arith)
    by false false u p q r k = absurd (let z : ◌≡◌ {A = ℕ} 0 1 = cc in omega arith)

-- ---- the bytes of a number, by its range

module _ (c : ℕ) where
  pub utf8_one : c < 0x80 → utf8_of c ≡ c ∷ []
  unfolding utf8_of encoded
  utf8_one h = rw (scalar-low c (omega arith), lt-ltb c 0x80 h)

  pub utf8_two : 0x80 ≤ c → c < 0x800 → utf8_of c ≡ two c
  unfolding utf8_of encoded
  utf8_two l h = rw (scalar-low c (omega arith), le-ltb c 0x80 l, lt-ltb c 0x800 h)

  three_as : is_scalar c ≡ true → 0x800 ≤ c → c < 0x10000 → utf8_of c ≡ three c
  unfolding utf8_of encoded
  three_as s l h = rw (s, le-ltb c 0x80 (omega arith), le-ltb c 0x800 l, lt-ltb c 0x10000 h)

  pub utf8_three-low : 0x800 ≤ c → c < 0xd800 → utf8_of c ≡ three c
  utf8_three-low l h = three_as (scalar-low c h) l (omega arith)

  pub utf8_three-high : 0xe000 ≤ c → c < 0x10000 → utf8_of c ≡ three c
  utf8_three-high l h = three_as (scalar-high c l (omega arith)) (omega arith) h

  pub utf8_four : 0x10000 ≤ c → c < 0x110000 → utf8_of c ≡ four c
  unfolding utf8_of encoded
  utf8_four l h = rw (scalar-high c (omega arith) h, le-ltb c 0x80 (omega arith), le-ltb c 0x800 (omega arith), le-ltb c 0x10000 l)

  pub utf8_replaced : is_scalar c ≡ false → utf8_of c ≡ 0xef ∷ 0xbf ∷ 0xbd ∷ []
  unfolding utf8_of encoded
  utf8_replaced s = rw s

-- a scalar value is in one of the ranges
pub data Ranges : ℕ → Type 0 where
  range_one : {c : ℕ} → c < 0x80 → Ranges c
  range_two : {c : ℕ} → 0x80 ≤ c → c < 0x800 → Ranges c
  range_three : {c : ℕ} → 0x800 ≤ c → c < 0x10000 → Valued c → utf8_of c ≡ three c → Ranges c
  range_four : {c : ℕ} → 0x10000 ≤ c → c < 0x110000 → Ranges c

pub ranges : (c : ℕ) → is_scalar c ≡ true → Ranges c
ranges c h = by (ltb c 0x80) (ltb c 0x800) (ltb c 0x10000) refl refl refl
  where
    by : (s t u : Bool) → ltb c 0x80 ≡ s → ltb c 0x800 ≡ t → ltb c 0x10000 ≡ u → Ranges c
    by true t u p q r = range_one (ltb-true _ _ p)
    by false true u p q r = range_two (ltb-false _ _ p) (ltb-true _ _ q)
    by false false true p q r = range_three (ltb-false _ _ q) (ltb-true _ _ r) (valued c h) (three_as c h (ltb-false _ _ q) (ltb-true _ _ r))
    by false false false p q r = range_four (ltb-false _ _ r) (valued c h).below

-- the number that is encoded for `c`: itself, or U+FFFD
pub encoded_for : (c : ℕ) → utf8_of c ≡ utf8_of (cond (is_scalar c) c 0xfffd)
encoded_for c = by (is_scalar c) refl
  where
    by : (t : Bool) → is_scalar c ≡ t → utf8_of c ≡ utf8_of (cond t c 0xfffd)
    by true e = refl
    by false e = utf8_replaced c e ∙ sym (utf8_three-high 0xfffd (omega arith) (omega arith))

-- ---- the exits of `put`

module _ (out out' : List ℕ) (at : ℕ) (r : Option ℕ) (c : ℕ) where
  pub put_one : c < 0x80 → Wrote (c ∷ []) out at r out' → Wrote (utf8_of c) out at r out'
  put_one h w = wrote_as (utf8_one c h) w

  pub put_two : 0x80 ≤ c → c < 0x800 → Wrote (two c) out at r out' → Wrote (utf8_of c) out at r out'
  put_two l h w = wrote_as (utf8_two c l h) w

  pub put_three-low : 0x800 ≤ c → c < 0xd800 → Wrote (three c) out at r out' → Wrote (utf8_of c) out at r out'
  put_three-low l h w = wrote_as (utf8_three-low c l h) w

  pub put_three-high : 0xe000 ≤ c → c < 0x10000 → Wrote (three c) out at r out' → Wrote (utf8_of c) out at r out'
  put_three-high l h w = wrote_as (utf8_three-high c l h) w

  pub put_four : 0x10000 ≤ c → c < 0x110000 → Wrote (four c) out at r out' → Wrote (utf8_of c) out at r out'
  put_four l h w = wrote_as (utf8_four c l h) w

  pub put_surrogate : 0xd800 ≤ c → c < 0xe000 → Wrote (0xef ∷ 0xbf ∷ 0xbd ∷ []) out at r out' → Wrote (utf8_of c) out at r out'
  put_surrogate l h w = wrote_as (utf8_replaced c (scalar-not-surrogate c l h)) w

  pub put_past : 0x110000 ≤ c → Wrote (0xef ∷ 0xbf ∷ 0xbd ∷ []) out at r out' → Wrote (utf8_of c) out at r out'
  put_past l w = wrote_as (utf8_replaced c (scalar-not-past c l)) w

-- ---- the exits of `utf8_len`

module _ (c : ℕ) where
  pub len-one : c < 0x80 → 1 ≡ length (utf8_of c)
  len-one h = rw (utf8_one c h)

  pub len-two : 0x80 ≤ c → c < 0x800 → 2 ≡ length (utf8_of c)
  len-two l h = rw (utf8_two c l h)

  pub len-three : 0x800 ≤ c → c < 0x10000 → 3 ≡ length (utf8_of c)
  len-three l h = by (ltb c 0xd800) (ltb c 0xe000) refl refl
    where
      by : (s t : Bool) → ltb c 0xd800 ≡ s → ltb c 0xe000 ≡ t → 3 ≡ length (utf8_of c)
      by true t p q = rw (utf8_three-low c l (ltb-true _ _ p))
      by false true p q = rw (utf8_replaced c (scalar-not-surrogate c (ltb-false _ _ p) (ltb-true _ _ q)))
      by false false p q = rw (utf8_three-high c (ltb-false _ _ q) h)

  pub len-four : 0x10000 ≤ c → c < 0x110000 → 4 ≡ length (utf8_of c)
  len-four l h = rw (utf8_four c l h)

  pub len-past : 0x110000 ≤ c → 3 ≡ length (utf8_of c)
  len-past l = rw (utf8_replaced c (scalar-not-past c l))

-- ---- the length and the bytes

pub replaced-scalar : (c : ℕ) → is_scalar (cond (is_scalar c) c 0xfffd) ≡ true
replaced-scalar c = by (is_scalar c) refl
  where
    by : (t : Bool) → is_scalar c ≡ t → is_scalar (cond t c 0xfffd) ≡ true
    by true e = e
    by false e = refl

-- what holds of the bytes in each range holds of those of any number
module _ (P : List ℕ → Type 0) (one : (c : ℕ) → c < 0x80 → P (c ∷ [])) (twos : (c : ℕ) → c < 0x800 → P (two c)) (threes : (c : ℕ) → c < 0x10000 → P (three c))
    (fours : (c : ℕ) → c < 0x110000 → P (four c)) where
  in_range_lem : (c : ℕ) → Ranges c → P (utf8_of c)
  in_range_lem c (range_one h) = rw (utf8_one c h) (one c h)
  in_range_lem c (range_two l h) = rw (utf8_two c l h) (twos c h)
  in_range_lem c (range_three l h v e) = rw e (threes c h)
  in_range_lem c (range_four l h) = rw (utf8_four c l h) (fours c h)

  pub utf8_all : (c : ℕ) → P (utf8_of c)
  utf8_all c = rw (encoded_for c) (in_range_lem (cond (is_scalar c) c 0xfffd) (ranges _ (replaced-scalar c)))

-- the length is 1 to 4
pub record Short (xs : List ℕ) : Type 0 where
  pub some : 0 < length xs
  pub four-at-most : length xs ≤ 4

pub utf8_short : (c : ℕ) → Short (utf8_of c)
utf8_short c =
    utf8_all Short (λ c h. record { some = omega arith; four-at-most = omega arith }) (λ c h. record { some = omega arith; four-at-most = omega arith })
    (λ c h. record { some = omega arith; four-at-most = omega arith })
    (λ c h. record { some = omega arith; four-at-most = omega arith })
    c

-- every number of the list is a byte
pub record Bytes (xs : List ℕ) : Type 0 where
  pub each : (i : ℕ) → get_or xs i 0 < 256

bytes-none : Bytes []
bytes-none = record { each = λ i. omega arith }

bytes-more : {x : ℕ} {xs : List ℕ} → x < 256 → Bytes xs → Bytes (x ∷ xs)
bytes-more {x} {xs} h b = record { each = at }
  where
    at : (i : ℕ) → get_or (x ∷ xs) i 0 < 256
    at zero = h
    at (suc i) = b.each i

pub utf8_bytes : (c : ℕ) → Bytes (utf8_of c)
utf8_bytes c =
    utf8_all Bytes (λ c h. bytes-more (omega arith) bytes-none)
    (λ c h. bytes-more (omega arith) (bytes-more (omega arith) bytes-none))
    (λ c h. bytes-more (omega arith) (bytes-more (omega arith) (bytes-more (omega arith) bytes-none)))
    (λ c h. bytes-more (omega arith) (bytes-more (omega arith) (bytes-more (omega arith) (bytes-more (omega arith) bytes-none))))
    c
