-- How long the figures are. Assumes nothing.
use mathlib.Core.Path.{◌≡◌, refl, ap, ◌∙◌}
use mathlib.Core.Bool.{Bool, true, false, cond}
use mathlib.Core.List.{List, [], ◌∷◌, ◌++◌}
use Prim.Native.Nat.{ℕ, zero, suc, ◌+◌, ◌-◌, ◌*◌, ◌/◌, ◌%◌, ◌≤◌, ◌<◌}
use native.Mathlib.Omega.{arith}
use lib.ListN.{length, length-append}
use lib.Dec.{ltb}
use borrow.Author.Tests.{ltb-true, ltb-false}
use Rattle.enc_windows_1252.specs.Text.{decimal}
use Rattle.enc_windows_1252.proofs.Decimals.{decimal_digit, decimal-more}
use Rattle.print_figures.specs.Figures.{signed, glyph, hex, hex_text}

-- one of two lists, neither longer than m
pub either : (t : Bool) (xs ys : List ℕ) (m : ℕ) → length xs ≤ m → length ys ≤ m → length (cond t xs ys) ≤ m
either true xs ys m a b = a
either false xs ys m a b = b

pub three-long : (xs ys zs : List ℕ) → length (xs ++ ys ++ zs) ≡ length xs + length ys + length zs
three-long xs ys zs = simp length-append (omega arith)

-- ---- figures

-- 10 to the power of d
unfoldable ten : ℕ → ℕ
ten zero = 1
ten (suc d) = 10 * ten d

-- a number below 10 to the power of d + 1 has at most d + 1 digits
few-digits : (d n : ℕ) → n < ten (suc d) → length (decimal n) ≤ suc d
unfolding ten
few-digits zero n h = omega (arith, ap length (decimal_digit n (omega arith)))
few-digits (suc d) n h = by (ltb n 10) refl (few-digits d (n / 10) (omega arith))
  where
    by : (t : Bool) → ltb n 10 ≡ t → length (decimal (n / 10)) ≤ suc d → length (decimal n) ≤ suc (suc d)
    by true q l = omega (arith, ap length (decimal_digit n (ltb-true n 10 q)))
    by false q l = omega (arith, ap length (decimal-more n (ltb-false n 10 q)) ∙ length-append (decimal (n / 10)) ((0x30 + n % 10) ∷ []))

pub two_digits : (n : ℕ) → n < 100 → length (decimal n) ≤ 2
unfolding ten
two_digits n h = few-digits 1 n h

pub four-digits : (n : ℕ) → n < 10000 → length (decimal n) ≤ 4
unfolding ten
four-digits n h = few-digits 3 n h

-- a number of 64 bits, and 2 ^ 64 itself
pub word-digits : (n : ℕ) → n ≤ 18446744073709551616 → length (decimal n) ≤ 20
unfolding ten
word-digits n h = few-digits 19 n (omega arith)

pub signed-short : (n : ℕ) → n ≤ 18446744073709551616 → length (signed n) ≤ 21
unfolding signed
signed-short n h =
    either (ltb n 9223372036854775808) _ _ 21 (omega (arith, word-digits n h)) (omega (arith, word-digits (18446744073709551616 - n) (omega arith)))

pub hex-long : (k n : ℕ) → length (hex k n) ≡ k
unfolding hex
hex-long zero n = refl
hex-long (suc k) n = omega (arith, length-append (hex k (n / 16)) (glyph (n % 16) ∷ []), hex-long k (n / 16))

pub hexes_long : (xs : List ℕ) → length (hex_text xs) ≡ 2 * length xs
unfolding hex_text
hexes_long [] = refl
hexes_long (x ∷ xs) = omega (arith, length-append (hex 2 x) (hex_text xs), hex-long 2 x, hexes_long xs)
