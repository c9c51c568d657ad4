-- Laws of numbers in decimal and hexadecimal, put digit by digit. Assumes nothing.
use Rattle.std.specs.Prelude.{Option}
use mathlib.Core.Path.{◌≡◌, refl}
use mathlib.Core.List.{List, [], ◌∷◌, ◌++◌}
use Prim.Native.Nat.{ℕ, zero, suc, ◌+◌, ◌-◌, ◌/◌, ◌%◌, ◌≤◌, ◌<◌}
use native.Mathlib.Omega.{arith}
use native.Mathlib.Numerals.{add-one}
use lib.ListN.{length, drop, get_or, drop_of_length-le}
use lib.Seq.{drop-cons}
use borrow.Author.Tests.{lt-ltb, le-ltb}
use Rattle.enc_windows_1252.specs.Text.{decimal}
use Rattle.enc_windows_1252.proofs.Decimals.{decimal_digit, decimal-more}
use Rattle.print_figures.specs.Puts.{Puts}
use Rattle.print_figures.specs.Figures.{signed, glyph, hex, hex_text}
use Rattle.print_figures.proofs.Joins.{chain, puts_as, puts_none, Rest, rest-next, rest_end}

-- ---- decimal

module _ (n : ℕ) where
  pub digit_last : {out out' : List ℕ} {p r : Option ℕ} → n < 10 → Puts ((0x30 + n) ∷ []) out p r out' → Puts (decimal n) out p r out'
  digit_last h a = puts_as (decimal_digit n h) a

  pub digit_more : {out out₁ out₂ : List ℕ} {p q r : Option ℕ} → 10 ≤ n → Puts (decimal (n / 10)) out p q out₁ → Puts ((0x30 + n % 10) ∷ []) out₁ q r out₂ → Puts (decimal n) out p r out₂
  digit_more h a b = puts_as (decimal-more n h) (chain a b)

  pub signed_plus : {out out' : List ℕ} {p r : Option ℕ} → n < 9223372036854775808 → Puts (decimal n) out p r out' → Puts (signed n) out p r out'
  unfolding signed
  signed_plus h a = rw (lt-ltb n 9223372036854775808 h) a

  pub signed-minus : {out out₁ out₂ : List ℕ} {p q r : Option ℕ} → 9223372036854775808 ≤ n → n < 18446744073709551616 → Puts (0x2d ∷ []) out p q out₁
      → Puts (decimal (18446744073709551615 - n + 1)) out₁ q r out₂ → Puts (signed n) out p r out₂
  unfolding signed
  signed-minus h l a b =
      let e : 18446744073709551615 - n + 1 ≡ 18446744073709551616 - n = omega arith in
      rw (le-ltb n 9223372036854775808 h) (chain a (rw e at b))

-- ---- hexadecimal

pub glyph-low : (d : ℕ) → d < 10 → 0x30 + d ≡ glyph d
unfolding glyph
glyph-low d h = rw (lt-ltb d 10 h)

pub glyph-high : (d : ℕ) → 10 ≤ d → 0x37 + d ≡ glyph d
unfolding glyph
glyph-high d h = rw (le-ltb d 10 h)

hex-suc : (k n : ℕ) → (k ≡ 0 → ⊥) → hex k n ≡ hex (k - 1) (n / 16) ++ (glyph (n % 16) ∷ [])
unfolding hex
hex-suc zero n h = absurd (h refl)
hex-suc (suc k) n h = let e : suc k - 1 ≡ k = omega arith in rw e

module _ (k n : ℕ) where
  pub hex-none : {out : List ℕ} {p : Option ℕ} → k ≡ 0 → Puts (hex k n) out p p out
  unfolding hex
  hex-none e = rw e puts_none

  pub hex-more : {out out₁ out₂ : List ℕ} {p q r : Option ℕ} (d : ℕ) → (k ≡ 0 → ⊥) → d ≡ glyph (n % 16) → Puts (hex (k - 1) (n / 16)) out p q out₁ → Puts (d ∷ []) out₁ q r out₂ → Puts (hex k n) out p r out₂
  hex-more d h e a b = puts_as (hex-suc k n h) (chain a (rw e at b))

-- ---- two digits for each byte

module _ (text out₀ : List ℕ) (p₀ : Option ℕ) (i : ℕ) (out : List ℕ) (p : Option ℕ) (inv : Rest (hex_text text) out₀ p₀ (hex_text (drop i text)) out p) where
  pub hexes_again : {out' : List ℕ} {r : Option ℕ} (b : ℕ) → b ≡ get_or text i 0 → i < length text → Puts (hex 2 b) out p r out' → Rest (hex_text text) out₀ p₀ (hex_text (drop (i + 1) text)) out' r
  unfolding hex_text
  hexes_again b e h a = rest-next inv (rw (drop-cons text i 0 h, add-one, e)) a

  pub hexes_end : length text ≤ i → Puts (hex_text text) out₀ p₀ p out
  unfolding hex_text
  hexes_end h = rest_end inv (rw (drop_of_length-le text h))
