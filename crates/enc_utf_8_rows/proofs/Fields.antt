-- The fields of a row: the only place that opens `row_of`. Assumes nothing.
use mathlib.Core.Path.{◌≡◌}
use mathlib.Core.Bool.{Bool, true, false, cond, ◌&&◌}
use Prim.Native.Nat.{ℕ, ◌/◌, ◌%◌, ◌^◌, ◌<◌}
use native.Mathlib.Omega.{arith}
use lib.Dec.{eqb, leb, ltb}
use Rattle.enc_utf_8_rows.specs.Rows.{after_lead, after_due, row_of}

-- ---- a field is below 64

small_if : (t : Bool) (x y : ℕ) → x < 64 → y < 64 → cond t x y < 64
small_if true x y p q = p
small_if false x y p q = q

lead_small : (b : ℕ) → after_lead b < 64
unfolding after_lead
lead_small b =
    small_if (ltb b 0x80) _ _ (omega arith)
    (small_if (ltb b 0xc2) _ _ (omega arith)
    (small_if (ltb b 0xe0) _ _ (omega arith)
    (small_if (ltb b 0xf0) _ _ (small_if (eqb b 0xe0) _ _ (omega arith) (small_if (eqb b 0xed) _ _ (omega arith) (omega arith)))
    (small_if (ltb b 0xf5) _ _ (small_if (eqb b 0xf0) _ _ (omega arith) (small_if (eqb b 0xf4) _ _ (omega arith) (omega arith))) (omega arith)))))

due-small : (lower upper next b : ℕ) → next < 64 → after_due lower upper next b < 64
unfolding after_due
due-small lower upper next b h = small_if (leb lower b && leb b upper) _ _ h (omega arith)

-- ---- the state after a byte, from each state on

module _ (b : ℕ) where
  h₀ : after_lead b < 64
  h₀ = lead_small b

  h₂ : after_due 0x80 0xbf 0 b < 64
  h₂ = due-small 0x80 0xbf 0 b (omega arith)

  h₃ : after_due 0x80 0xbf 12 b < 64
  h₃ = due-small 0x80 0xbf 12 b (omega arith)

  h₄ : after_due 0x80 0xbf 18 b < 64
  h₄ = due-small 0x80 0xbf 18 b (omega arith)

  h₅ : after_due 0xa0 0xbf 12 b < 64
  h₅ = due-small 0xa0 0xbf 12 b (omega arith)

  h₆ : after_due 0x80 0x9f 12 b < 64
  h₆ = due-small 0x80 0x9f 12 b (omega arith)

  h₇ : after_due 0x90 0xbf 18 b < 64
  h₇ = due-small 0x90 0xbf 18 b (omega arith)

  h₈ : after_due 0x80 0x8f 18 b < 64
  h₈ = due-small 0x80 0x8f 18 b (omega arith)

  pub from_start : row_of b / 2 ^ 0 % 64 ≡ after_lead b
  unfolding row_of
  from_start = omega (arith, h₀, h₂, h₃, h₄, h₅, h₆, h₇, h₈)

  pub from-error : row_of b / 2 ^ 6 % 64 ≡ 6
  unfolding row_of
  from-error = omega (arith, h₀, h₂, h₃, h₄, h₅, h₆, h₇, h₈)

  pub from_one : row_of b / 2 ^ 12 % 64 ≡ after_due 0x80 0xbf 0 b
  unfolding row_of
  from_one = omega (arith, h₀, h₂, h₃, h₄, h₅, h₆, h₇, h₈)

  pub from-two : row_of b / 2 ^ 18 % 64 ≡ after_due 0x80 0xbf 12 b
  unfolding row_of
  from-two = omega (arith, h₀, h₂, h₃, h₄, h₅, h₆, h₇, h₈)

  pub from-three : row_of b / 2 ^ 24 % 64 ≡ after_due 0x80 0xbf 18 b
  unfolding row_of
  from-three = omega (arith, h₀, h₂, h₃, h₄, h₅, h₆, h₇, h₈)

  pub from-e0 : row_of b / 2 ^ 30 % 64 ≡ after_due 0xa0 0xbf 12 b
  unfolding row_of
  from-e0 = omega (arith, h₀, h₂, h₃, h₄, h₅, h₆, h₇, h₈)

  pub from-ed : row_of b / 2 ^ 36 % 64 ≡ after_due 0x80 0x9f 12 b
  unfolding row_of
  from-ed = omega (arith, h₀, h₂, h₃, h₄, h₅, h₆, h₇, h₈)

  pub from-f0 : row_of b / 2 ^ 42 % 64 ≡ after_due 0x90 0xbf 18 b
  unfolding row_of
  from-f0 = omega (arith, h₀, h₂, h₃, h₄, h₅, h₆, h₇, h₈)

  pub from-f4 : row_of b / 2 ^ 48 % 64 ≡ after_due 0x80 0x8f 18 b
  unfolding row_of
  from-f4 = omega (arith, h₀, h₂, h₃, h₄, h₅, h₆, h₇, h₈)
