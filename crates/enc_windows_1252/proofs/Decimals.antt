-- Laws of the decimal form of a number: the only place that opens `digits`. Assumes nothing.
use mathlib.Core.Path.{◌≡◌, refl, ap, ◌∙◌}
use mathlib.Core.Bool.{Bool, true, false, cond}
use mathlib.Core.List.{List, [], ◌∷◌, ◌++◌}
use Prim.Native.Nat.{ℕ, zero, suc, ◌+◌, ◌/◌, ◌%◌, ◌≤◌, ◌<◌}
use native.Mathlib.Omega.{arith}
use lib.ListN.{length, length-append}
use lib.Dec.{ltb}
use borrow.Author.Tests.{lt-ltb, le-ltb, ltb-false}
use Rattle.enc_windows_1252.specs.Text.{digits, decimal}

-- two counts that are both above n give the same digits
digits_same : (j k n : ℕ) → n < j → n < k → digits j n ≡ digits k n
unfolding digits
digits_same zero k n h l = absurd (omega arith)
digits_same (suc j) zero n h l = absurd (omega arith)
digits_same (suc j) (suc k) n h l = by (ltb n 10) refl (λ o. digits_same j k (n / 10) (omega arith) (omega arith))
  where
    by : (t : Bool) → ltb n 10 ≡ t → (10 ≤ n → digits j (n / 10) ≡ digits k (n / 10))
        → cond t ((0x30 + n) ∷ []) (digits j (n / 10) ++ ((0x30 + n % 10) ∷ [])) ≡ cond t ((0x30 + n) ∷ []) (digits k (n / 10) ++ ((0x30 + n % 10) ∷ []))
    by true q rest = refl
    by false q rest = rw (rest (ltb-false n 10 q))

pub decimal_digit : (n : ℕ) → n < 10 → decimal n ≡ (0x30 + n) ∷ []
unfolding digits
decimal_digit n h = rw (lt-ltb n 10 h)

pub decimal-more : (n : ℕ) → 10 ≤ n → decimal n ≡ decimal (n / 10) ++ ((0x30 + n % 10) ∷ [])
unfolding digits
decimal-more n h = rw (le-ltb n 10 h) (ap (λ (l : List ℕ). l ++ ((0x30 + n % 10) ∷ [])) (digits_same n (suc (n / 10)) (n / 10) (omega arith) (omega arith)))

-- ---- the loop of `decimal_len`: `len` digits and those of `rest` are one more than all

module _ (rest len all : ℕ) (inv : len + length (decimal rest) ≡ all + 1) where
  pub count-again : 10 ≤ rest → len + 1 + length (decimal (rest / 10)) ≡ all + 1
  count-again h = omega (arith, ap length (decimal-more rest h) ∙ length-append (decimal (rest / 10)) ((0x30 + rest % 10) ∷ []))

  pub count-end : rest < 10 → len ≡ all
  count-end h = omega (arith, ap length (decimal_digit rest h))
