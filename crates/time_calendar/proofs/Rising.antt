-- Sums that never fall: a number lies between two of them in one place alone. Assumes nothing.
use mathlib.Core.Path.{◌≡◌, refl}
use mathlib.Core.Bool.{Bool, true, false}
use Prim.Native.Nat.{ℕ, zero, suc, ◌+◌, ◌-◌, ◌≤◌, ◌<◌}
use native.Mathlib.Nat.{le_refl, le_trans}
use native.Mathlib.Omega.{arith}
use lib.Dec.{ltb}
use borrow.Author.Tests.{ltb-true, ltb-false}

module _ (f : ℕ → ℕ) (step : (k : ℕ) → f k ≤ f (suc k)) where
  rises_by : (a j : ℕ) → f a ≤ f (a + j)
  rises_by a zero = let e : a + 0 ≡ a = omega arith in rw e (le_refl (f a))
  rises_by a (suc j) = let e : a + suc j ≡ suc (a + j) = omega arith in rw e (le_trans (rises_by a j) (step (a + j)))

  pub rises : (a b : ℕ) → a ≤ b → f a ≤ f b
  rises a b h = let e : a + (b - a) ≡ b = omega arith in (rw e at (rises_by a (b - a)))

  not-below : (a b x : ℕ) → x < f (suc a) → f b ≤ x → a < b → ⊥
  not-below a b x p q h = omega (arith, rises (suc a) b h)

  -- x lies between the sums at a, and between those at b
  pub one_place : (a b x : ℕ) → f a ≤ x → x < f (suc a) → f b ≤ x → x < f (suc b) → a ≡ b
  one_place a b x p q r s = by (ltb a b) refl (ltb b a) refl
    where
      by : (t : Bool) → ltb a b ≡ t → (u : Bool) → ltb b a ≡ u → a ≡ b
      by true e u d = absurd (not-below a b x q r (ltb-true a b e))
      by false e true d = absurd (not-below b a x s p (ltb-true b a d))
      by false e false d = omega (arith, ltb-false a b e, ltb-false b a d)
