-- What each answer of the plan gives: one law for each variant. Assumes nothing.
use mathlib.Core.Path.{◌≡◌, refl}
use mathlib.Core.List.{List, [], ◌∷◌}
use Prim.Native.Nat.{ℕ}
use Rattle.plan_save.specs.declared.Plan.{Plan}
use Rattle.plan_save.specs.declared.Plan.TheVariants as plan
use Rattle.plan_save.specs.Call.{plan_numbers}
use Rattle.gateway_lent_values.specs.Values.{Gives}

module _ {before after : List ℕ} {r : ℕ} where
  pub plan-yes : (x : Plan) (len : ℕ) → x ≡ plan.Yes len → Gives (0 ∷ 1 ∷ len ∷ []) before r after → Gives (plan_numbers x) before r after
  plan-yes x len e g = rw e g

  pub plan-no : (x : Plan) (len : ℕ) → x ≡ plan.No len → Gives (0 ∷ 0 ∷ len ∷ []) before r after → Gives (plan_numbers x) before r after
  plan-no x len e g = rw e g

  pub plan-lacks : (x : Plan) (b len : ℕ) → x ≡ plan.NotFound b len → Gives (0 ∷ b ∷ len ∷ []) before r after → Gives (plan_numbers x) before 7 after
  plan-lacks x b len e g = rw e (record { is = refl; values = g.values })

  pub plan-refused : (x : Plan) (n len : ℕ) → x ≡ plan.Refused n len → Gives (0 ∷ len ∷ []) before r after → Gives (plan_numbers x) before n after
  plan-refused x n len e g = rw e (record { is = refl; values = g.values })
