-- The numbers of what a plan answers tell it. Assumes nothing.
use mathlib.Core.Path.{◌≡◌, ap}
use Prim.Native.Nat.{ℕ}
use native.Mathlib.Omega.{arith}
use lib.ListN.{length}
use Rattle.plan_save.specs.declared.Plan.{Plan}
use Rattle.plan_save.specs.declared.Plan.TheVariants as plan
use Rattle.plan_save.specs.Call.{plan_numbers}

-- answers of the same numbers are the same
pub plan_is : (r a : Plan) → plan_numbers r ≡ plan_numbers a → r ≡ a
plan_is (plan.Yes n) (plan.Yes m) e = let q : n ≡ m = cc in ap plan.Yes q
plan_is (plan.Yes n) (plan.No m) e = absurd (let z : ◌≡◌ {A = ℕ} 1 0 = cc in omega arith)
plan_is (plan.Yes n) (plan.NotFound c m) e = absurd (let z : ◌≡◌ {A = ℕ} 0 7 = cc in omega arith)
plan_is (plan.Yes n) (plan.Refused j m) e = absurd (let z : ◌≡◌ {A = ℕ} 3 2 = ap length e in omega arith)
plan_is (plan.No n) (plan.Yes m) e = absurd (let z : ◌≡◌ {A = ℕ} 0 1 = cc in omega arith)
plan_is (plan.No n) (plan.No m) e = let q : n ≡ m = cc in ap plan.No q
plan_is (plan.No n) (plan.NotFound c m) e = absurd (let z : ◌≡◌ {A = ℕ} 0 7 = cc in omega arith)
plan_is (plan.No n) (plan.Refused j m) e = absurd (let z : ◌≡◌ {A = ℕ} 3 2 = ap length e in omega arith)
plan_is (plan.NotFound b n) (plan.Yes m) e = absurd (let z : ◌≡◌ {A = ℕ} 7 0 = cc in omega arith)
plan_is (plan.NotFound b n) (plan.No m) e = absurd (let z : ◌≡◌ {A = ℕ} 7 0 = cc in omega arith)
plan_is (plan.NotFound b n) (plan.NotFound c m) e = let p : b ≡ c = cc in let q : n ≡ m = cc in rw (p, q)
plan_is (plan.NotFound b n) (plan.Refused j m) e = absurd (let z : ◌≡◌ {A = ℕ} 3 2 = ap length e in omega arith)
plan_is (plan.Refused k n) (plan.Yes m) e = absurd (let z : ◌≡◌ {A = ℕ} 2 3 = ap length e in omega arith)
plan_is (plan.Refused k n) (plan.No m) e = absurd (let z : ◌≡◌ {A = ℕ} 2 3 = ap length e in omega arith)
plan_is (plan.Refused k n) (plan.NotFound c m) e = absurd (let z : ◌≡◌ {A = ℕ} 2 3 = ap length e in omega arith)
plan_is (plan.Refused k n) (plan.Refused j m) e = let p : k ≡ j = cc in let q : n ≡ m = cc in rw (p, q)

-- the same answer has the same numbers
pub plan_says : (r a : Plan) → r ≡ a → plan_numbers r ≡ plan_numbers a
plan_says r a e = ap plan_numbers e
