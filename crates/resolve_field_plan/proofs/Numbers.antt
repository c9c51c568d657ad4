-- The numbers of a planned field tell it. Assumes nothing.
use mathlib.Core.Path.{◌≡◌, refl, sym, ap, ◌∙◌}
use Prim.Native.Nat.{ℕ}
use native.Mathlib.Omega.{arith}
use Rattle.type_category.specs.Number.{category_number, category_at}
use Rattle.type_category.proofs.Numbers.{number-back}
use Rattle.resolve_field_plan.specs.declared.PlannedField.{PlannedField}
use Rattle.resolve_field_plan.specs.declared.Planned.{Planned}
use Rattle.resolve_field_plan.specs.declared.Planned.TheVariants as planned
use Rattle.resolve_field_plan.specs.Plan.{planned_numbers}

-- fields of the same parts are the same
same : (x y : PlannedField) → x.offset ≡ y.offset → x.size ≡ y.size → x.named ≡ y.named → x.resolved ≡ y.resolved → category_number x.category ≡ category_number y.category → x ≡ y
same x y o s n r c =
    let k : x.category ≡ y.category = sym (number-back x.category) ∙ ap category_at c ∙ number-back y.category in
    let e : ◌≡◌ {A = PlannedField} (record { offset = x.offset; size = x.size; named = x.named; resolved = x.resolved; category = x.category })
    (record { offset = y.offset; size = y.size; named = y.named; resolved = y.resolved; category = y.category }) = rw (o, s, n, r, k) in
    e

-- answers of the same numbers are the same
pub planned_is : (r a : Planned) → planned_numbers r ≡ planned_numbers a → r ≡ a
unfolding planned_numbers
planned_is (planned.Field x) (planned.Field y) e = ap planned.Field (same x y (cc) (cc) (cc) (cc) (cc))
planned_is (planned.Field x) (planned.NotFound c) e = absurd (let z : ◌≡◌ {A = ℕ} 0 7 = cc in omega arith)
planned_is (planned.Field x) planned.TooLong e = absurd (let z : ◌≡◌ {A = ℕ} 0 8 = cc in omega arith)
planned_is (planned.NotFound b) (planned.Field y) e = absurd (let z : ◌≡◌ {A = ℕ} 7 0 = cc in omega arith)
planned_is (planned.NotFound b) (planned.NotFound c) e = let q : b ≡ c = cc in ap planned.NotFound q
planned_is (planned.NotFound b) planned.TooLong e = absurd (let z : ◌≡◌ {A = ℕ} 7 8 = cc in omega arith)
planned_is planned.TooLong (planned.Field y) e = absurd (let z : ◌≡◌ {A = ℕ} 8 0 = cc in omega arith)
planned_is planned.TooLong (planned.NotFound c) e = absurd (let z : ◌≡◌ {A = ℕ} 8 7 = cc in omega arith)
planned_is planned.TooLong planned.TooLong e = refl

-- the same answer has the same numbers
pub planned_says : (r a : Planned) → r ≡ a → planned_numbers r ≡ planned_numbers a
planned_says r a e = ap planned_numbers e
