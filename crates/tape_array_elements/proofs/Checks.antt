-- The test of an element's fields, by the dimension and the element's shape. Assumes nothing.
use mathlib.Core.Path.{◌≡◌, refl, ap, ◌∙◌}
use mathlib.Core.Bool.{Bool, true, false}
use mathlib.Core.List.{List}
use Prim.Native.Nat.{ℕ}
use native.Mathlib.Omega.{arith}
use Rattle.type_category.specs.Category.{category_of}
use Rattle.type_category.specs.declared.type_category.AdsTypeCategory.{AdsTypeCategory}
use Rattle.resolve_field_types.specs.declared.FieldsCheck.{FieldsCheck}
use Rattle.resolve_field_types.specs.declared.FieldsCheck.TheVariants as check
use Rattle.resolve_field_types.proofs.Numbers.{check-is}
use Rattle.resolve_field_plan.specs.Plan.{FieldPlanIs}
use Rattle.tape_shape.specs.declared.Shape.{Shape}
use Rattle.tape_shape.specs.declared.Shape.TheVariants as shape
use Rattle.tape_shape.specs.Value.{shape_of}
use Rattle.tape_shape.specs.Array.{is_last}
use Rattle.tape_array_elements.specs.Element.{shape_at, shape_check, element_check, shape_plan, element_plan, ElementChecked}

module _ (book : List ℕ) (width d t e : ℕ) (b : Bool) (q : b ≡ is_last book d t) where
  pub check-not-last : (plan : List ℕ) → b ≡ false → ElementChecked book width d t e plan check.Fine plan
  unfolding element_check element_plan
  check-not-last plan h = record { is = rw (← q, h); plan = rw (← q, h); entries = λ f l m. absurd (let z : ◌≡◌ {A = ℕ} 0 1 = cc in omega arith) }

  module _ (h : b ≡ true) (k : Shape) (y : AdsTypeCategory) (ey : y ≡ category_of book width e) (ek : k ≡ shape_of y) (plan : List ℕ) where
    s : k ≡ shape_at book width e
    unfolding shape_at
    s = ek ∙ ap shape_of ey

    pub check-map : k ≡ shape.Map → (r : FieldsCheck) (before : List ℕ) → FieldPlanIs book width e before r plan → ElementChecked book width d t e before r plan
    unfolding element_check shape_check element_plan shape_plan
    check-map z r before x = record { is = rw (← q, h, ← s, z) (check-is _ _ x.is); plan = rw (← q, h, ← s, z) x.plan; entries = λ f l m. x.entries f }

    pub check-other : (k ≡ shape.Map → ⊥) → ElementChecked book width d t e plan check.Fine plan
    unfolding element_check shape_check element_plan shape_plan
    check-other n = by k refl
      where
        by : (j : Shape) → k ≡ j → ElementChecked book width d t e plan check.Fine plan
        by shape.Map z = absurd (n z)
        by shape.Array z = record {
          is = rw (← q, h, ← s, z);
          plan = rw (← q, h, ← s, z);
          entries = λ f l m. absurd (n (s ∙ m));
        }
        by shape.Leaf z = record {
          is = rw (← q, h, ← s, z);
          plan = rw (← q, h, ← s, z);
          entries = λ f l m. absurd (n (s ∙ m));
        }
