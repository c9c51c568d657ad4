-- What each return of validators.rt answers, where the tests have led. Assumes nothing.
use mathlib.Core.Path.{◌≡◌, sym, ◌∙◌}
use mathlib.Core.Bool.{Bool, true, false}
use mathlib.Core.List.{List}
use Prim.Native.Nat.{ℕ}
use borrow.Author.Tests.{eq-eqb, ne_eqb}
use Rattle.type_id.specs.declared.AdsTypeId.{AdsTypeId}
use Rattle.type_category.specs.declared.type_category.AdsTypeCategory.{AdsTypeCategory}
use Rattle.type_category.specs.Category.{category_of}
use Rattle.validators.specs.Validate.{is_in, indirect, type_id_refusal, integer_refusal, category_refusal}

module _ (book : List ℕ) (n : ℕ) where
  module _ (width : ℕ) (c : AdsTypeCategory) (e : c ≡ category_of book width n) (t : Bool) where
    -- validate_integer_type_id
    module _ (expected : AdsTypeId) (size : ℕ) (q : t ≡ is_in c indirect) where
      pub integer_wide : t ≡ true → width ≡ size → 0 ≡ integer_refusal book n expected width size
      unfolding integer_refusal
      integer_wide h k = sym (rw (← e, ← q, h, eq-eqb width size k))

      pub integer_size : t ≡ true → (width ≡ size → ⊥) → 10 ≡ integer_refusal book n expected width size
      unfolding integer_refusal
      integer_size h k = sym (rw (← e, ← q, h, ne_eqb width size k))

      pub integer_by_id : t ≡ false → (r : ℕ) → r ≡ type_id_refusal book n expected → r ≡ integer_refusal book n expected width size
      unfolding integer_refusal
      integer_by_id h r p = p ∙ sym (rw (← e, ← q, h))

    -- validate_type_category
    module _ (expected : ℕ) (q : t ≡ is_in c expected) where
      pub category-valid : t ≡ true → 0 ≡ category_refusal book n expected width
      unfolding category_refusal
      category-valid h = sym (rw (← e, ← q, h))

      pub category_mismatch : t ≡ false → 17 ≡ category_refusal book n expected width
      unfolding category_refusal
      category_mismatch h = sym (rw (← e, ← q, h))
