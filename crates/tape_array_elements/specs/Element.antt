-- The elements of an array, for reader and writer alike (document 01: the array's access files). Assumes nothing.
use Rattle.std.specs.Prelude.{◌≡◌, true, cond, List, ℕ, ◌+◌, take, drop}
use Rattle.type_category.specs.Category.{category_of}
use Rattle.resolve_field_types.specs.Fields.{fields_check}
use Rattle.resolve_field_types.specs.declared.FieldsCheck.{FieldsCheck}
use Rattle.resolve_field_types.specs.declared.FieldsCheck.TheVariants as check
use Rattle.resolve_field_plan.specs.Plan.{Entries, field_plan_of}
use Rattle.tape_shape.specs.declared.Shape.{Shape}
use Rattle.tape_shape.specs.declared.Shape.TheVariants as shape
use Rattle.tape_shape.specs.Value.{shape_of}
use Rattle.tape_shape.specs.Array.{is_last}

-- what some bytes hold: a value of type x; or dimension d, not the first, of array t with elements of type x. What is known of a type is the caller's
pub data Content (X : Type 0) : Type 0 where
  whole : X → Content X
  further : ℕ → ℕ → X → Content X

-- the `size` bytes from `from` on
abbrev pub cut : ℕ → ℕ → List ℕ → List ℕ
cut from size mem = take size (drop from mem)

-- what one index of dimension d of array t holds, with elements of type x
unfoldable pub element_item : {X : Type 0} → List ℕ → ℕ → ℕ → X → Content X
element_item book d t x = cond (is_last book d t) (whole x) (further (d + 1) t x)

-- by what a value of type block t goes: its fields, its elements, or the whole
unfoldable pub shape_at : List ℕ → ℕ → ℕ → Shape
shape_at book width t = shape_of (category_of book width t)

-- what the test of a type's fields gives, where it has fields; else nothing is refused
unfoldable pub shape_check : Shape → FieldsCheck → FieldsCheck
shape_check shape.Map f = f
shape_check shape.Array f = check.Fine
shape_check shape.Leaf f = check.Fine

-- the first refusal of the fields of array t's elements, of type e: looked for in the last dimension, where e has fields
unfoldable pub element_check : List ℕ → ℕ → ℕ → ℕ → ℕ → FieldsCheck
element_check book width d t e = cond (is_last book d t) (shape_check (shape_at book width e) (fields_check book width e)) check.Fine

-- a plan after that test: with the entries of the element's fields, or as it was
unfoldable pub shape_plan : Shape → List ℕ → List ℕ → List ℕ
shape_plan shape.Map filled plan = filled
shape_plan shape.Array filled plan = plan
shape_plan shape.Leaf filled plan = plan

-- the same by the dimension
unfoldable pub element_plan : List ℕ → ℕ → ℕ → ℕ → ℕ → List ℕ → List ℕ
element_plan book width d t e plan = cond (is_last book d t) (shape_plan (shape_at book width e) (field_plan_of book width e plan) plan) plan

-- the answer and the plan after it; without a refusal the plan serves for the element's fields, in the last dimension of elements with fields
pub record ElementChecked (book : List ℕ) (width d t e : ℕ) (before : List ℕ) (r : FieldsCheck) (after : List ℕ) : Type 0 where
  pub is : r ≡ element_check book width d t e
  pub plan : after ≡ element_plan book width d t e before
  pub entries : r ≡ check.Fine → is_last book d t ≡ true → shape_at book width e ≡ shape.Map → Entries book width e after
