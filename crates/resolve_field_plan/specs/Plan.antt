-- A plan: for each field of a type what resolving it came to, kept as one number. Assumes nothing.
use Rattle.std.specs.Prelude.{◌≡◌, true, List, [], ◌∷◌, ℕ, zero, suc, ◌+◌, ◌*◌, ◌-◌, ◌/◌, ◌<◌, length, get_or, set}
use Rattle.enc_number.specs.Refusals as refusal
use Rattle.type_book.specs.Book.{is_type, fields_of}
use Rattle.type_category.specs.Category.{category_of}
use Rattle.type_category.specs.declared.type_category.AdsTypeCategory.{AdsTypeCategory}
use Rattle.type_category.specs.Number.{category_number}
use Rattle.resolve_field_types.specs.Fields.{check_numbers, resolve_field, fields_check}
use Rattle.resolve_field_types.specs.declared.ResolvedField.{ResolvedField}
use Rattle.resolve_field_types.specs.declared.FieldAnswer.{FieldAnswer}
use Rattle.resolve_field_types.specs.declared.FieldAnswer.TheVariants as answer
use Rattle.resolve_field_types.specs.declared.FieldsCheck.{FieldsCheck}
use Rattle.resolve_field_types.specs.declared.FieldsCheck.TheVariants as check
use Rattle.resolve_field_plan.specs.declared.PlannedField.{PlannedField}
use Rattle.resolve_field_plan.specs.declared.Planned.{Planned}
use Rattle.resolve_field_plan.specs.declared.Planned.TheVariants as planned

-- an entry: 1, the blocks of a type as named and as resolved, each in 16 bits, and the number of its category in 4
abbrev pub plan_entry_by : ℕ → ℕ → AdsTypeCategory → ℕ
plan_entry_by named block c = 1 + (named * 65536 + block) * 16 + category_number c

-- a field's entry
abbrev pub plan_entry_of : PlannedField → ℕ
plan_entry_of x = plan_entry_by x.named x.resolved x.category

-- document 01's number and values of a planned field: 0 and its offset, size, resolved block and that type's category, 7 and the block whose
-- type name is not found, or 8
unfoldable pub planned_numbers : Planned → List ℕ
planned_numbers (planned.Field x) = 0 ∷ x.offset ∷ x.size ∷ x.named ∷ x.resolved ∷ category_number x.category ∷ []
planned_numbers (planned.NotFound b) = refusal.not_found ∷ b ∷ []
planned_numbers planned.TooLong = refusal.chain_too_long ∷ []

-- what a field came to, with the category of its type
unfoldable pub planned_of : List ℕ → ℕ → FieldAnswer → Planned
planned_of book width (answer.Field x) =
    planned.Field (record { offset = x.offset; size = x.size; named = x.named; resolved = x.resolved; category = category_of book width x.resolved })
planned_of book width (answer.NotFound b) = planned.NotFound b
planned_of book width answer.TooLong = planned.TooLong

-- x is what field block f resolves to, with the category of its type
pub record FieldIs (book : List ℕ) (width f : ℕ) (x : PlannedField) : Type 0 where
  pub whole : ResolvedField
  pub found : resolve_field book width f ≡ answer.Field whole
  pub offset-is : whole.offset ≡ x.offset
  pub size_is : whole.size ≡ x.size
  pub named-is : whole.named ≡ x.named
  pub resolved-is : whole.resolved ≡ x.resolved
  pub named-typed : is_type book x.named ≡ true
  pub typed : is_type book x.resolved ≡ true
  pub category-is : x.category ≡ category_of book width x.resolved

-- an answer is that of resolving field block f; what each of its cases tells
pub record PlannedFieldIs (book : List ℕ) (width f : ℕ) (r : Planned) : Type 0 where
  pub is : planned_numbers r ≡ planned_numbers (planned_of book width (resolve_field book width f))
  pub field : (x : PlannedField) → r ≡ planned.Field x → FieldIs book width f x
  pub lacks : (b : ℕ) → r ≡ planned.NotFound b → resolve_field book width f ≡ answer.NotFound b
  pub endless : r ≡ planned.TooLong → resolve_field book width f ≡ answer.TooLong

-- an entry that is not 0 is the entry of what the field resolves to
pub record Known (book : List ℕ) (width f e : ℕ) : Type 0 where
  pub entry : PlannedField
  pub is : FieldIs book width f entry
  pub packed : e ≡ plan_entry_of entry

-- 0 says nothing of field block f; any other entry is its own
pub record PlanEntry (book : List ℕ) (width f e : ℕ) : Type 0 where
  pub known : (e ≡ 0 → ⊥) → Known book width f e

-- an entry is 0, or that of what some field block resolves to
pub record SomeEntry (book : List ℕ) (width e : ℕ) : Type 0 where
  pub field : ℕ
  pub is : PlanEntry book width field e

-- each of the first i entries of a plan is 0, or that of some field
pub record Earlier (book : List ℕ) (width i : ℕ) (plan : List ℕ) : Type 0 where
  pub at : (j : ℕ) → j < i → SomeEntry book width (get_or plan j 0)

-- an entry among the first i of a plan, of a type that was named at that block
pub record Among (plan : List ℕ) (i named e : ℕ) : Type 0 where
  pub place : ℕ
  pub inside : place < i
  pub is : e ≡ get_or plan place 0
  pub named-is : (e - 1) / 1048576 ≡ named

-- 0, or such an entry
pub record Recent (plan : List ℕ) (i named e : ℕ) : Type 0 where
  pub found : (e ≡ 0 → ⊥) → Among plan i named e

-- each field of type block t has an entry that is 0 or its own; past the plan's end it is 0
pub record Entries (book : List ℕ) (width t : ℕ) (plan : List ℕ) : Type 0 where
  pub at : (i : ℕ) → i < fields_of book t → PlanEntry book width (t + 1 + i) (get_or plan i 0)

-- the plan of type block t is empty, or no field of t is refused
pub record PlanServes (book : List ℕ) (width t : ℕ) (plan : List ℕ) : Type 0 where
  pub entries : Entries book width t plan
  pub fine : (length plan ≡ 0 → ⊥) → fields_check book width t ≡ check.Fine

-- a plan after field i was resolved: with its entry the plan is filled further, after a refusal it stays
unfoldable pub noted : List ℕ → ℕ → (List ℕ → List ℕ) → ℕ → List ℕ → FieldAnswer → List ℕ
noted book width further i plan (answer.Field x) = further (set plan i (plan_entry_by x.named x.resolved (category_of book width x.resolved)))
noted book width further i plan (answer.NotFound b) = plan
noted book width further i plan answer.TooLong = plan

-- a plan with the entries of the k field blocks from block f on, the first at place i, up to the first field that is refused; what has no place is left out
unfoldable pub field_plan_from : List ℕ → ℕ → ℕ → ℕ → ℕ → List ℕ → List ℕ
field_plan_from book width f i zero plan = plan
field_plan_from book width f i (suc k) plan = noted book width (field_plan_from book width (f + 1) (i + 1) k) i plan (resolve_field book width f)

-- a plan with the entries of the fields of type block t
unfoldable pub field_plan_of : List ℕ → ℕ → ℕ → List ℕ → List ℕ
field_plan_of book width t plan = field_plan_from book width (t + 1) 0 (fields_of book t) plan

-- the answer is the first refusal of the fields, and the plan has the entries of those before it; without one it serves for all, whatever it held
pub record FieldPlanIs (book : List ℕ) (width t : ℕ) (before : List ℕ) (r : FieldsCheck) (after : List ℕ) : Type 0 where
  pub is : check_numbers r ≡ check_numbers (fields_check book width t)
  pub plan : after ≡ field_plan_of book width t before
  pub entries : r ≡ check.Fine → Entries book width t after
