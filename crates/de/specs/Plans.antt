-- What the functions of the reader know of a plan of fields, and of a field's part of the bytes. No contract of a public function cites this. Assumes nothing.
use Rattle.std.specs.Prelude.{◌≡◌, true, cond, List, ℕ, ◌+◌, ◌≤◌, leb}
use Rattle.enc_number.specs.Answer.{refusal_of}
use Rattle.enc_number.specs.Refusals as refusal
use Rattle.type_book.specs.Book.{is_type}
use Rattle.type_category.specs.Category.{category_of}
use Rattle.resolve_field_types.specs.Fields.{resolve_field, field_numbers}
use Rattle.resolve_field_types.specs.declared.ResolvedField.{ResolvedField}
use Rattle.resolve_field_types.specs.declared.FieldAnswer.{FieldAnswer}
use Rattle.resolve_field_types.specs.declared.FieldAnswer.TheVariants as answer
use Rattle.resolve_field_plan.specs.Plan.{PlanServes}
use Rattle.tape_shape.specs.declared.Shape.TheVariants as shape
use Rattle.tape_shape.specs.Array.{is_last}
use Rattle.tape_array_elements.specs.Element.{shape_at}
use Rattle.de_leaf_output.specs.declared.Typed.{Typed}
use Rattle.de.specs.declared.reading.Part.{Part}
use Rattle.de.specs.declared.reading.Part.TheVariants as part
use Rattle.tape.specs.declared.record.Record.{Record}
use Rattle.de_output.specs.Trace.{Trace, rec, one}
use Rattle.de.specs.Walk.{Ctx, typed_of, Child, field_value, read_walk}

-- the plan of a type that has fields is empty, or none of them is refused
pub record ReadPlan (c : Ctx) (t : ℕ) (plan : List ℕ) : Type 0 where
  pub given : shape_at c.book c.width t ≡ shape.Map → PlanServes c.book c.width t plan

-- the same of the elements of type e, in the last dimension
pub record ReadElementPlan (c : Ctx) (d t e : ℕ) (plan : List ℕ) : Type 0 where
  pub given : is_last c.book d t ≡ true → ReadPlan c e plan

-- what a field is in `len` bytes, by what resolving it came to: its type and its bytes, 10 if it passes their end, 7 with its block, or 8
unfoldable pub member_part : Ctx → ℕ → FieldAnswer → Part
member_part c len (answer.Field f) =
    cond (leb (f.offset + f.size) len) (part.Value (typed_of c f.named f.resolved) f.offset (f.offset + f.size)) (part.Stop refusal.wrong_size 0)
member_part c len (answer.NotFound b) = part.Stop (refusal_of (field_numbers (answer.NotFound b))) b
member_part c len answer.TooLong = part.Stop (refusal_of (field_numbers answer.TooLong)) 0

-- a type and the bytes of a field block f that resolves to it
pub record ValueIs (c : Ctx) (f len : ℕ) (x : Typed) (from to : ℕ) : Type 0 where
  pub field : ResolvedField
  pub found : resolve_field c.book c.width f ≡ answer.Field field
  pub type-is : x ≡ typed_of c field.named field.resolved
  pub from_is : from ≡ field.offset
  pub to_is : to ≡ field.offset + field.size
  pub inside : to ≤ len
  pub typed : is_type c.book x.resolved ≡ true
  pub category-is : x.category ≡ category_of c.book c.width x.resolved

-- that answer; and what it tells where it is a value
pub record PartIs (c : Ctx) (f len : ℕ) (r : Part) : Type 0 where
  pub is : r ≡ member_part c len (resolve_field c.book c.width f)
  pub value : (x : Typed) (from to : ℕ) → r ≡ part.Value x from to → ValueIs c f len x from to

-- what field block f emits after its key
abbrev pub field_trace : Child → Ctx → List ℕ → ℕ → Trace
field_trace child c mem f = field_value child c mem (resolve_field c.book c.width f)

-- a record of kind 0 says nothing; any other is all that field block f emits after its key
pub record FieldNumber (c : Ctx) (left f : ℕ) (mem : List ℕ) (r : Record) : Type 0 where
  pub is : (r.kind ≡ 0 → ⊥) → field_trace (read_walk c left) c mem f ≡ one (rec r)
