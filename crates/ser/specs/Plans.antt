-- What the functions of the writer know of a plan of fields, and of a key before its value. No contract of a public function cites this.
-- Assumes nothing.
use Rattle.std.specs.Prelude.{◌≡◌, true, cond, List, ℕ, ◌+◌, length, leb}
use Rattle.enc_number.specs.Refusals as refusal
use Rattle.type_book.specs.Book.{is_type, count_of}
use Rattle.type_book_check.specs.Check.{ValidBook}
use Rattle.type_category.specs.Category.{category_of}
use Rattle.resolve_field_types.specs.Fields.{resolve_field}
use Rattle.resolve_field_plan.specs.Plan.{PlanServes}
use Rattle.resolve_field_plan.specs.declared.PlannedField.{PlannedField}
use Rattle.tape_shape.specs.declared.Shape.TheVariants as shape
use Rattle.tape_shape.specs.Value.{shape_of}
use Rattle.tape_shape.specs.Array.{is_last, stride_of}
use Rattle.tape_array_elements.specs.Element.{whole, cut, element_item}
use Rattle.tape.specs.declared.cursor.Cursor.{Cursor}
use Rattle.ser_first_fields.specs.Firsts.{Firsts}
use Rattle.ser.specs.declared.array_writer.Counted.{Counted}
use Rattle.ser.specs.declared.array_writer.Counted.TheVariants as counted
use Rattle.ser.specs.declared.map_writer.Keyed.{Keyed}
use Rattle.ser.specs.declared.map_writer.Keyed.TheVariants as keyed
use Rattle.ser.specs.Write.{WriteCtx, write_ctx, Outcome, refused, ChildWrite, placed, field_write, key_of, elements_write, dimension_write}

-- the plan of a type that has fields is empty, or none of them is refused
pub record WritePlan (book : List ℕ) (width t : ℕ) (plan : List ℕ) : Type 0 where
  pub given : shape_of (category_of book width t) ≡ shape.Map → PlanServes book width t plan

-- the same of the elements of type e, in the last dimension
pub record WriteElementPlan (book : List ℕ) (width d t e : ℕ) (plan : List ℕ) : Type 0 where
  pub given : is_last book d t ≡ true → WritePlan book width e plan

-- the elements that a dimension has on the tape, or the refusal
unfoldable pub counted_value : ChildWrite → WriteCtx → ℕ → ℕ → ℕ → List ℕ → Counted → Outcome
counted_value child c d t e bytes (counted.Elements k next) = elements_write child c (element_item c.book d t e) (stride_of c.book d t e) (count_of c.book t d) 0 0 k next bytes
counted_value child c d t e bytes (counted.Stop n b) = refused n b bytes

-- the answer is dimension d of array t at the cursor, whatever is written in its place; before its elements plan and bits are theirs
pub record DimensionIn (book : List ℕ) (width : ℕ) (tape : List ℕ) (d t e : ℕ) (at : Cursor) (r : Counted) (plan firsts : List ℕ) : Type 0 where
  pub is : (text : List ℕ) (child : ChildWrite) (bytes : List ℕ) → counted_value child (write_ctx book width tape text) d t e bytes r ≡ dimension_write child (write_ctx book width tape text) d t e at bytes
  pub given : (k : ℕ) (next : Cursor) → r ≡ counted.Elements k next → WriteElementPlan book width d t e plan
  pub first : (k : ℕ) (next : Cursor) → r ≡ counted.Elements k next → Firsts book e firsts

-- a key's value in the bytes of its struct: that of its field, 10 if the field passes their end; or the refusal
unfoldable pub keyed_value : ChildWrite → List ℕ → Keyed → Outcome
keyed_value child bytes (keyed.Field f next) =
    cond (leb (f.offset + f.size) (length bytes))
    (placed f.offset f.size bytes (child (whole f.resolved) next (cut f.offset f.size bytes)))
    (refused refusal.wrong_size 0 bytes)
keyed_value child bytes (keyed.Stop n b) = refused n b bytes

-- what is known of a field that a key found
pub record FieldTyped (book : List ℕ) (width : ℕ) (f : PlannedField) : Type 0 where
  pub typed : is_type book f.resolved ≡ true
  pub category-is : f.category ≡ category_of book width f.resolved

-- the answer is field block f, whatever is written in its place
pub record FieldIn (book : List ℕ) (width f : ℕ) (next : Cursor) (r : Keyed) : Type 0 where
  pub is : (child : ChildWrite) (bytes : List ℕ) → keyed_value child bytes r ≡ field_write child next bytes (resolve_field book width f)
  pub known : (x : PlannedField) (after : Cursor) → r ≡ keyed.Field x after → FieldTyped book width x

-- the answer is the key at the cursor, whatever is written in its place
pub record KeyIn (book : List ℕ) (width : ℕ) (tape : List ℕ) (t : ℕ) (at : Cursor) (r : Keyed) : Type 0 where
  pub is : (text : List ℕ) (child : ChildWrite) (bytes : List ℕ) → keyed_value child bytes r ≡ key_of child (write_ctx book width tape text) t at bytes
  pub known : (x : PlannedField) (after : Cursor) → r ≡ keyed.Field x after → FieldTyped book width x

-- what is known of the book and of a key's field before its value is written
pub record KnownKey (book : List ℕ) (width : ℕ) (a : Keyed) : Type 0 where
  pub valid : ValidBook book
  pub known : (x : PlannedField) (after : Cursor) → a ≡ keyed.Field x after → FieldTyped book width x
