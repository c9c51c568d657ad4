-- What a read emits, type by type (document 01: "The tape", the access files, deserializer.rs; document 02, change request 8).
-- Assumes nothing.
use Rattle.std.specs.Prelude.{cond, List, ℕ, zero, suc, ◌+◌, length, get_or, leb, eqb, Option, Some, None}
use Rattle.enc_number.specs.Answer.{refusal_of, values_of}
use Rattle.enc_number.specs.Refusals as refusal
use Rattle.type_book.specs.Book.{size_of, fields_of, count_of, type_name_of}
use Rattle.type_provider.specs.Find.{find}
use Rattle.type_category.specs.Category.{category_of}
use Rattle.resolvers.specs.Resolve.{resolve_alias, resolved_numbers}
use Rattle.resolve_field_types.specs.Fields.{resolve_field, fields_check, check_numbers, field_numbers}
use Rattle.resolvers.specs.declared.Resolved.{Resolved}
use Rattle.resolvers.specs.declared.Resolved.TheVariants as resolved
use Rattle.resolve_field_types.specs.declared.FieldAnswer.{FieldAnswer}
use Rattle.resolve_field_types.specs.declared.FieldAnswer.TheVariants as answer
use Rattle.resolve_field_types.specs.declared.FieldsCheck.{FieldsCheck}
use Rattle.resolve_field_types.specs.declared.FieldsCheck.TheVariants as check
use Rattle.tape_shape.specs.declared.Shape.{Shape}
use Rattle.tape_shape.specs.declared.Shape.TheVariants as shape
use Rattle.tape_shape.specs.Array.{stride_of, array_bytes}
use Rattle.tape_array_elements.specs.Element.{Content, whole, further, cut, element_item, shape_at, element_check}
use Rattle.de_leaf_output.specs.declared.Typed.{Typed}
use Rattle.de_leaves.specs.Leaf.{leaf_at}
use Rattle.de_leaf_output.specs.Leaves.{trace_of}
use Rattle.tape.specs.Record.{new_record, declaring}
use Rattle.de_output.specs.Trace.{Trace, rec, one, refuse, ◌then◌}

-- what is read and never written
pub record Ctx : Type 0 where
  pub book : List ℕ
  pub width : ℕ

-- the `Ctx` of a book and a pointer width
abbrev pub ctx : List ℕ → ℕ → Ctx
ctx b w = record { book = b; width = w }

-- a type: its block as it was named, the block that its aliases resolve to, and the category of that
abbrev pub typed_of : Ctx → ℕ → ℕ → Typed
typed_of c n t = record { named = n; resolved = t; category = category_of c.book c.width t }

-- what is read at one level less
abbrev pub Child : Type 0
Child = Content Typed → List ℕ → Trace

-- a value that is read as a whole
unfoldable pub leaf_of : Ctx → Typed → List ℕ → Trace
leaf_of c x mem = trace_of x.named (leaf_at c.book c.width x.resolved mem) mem

-- the refusal that an answer's numbers tell, with the block that 7 carries, else 0
abbrev pub refuse_by : List ℕ → Trace
refuse_by numbers = refuse (refusal_of numbers) (get_or (values_of numbers) 0 0)

-- what follows the test of all fields of a type: 7 with its block, or 8
unfoldable pub checked : FieldsCheck → Trace → Trace
checked check.Fine t = t
checked (check.NotFound b) t = refuse_by (check_numbers (check.NotFound b))
checked check.TooLong t = refuse_by (check_numbers check.TooLong)

-- ---- a struct, union or function block

-- a field's value in the bytes of its struct: 10 if it passes their end
unfoldable pub field_value : Child → Ctx → List ℕ → FieldAnswer → Trace
field_value child c mem (answer.Field f) =
    cond (leb (f.offset + f.size) (length mem)) (child (whole (typed_of c f.named f.resolved)) (cut f.offset f.size mem)) (refuse refusal.wrong_size 0)
field_value child c mem (answer.NotFound b) = refuse_by (field_numbers (answer.NotFound b))
field_value child c mem answer.TooLong = refuse_by (field_numbers answer.TooLong)

-- field block f: its key, then its value
unfoldable pub member_of : Child → Ctx → List ℕ → ℕ → Trace
member_of child c mem f = one (rec (new_record 4 0 f 0)) then field_value child c mem (resolve_field c.book c.width f)

-- the k fields from block f on, and the end record
unfoldable pub members_from : Child → Ctx → List ℕ → ℕ → ℕ → Trace
members_from child c mem f zero = one (rec (new_record 5 0 0 0))
members_from child c mem f (suc k) = member_of child c mem f then members_from child c mem (f + 1) k

-- the map record, which declares the type as it was named, the fields in order, the end record
unfoldable pub members_of : Child → Ctx → Typed → List ℕ → Trace
members_of child c x mem =
    one (rec (declaring x.named (new_record 3 0 (fields_of c.book x.resolved) 0))) then
    members_from child c mem (x.resolved + 1) (fields_of c.book x.resolved)

-- 10 unless the bytes are as many as the type says; all fields are resolved before the map record
unfoldable pub map_of : Child → Ctx → Typed → List ℕ → Trace
map_of child c x mem =
    cond (eqb (length mem) (size_of c.book x.resolved)) (checked (fields_check c.book c.width x.resolved) (members_of child c x mem)) (refuse refusal.wrong_size 0)

-- ---- an array

-- the k elements of `stride` bytes from `from` on, and the end record
unfoldable pub elements_from : Child → Content Typed → ℕ → List ℕ → ℕ → ℕ → Trace
elements_from child item stride mem from zero = one (rec (new_record 2 0 0 0))
elements_from child item stride mem from (suc k) = child item (cut from stride mem) then elements_from child item stride mem (from + stride) k

-- dimension d of array t with elements of type e: the array record with its count, which declares block n, its elements in order, the end record
unfoldable pub elements_of : Child → Ctx → ℕ → ℕ → ℕ → Typed → List ℕ → Trace
elements_of child c n d t e mem =
    one (rec (declaring n (new_record 1 0 (count_of c.book t d) 0))) then
    elements_from child (element_item c.book d t e) (stride_of c.book d t e.resolved) mem 0 (count_of c.book t d)

-- one dimension: in the last one the element's fields are resolved before the array record
unfoldable pub dimension_of : Child → Ctx → ℕ → ℕ → ℕ → Typed → List ℕ → Trace
dimension_of child c n d t e mem = checked (element_check c.book c.width d t e.resolved) (elements_of child c n d t e mem)

-- by what the aliases of the element's type, named at block n, come to: 10 unless the whole array's bytes are as many as there are; the first
-- dimension declares the array as it was named
unfoldable pub element_by : Child → Ctx → Typed → ℕ → List ℕ → Resolved → Trace
element_by child c x n mem (resolved.Base e) =
    cond (eqb (array_bytes c.book x.resolved e) (length mem)) (dimension_of child c x.named 0 x.resolved (typed_of c n e) mem) (refuse refusal.wrong_size 0)
element_by child c x n mem (resolved.NotFound b) = refuse_by (resolved_numbers (resolved.NotFound b))
element_by child c x n mem resolved.TooLong = refuse_by (resolved_numbers resolved.TooLong)

-- by what the look-up of the element's name found: nothing is 7 with the resolved array's block
unfoldable pub array_by : Child → Ctx → Typed → List ℕ → Option ℕ → Trace
array_by child c x mem (Some n) = element_by child c x n mem (resolve_alias c.book c.width n)
array_by child c x mem None = refuse_by (resolved_numbers (resolved.NotFound x.resolved))

-- 10 unless the bytes are as many as the type says; then the element's type is looked up
unfoldable pub array_of : Child → Ctx → Typed → List ℕ → Trace
array_of child c x mem =
    cond (eqb (length mem) (size_of c.book x.resolved))
    (array_by child c x mem (find c.book (type_name_of c.book x.resolved)))
    (refuse refusal.wrong_size 0)

-- ---- a value

-- a value of a type: by its fields, by its elements, or as a whole
unfoldable pub shape_walk : Child → Ctx → Typed → List ℕ → Shape → Trace
shape_walk child c x mem shape.Map = map_of child c x mem
shape_walk child c x mem shape.Array = array_of child c x mem
shape_walk child c x mem shape.Leaf = leaf_of c x mem

-- what some bytes hold: a value, read by its type's shape, or a further dimension of array t, which declares t itself
unfoldable pub item_walk : Child → Ctx → Content Typed → List ℕ → Trace
item_walk child c (whole x) mem = shape_walk child c x mem (shape_at c.book c.width x.resolved)
item_walk child c (further d t e) mem = dimension_of child c t d t e mem

-- `left` is the number of levels left: with none, 14
unfoldable pub read_walk : Ctx → ℕ → Child
read_walk c zero i mem = refuse refusal.too_deep 0
read_walk c (suc left) i mem = item_walk (read_walk c left) c i mem
