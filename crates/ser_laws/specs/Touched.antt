-- Where a write goes: for each leaf record of the tape its place in the whole output, found from the book, the pointer width, the length of the
-- output and the records alone, whatever the image's bytes (change request 12: "a leaf being where such a record goes"). The recursion is that
-- of ser's specs/Write. Assumes nothing.
use Rattle.std.specs.Prelude.{◌≡◌, Bool, false, cond, ◌&&◌, ◌||◌, List, [], ◌∷◌, ◌++◌, ℕ, zero, suc, ◌+◌, ◌≤◌, length, get_or, leb, ltb, eqb, Option, Some, None}
use Rattle.resolvers.specs.Resolve.{look_up, resolve_alias}
use Rattle.resolvers.specs.declared.Resolved.{Resolved}
use Rattle.resolvers.specs.declared.Resolved.TheVariants as resolved
use Rattle.resolve_field_types.specs.Fields.{resolve_field}
use Rattle.resolve_field_types.specs.declared.FieldAnswer.{FieldAnswer}
use Rattle.resolve_field_types.specs.declared.FieldAnswer.TheVariants as answer
use Rattle.tape_shape.specs.Array.{stride_of}
use Rattle.ser_named_blocks.specs.Named.{field_named}
use Rattle.tape.specs.Record.{step_at}
use Rattle.tape.specs.Text.{record_text}
use Rattle.tape.specs.declared.record.Record.{Record}
use Rattle.tape.specs.declared.cursor.Cursor.{Cursor}
use Rattle.tape_array_elements.specs.Element.{Content, whole, further, element_item}
use Rattle.ser.specs.Write.{WriteCtx}

-- a range of bytes: its first, and how many
pub record Range : Type 0 where
  pub from : ℕ
  pub size : ℕ

-- byte j is in a range
unfoldable pub in_range : ℕ → Range → Bool
in_range j r = leb r.from j && ltb j (r.from + r.size)

-- byte j is in one of the ranges
unfoldable pub is_touched : ℕ → List Range → Bool
is_touched j [] = false
is_touched j (r ∷ rs) = in_range j r || is_touched j rs

-- every range lies from byte lo on and before byte hi
pub data Within (lo hi : ℕ) : List Range → Type 0 where
  none : Within lo hi []
  more : {r : Range} {rs : List Range} → lo ≤ r.from → r.from + r.size ≤ hi → Within lo hi rs → Within lo hi (r ∷ rs)

-- the new bytes are as many as the old ones, and the same outside some ranges, which lie inside them
pub record OnlyIn (rs : List Range) (old new : List ℕ) : Type 0 where
  pub same_length : length new ≡ length old
  pub outside : (j : ℕ) → is_touched j rs ≡ false → get_or new j 0 ≡ get_or old j 0
  pub inside : Within 0 (length old) rs

-- ---- along the tape

-- the cursor after some records with the ranges of their leaves; or nothing, where no write is accepted
pub data Touched : Type 0 where
  upto : Cursor → List Range → Touched
  nowhere : Touched

-- some ranges, and those that follow
unfoldable pub ranges_then : List Range → Touched → Touched
ranges_then rs (upto at ss) = upto at (rs ++ ss)
ranges_then rs nowhere = nowhere

-- the first, and what follows from the cursor after it
infixr 5 ◌and◌
unfoldable pub ◌and◌ : Touched → (Cursor → Touched) → Touched
upto at rs and f = ranges_then rs (f at)
nowhere and f = nowhere

-- what an item touches at one level less: from a cursor on, at a place of the output, in so many bytes
abbrev pub ChildTouched : Type 0
ChildTouched = Content ℕ → Cursor → ℕ → ℕ → Touched

-- what follows by a record, where there is one
unfoldable pub record_by : (Record → Cursor → Touched) → Option (Record × Cursor) → Touched
record_by f (Some (r, next)) = f r next
record_by f None = nowhere

-- the end record
unfoldable pub end_at : WriteCtx → Cursor → Touched
end_at c at = record_by (λ r next. upto next []) (step_at c.tape at.at)

-- ---- a map: each key's value is at its field's place

-- the ranges of a key's value, by what its field's look-up came to: at the field's place, or no write is accepted
unfoldable pub field_touched : ChildTouched → Cursor → ℕ → FieldAnswer → Touched
field_touched child at from (answer.Field f) = child (whole f.resolved) at (from + f.offset) f.size
field_touched child at from (answer.NotFound b) = nowhere
field_touched child at from answer.TooLong = nowhere

-- the same by the field of the key's name, where there is one
unfoldable pub found_touched : ChildTouched → WriteCtx → Cursor → ℕ → Option ℕ → Touched
found_touched child c at from (Some f) = field_touched child at from (resolve_field c.book c.width f)
found_touched child c at from None = nowhere

-- one key of type t and its value
unfoldable pub key_touched : ChildTouched → WriteCtx → ℕ → Cursor → ℕ → Touched
key_touched child c t at from =
    record_by (λ r next. found_touched child c next from (field_named c.book t (record_text c.book c.text r))) (step_at c.tape at.at)

-- k keys with their values, and the end record
unfoldable pub keys_touched : ChildTouched → WriteCtx → ℕ → ℕ → Cursor → ℕ → Touched
keys_touched child c t zero at from = end_at c at
keys_touched child c t (suc k) at from = key_touched child c t at from and (λ next. keys_touched child c t k next from)

-- ---- an array: its elements follow each other

-- k elements of `stride` bytes each, and the end record
unfoldable pub elements_touched : ChildTouched → WriteCtx → Content ℕ → ℕ → ℕ → Cursor → ℕ → Touched
elements_touched child c item stride zero at from = end_at c at
elements_touched child c item stride (suc k) at from = child item at from stride and (λ next. elements_touched child c item stride k next (from + stride))

-- dimension d of array t, with elements of type e: as many as the record says
unfoldable pub dimension_touched : ChildTouched → WriteCtx → ℕ → ℕ → ℕ → Cursor → ℕ → Touched
dimension_touched child c d t e at from =
    record_by (λ r next. elements_touched child c (element_item c.book d t e) (stride_of c.book d t e) r.a next from) (step_at c.tape at.at)

-- the first dimension of array t, by what its element's type comes to
unfoldable pub array_touched : ChildTouched → WriteCtx → ℕ → Cursor → ℕ → Resolved → Touched
array_touched child c t at from (resolved.Base e) = dimension_touched child c 0 t e at from
array_touched child c t at from (resolved.NotFound b) = nowhere
array_touched child c t at from resolved.TooLong = nowhere

-- ---- a value

-- a value of type t, by its record: an array (1), a map (3), or a leaf, which takes all its bytes
unfoldable pub value_touched : ChildTouched → WriteCtx → ℕ → Cursor → ℕ → ℕ → Record → Cursor → Touched
value_touched child c t at from size r next =
    cond (eqb r.kind 1) (array_touched child c t at from (look_up c.book c.width t))
    (cond (eqb r.kind 3) (keys_touched child c t r.a next from) (upto next (record { from = from; size = size } ∷ [])))

-- the ranges of what some bytes hold: of a value by its record, of a further dimension by its elements
unfoldable pub item_touched : ChildTouched → WriteCtx → ChildTouched
item_touched child c (whole t) at from size = record_by (value_touched child c t at from size) (step_at c.tape at.at)
item_touched child c (further d t e) at from size = dimension_touched child c d t e at from

-- an item, where `left` is the number of levels left
unfoldable pub walk_touched : WriteCtx → ℕ → ChildTouched
walk_touched c zero i at from size = nowhere
walk_touched c (suc left) i at from size = item_touched (walk_touched c left) c i at from size

-- ---- a whole write

-- the ranges
abbrev pub ranges_of : Touched → List Range
ranges_of (upto at rs) = rs
ranges_of nowhere = []

-- by what the root's aliases come to
unfoldable pub root_touched : WriteCtx → ℕ → Resolved → Touched
root_touched c size (resolved.Base t) = walk_touched c 64 (whole t) (record { at = 0 }) 0 size
root_touched c size (resolved.NotFound b) = nowhere
root_touched c size resolved.TooLong = nowhere

-- the leaves that a tape names: their ranges in an output of so many bytes of root block n
unfoldable pub leaves_of : WriteCtx → ℕ → ℕ → List Range
leaves_of c n size = ranges_of (root_touched c size (resolve_alias c.book c.width n))
