-- What a write gives back as it was read: the premises of the round trip, found from the book, the pointer width and the bytes alone. The
-- recursion is that of de's specs/Walk. Assumes nothing.
use Rattle.std.specs.Prelude.{Bool, true, false, ◌&&◌, List, ℕ, zero, suc, ◌+◌, ◌-◌, length, get_or, take, drop, replicate, eqb, leb, Option, Some, None}
use Rattle.enc_utf_8.specs.Utf8.{no_error, well_formed}
use Rattle.enc_utf_16.specs.Decode as utf16
use Rattle.type_book.specs.Book.{name_of, value_of, fields_of, count_of, same_name}
use Rattle.resolvers.specs.Resolve.{look_up, resolve_alias}
use Rattle.resolvers.specs.declared.Resolved.{Resolved}
use Rattle.resolvers.specs.declared.Resolved.TheVariants as resolved
use Rattle.resolve_field_types.specs.Fields.{resolve_field}
use Rattle.resolve_field_types.specs.declared.FieldAnswer.{FieldAnswer}
use Rattle.resolve_field_types.specs.declared.FieldAnswer.TheVariants as answer
use Rattle.tape_shape.specs.declared.Shape.{Shape}
use Rattle.tape_shape.specs.declared.Shape.TheVariants as shape
use Rattle.tape_shape.specs.Array.{stride_of}
use Rattle.ser_named_blocks.specs.Named.{field_named, entry_named}
use Rattle.de_leaves.specs.declared.leaf.LeafValue.{LeafValue}
use Rattle.de_leaves.specs.declared.leaf.LeafValue.TheVariants as leaf
use Rattle.de_leaves.specs.Leaf.{leaf_at}
use Rattle.enc_text_decoder.specs.declared.Decoder.{Decoder}
use Rattle.enc_text_decoder.specs.declared.Decoder.TheVariants as decoder
use Rattle.de_leaf_output.specs.Leaves.{ends_at}
use Rattle.tape_array_elements.specs.Element.{Content, whole, further, cut, element_item, shape_at}
use Rattle.de.specs.Walk.{Ctx}

-- ---- a leaf

-- after a text of n bytes there are zero bytes alone, and at least so many
unfoldable pub zeros_after : ℕ → ℕ → List ℕ → Bool
zeros_after n least mem = leb (n + least) (length mem) && same_name (drop n mem) (replicate (length mem - n) 0)

-- UTF-16 bytes are decoded without an error: every surrogate has its other half, and there is no odd byte
unfoldable pub is_whole : List ℕ → Bool
is_whole bytes = no_error (utf16.decode_items bytes)

-- the entry that a name finds has these bytes
unfoldable pub entry_kept : List ℕ → List ℕ → Option ℕ → Bool
entry_kept book mem (Some m) = same_name (value_of book m) mem
entry_kept book mem None = false

-- by its decoder, a text of n bytes is ended and has zeros alone after its end; a WSTRING's is whole, and that of a STRING in UTF-8 is well-formed
unfoldable pub text_kept : Decoder → ℕ → List ℕ → Bool
text_kept decoder.Windows1252 n mem = zeros_after n 1 mem
text_kept decoder.Utf16 n mem = zeros_after n 2 mem && is_whole (take n mem)
text_kept decoder.Utf8 n mem = zeros_after n 1 mem && well_formed (take n mem)

-- by a leaf's value: a bool's byte is 0 or 1; a text comes back by its decoder (above); the first entry of an entry's name has its value; there is no unit, which no type takes; an integer and a real always come back
unfoldable pub leaf_kept : List ℕ → ℕ → List ℕ → LeafValue → Bool
leaf_kept book t mem (leaf.Signed w b) = true
leaf_kept book t mem (leaf.Unsigned w n) = true
leaf_kept book t mem (leaf.Bool b) = leb (get_or mem 0 0) 1
leaf_kept book t mem (leaf.Single x) = true
leaf_kept book t mem (leaf.Double x) = true
leaf_kept book t mem (leaf.NanSingle n) = true
leaf_kept book t mem (leaf.NanDouble n) = true
leaf_kept book t mem (leaf.Text d e) = text_kept d (ends_at e) mem
leaf_kept book t mem (leaf.Entry n) = entry_kept book mem (entry_named book t (name_of book n))
leaf_kept book t mem leaf.Unit = false
leaf_kept book t mem (leaf.Refused k) = true

-- ---- the walk

-- what is asked at one level less
abbrev pub ChildTrip : Type 0
ChildTrip = Content ℕ → List ℕ → Bool

-- a name finds this block
unfoldable pub finds : ℕ → Option ℕ → Bool
finds f (Some m) = eqb m f
finds f None = false

-- a field's value
unfoldable pub field_kept : ChildTrip → List ℕ → FieldAnswer → Bool
field_kept child mem (answer.Field f) = child (whole f.resolved) (cut f.offset f.size mem)
field_kept child mem (answer.NotFound b) = true
field_kept child mem answer.TooLong = true

-- the k fields from block f on: each is the first of type t that has its name, and its value is kept
unfoldable pub fields_kept : ChildTrip → Ctx → ℕ → List ℕ → ℕ → ℕ → Bool
fields_kept child c t mem f zero = true
fields_kept child c t mem f (suc k) =
    finds f (field_named c.book t (name_of c.book f))
    && (field_kept child mem (resolve_field c.book c.width f) && fields_kept child c t mem (f + 1) k)

-- the k elements of `stride` bytes from `from` on
unfoldable pub elements_kept : ChildTrip → Content ℕ → ℕ → List ℕ → ℕ → ℕ → Bool
elements_kept child item stride mem from zero = true
elements_kept child item stride mem from (suc k) = child item (cut from stride mem) && elements_kept child item stride mem (from + stride) k

-- dimension d of array t
unfoldable pub dimension_kept : ChildTrip → Ctx → ℕ → ℕ → ℕ → List ℕ → Bool
dimension_kept child c d t e mem = elements_kept child (element_item c.book d t e) (stride_of c.book d t e) mem 0 (count_of c.book t d)

-- array t, by what its element's type comes to
unfoldable pub array_kept : ChildTrip → Ctx → ℕ → List ℕ → Resolved → Bool
array_kept child c t mem (resolved.Base e) = dimension_kept child c 0 t e mem
array_kept child c t mem (resolved.NotFound b) = true
array_kept child c t mem resolved.TooLong = true

-- a value by its fields, by its elements, or as a whole
unfoldable pub shape_kept : ChildTrip → Ctx → ℕ → List ℕ → Shape → Bool
shape_kept child c t mem shape.Map = fields_kept child c t mem (t + 1) (fields_of c.book t)
shape_kept child c t mem shape.Array = array_kept child c t mem (look_up c.book c.width t)
shape_kept child c t mem shape.Leaf = leaf_kept c.book t mem (leaf_at c.book c.width t mem)

-- an item
unfoldable pub item_kept : ChildTrip → Ctx → ChildTrip
item_kept child c (whole t) mem = shape_kept child c t mem (shape_at c.book c.width t)
item_kept child c (further d t e) mem = dimension_kept child c d t e mem

-- where `left` is the number of levels left
unfoldable pub walk_kept : Ctx → ℕ → ChildTrip
walk_kept c zero i mem = true
walk_kept c (suc left) i mem = item_kept (walk_kept c left) c i mem

-- by what the root's aliases come to
unfoldable pub root_kept : Ctx → List ℕ → Resolved → Bool
root_kept c mem (resolved.Base t) = walk_kept c 64 (whole t) mem
root_kept c mem (resolved.NotFound b) = true
root_kept c mem resolved.TooLong = true

-- the bytes of root block n come back from a write of what is read of them
unfoldable pub is_kept : Ctx → ℕ → List ℕ → Bool
is_kept c n mem = root_kept c mem (resolve_alias c.book c.width n)
