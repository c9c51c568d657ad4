-- What the bytes of a type stand for that is neither struct nor array (document 01: deserializer.rs, refusals 10 to 13). Assumes nothing.
use Rattle.std.specs.Prelude.{true, false, cond, not, List, [], ◌∷◌, ℕ, zero, suc, ◌+◌, length, get_or, eqb, Option, Some, None}
use Rattle.enc_number.specs.Answer.{refusal_of, truth_number}
use Rattle.enc_number.specs.Refusals as refusal
use Rattle.type_id.specs.TypeId.{id_of}
use Rattle.enc_integer.specs.Integer.{integer_numbers, integer_read_numbers, read_integer}
use Rattle.enc_float.specs.Float.{real_numbers, real_read_numbers, read_real}
use Rattle.type_id.specs.declared.AdsTypeId.TheVariants.{UInt16, UInt32, UInt64}
use Rattle.enc_integer.specs.declared.Integer.{Integer}
use Rattle.enc_integer.specs.declared.Integer.TheVariants as integer
use Rattle.enc_integer.specs.declared.IntegerRead.{IntegerRead}
use Rattle.enc_integer.specs.declared.IntegerRead.TheVariants as read
use Rattle.enc_float.specs.declared.Real.{Real}
use Rattle.enc_float.specs.declared.Real.TheVariants as real
use Rattle.enc_float.specs.declared.RealRead.{RealRead}
use Rattle.enc_float.specs.declared.RealRead.TheVariants as real_read
use Rattle.enc_utf_8.specs.declared.TextEnd.{TextEnd}
use Rattle.enc_utf_8.specs.declared.TextEnd.TheVariants.{Terminated, Unterminated}
use Rattle.enc_text_decoder.specs.Text.{end_by}
use Rattle.enc_text_decoder.specs.declared.Decoder.{Decoder}
use Rattle.enc_text_decoder.specs.declared.Decoder.TheVariants as decoder
use Rattle.type_book.specs.Book.{flag_of, size_of, type_id_of, fields_of, entries_of, value_of, same_name}
use Rattle.type_category.specs.Category.{category_of}
use Rattle.time_types.specs.Counts.{count_width}
use Rattle.type_category.specs.declared.type_category.AdsTypeCategory.{AdsTypeCategory}
use Rattle.type_category.specs.declared.type_category.AdsTypeCategory.TheVariants as category
use Rattle.de_leaves.specs.declared.leaf.LeafValue.{LeafValue}
use Rattle.de_leaves.specs.declared.leaf.LeafValue.TheVariants as leaf
use Rattle.de_leaves.specs.declared.leaf.LeafKind.{LeafKind}
use Rattle.de_leaves.specs.declared.leaf.LeafKind.TheVariants as kind

-- the number of a decoder: the type id of the STRING (30) or WSTRING (31) that it is for, and for a STRING in UTF-8 its mark (32) added to it
abbrev pub decoder_number : Decoder → ℕ
decoder_number decoder.Windows1252 = 30
decoder_number decoder.Utf16 = 31
decoder_number decoder.Utf8 = 62

-- the numbers of a text's end: whether a terminator was found, and how many bytes there are before the end
abbrev pub end_numbers : TextEnd → List ℕ
end_numbers (Terminated n) = truth_number true ∷ n ∷ []
end_numbers (Unterminated n) = truth_number false ∷ n ∷ []

-- document 01's number and values of a leaf's answer: 0, then the tape's kind and what the value holds; of a text its decoder and its end; or
-- the refusal
unfoldable pub leaf_numbers : LeafValue → List ℕ
leaf_numbers (leaf.Signed w b) = 0 ∷ integer_numbers (integer.Signed w b)
leaf_numbers (leaf.Unsigned w n) = 0 ∷ integer_numbers (integer.Unsigned w n)
leaf_numbers (leaf.Bool b) = 0 ∷ 6 ∷ truth_number b ∷ []
leaf_numbers (leaf.Single x) = 0 ∷ real_numbers (real.Single x)
leaf_numbers (leaf.Double x) = 0 ∷ real_numbers (real.Double x)
leaf_numbers (leaf.NanSingle n) = 0 ∷ real_numbers (real.NanSingle n)
leaf_numbers (leaf.NanDouble n) = 0 ∷ real_numbers (real.NanDouble n)
leaf_numbers (leaf.Text d e) = 0 ∷ 11 ∷ decoder_number d ∷ end_numbers e
leaf_numbers (leaf.Entry n) = 0 ∷ 12 ∷ n ∷ []
leaf_numbers leaf.Unit = 0 ∷ 13 ∷ []
leaf_numbers (leaf.Refused n) = n ∷ []

-- how the categories are read; a struct, union, function block or array is no leaf, an alias was resolved, programs and functions never arise
abbrev pub kind_of_leaf : AdsTypeCategory → LeafKind
kind_of_leaf category.None = kind.Unit
kind_of_leaf category.Primitive = kind.Number
kind_of_leaf category.Alias = kind.None
kind_of_leaf category.Enum = kind.Enum
kind_of_leaf category.Array = kind.None
kind_of_leaf category.Struct = kind.None
kind_of_leaf category.FunctionBlock = kind.None
kind_of_leaf category.Program = kind.None
kind_of_leaf category.Function = kind.None
kind_of_leaf category.SubRange = kind.Number
kind_of_leaf category.String = kind.Text
kind_of_leaf category.Bitset = kind.Number
kind_of_leaf category.Pointer = kind.Pointer
kind_of_leaf category.Union = kind.None
kind_of_leaf category.Reference = kind.Pointer
kind_of_leaf category.Interface = kind.Pointer

-- a bool is one byte, and anything but 0 is true
unfoldable pub bool_leaf : List ℕ → LeafValue
bool_leaf mem = cond (eqb (length mem) 1) (leaf.Bool (not (eqb (get_or mem 0 0) 0))) (leaf.Refused refusal.wrong_size)

-- a real as the value of a leaf: a NaN keeps its bit pattern
abbrev pub real_leaf : Real → LeafValue
real_leaf (real.Single x) = leaf.Single x
real_leaf (real.Double x) = leaf.Double x
real_leaf (real.NanSingle n) = leaf.NanSingle n
real_leaf (real.NanDouble n) = leaf.NanDouble n

-- an integer as the value of a leaf, with its width
abbrev pub value_leaf : Integer → LeafValue
value_leaf (integer.Signed w b) = leaf.Signed w b
value_leaf (integer.Unsigned w n) = leaf.Unsigned w n

-- the integer that was read, or the integer reader's refusal
unfoldable pub integer_leaf : IntegerRead → LeafValue
integer_leaf (read.Value v) = value_leaf v
integer_leaf read.Size = leaf.Refused (refusal_of (integer_read_numbers read.Size))
integer_leaf read.Unsupported = leaf.Refused (refusal_of (integer_read_numbers read.Unsupported))

-- the real that was read, or the real reader's refusal of its size; the other answer for an id that is no real's
unfoldable pub real_or : RealRead → LeafValue → LeafValue
real_or (real_read.Value v) other = real_leaf v
real_or real_read.Size other = leaf.Refused (refusal_of (real_read_numbers real_read.Size))
real_or real_read.Unsupported other = other

-- by the type's id alone: Bit (33), a real, an integer, else 11
unfoldable pub number_leaf : List ℕ → ℕ → List ℕ → LeafValue
number_leaf book t mem =
    cond (eqb (type_id_of book t) 33) (bool_leaf mem)
    (real_or (read_real (id_of (type_id_of book t)) mem) (integer_leaf (read_integer (id_of (type_id_of book t)) mem)))

-- an unsigned number of the pointer width, which is 2, 4 or 8, else 13
unfoldable pub pointer_leaf : ℕ → List ℕ → LeafValue
pointer_leaf width mem =
    cond (eqb width 2) (integer_leaf (read_integer UInt16 mem))
    (cond (eqb width 4) (integer_leaf (read_integer UInt32 mem))
    (cond (eqb width 8) (integer_leaf (read_integer UInt64 mem)) (leaf.Refused refusal.wrong_width)))

-- id 31 is a WSTRING, in UTF-16; else it is a STRING, in UTF-8 where the type's own block is marked so, else in Windows-1252
unfoldable pub decoder_of : List ℕ → ℕ → Decoder
decoder_of book t = cond (eqb (type_id_of book t) 31) decoder.Utf16 (cond (flag_of book t 5) decoder.Utf8 decoder.Windows1252)

-- 10 unless the bytes are as many as the type says; then the text's decoder and its end
unfoldable pub text_leaf : List ℕ → ℕ → List ℕ → LeafValue
text_leaf book t mem = cond (eqb (length mem) (size_of book t)) (leaf.Text (decoder_of book t) (end_by (decoder_of book t) mem)) (leaf.Refused refusal.wrong_size)

-- the first of the k entries from block n on whose value is these bytes
unfoldable pub entry_from : List ℕ → List ℕ → ℕ → ℕ → Option ℕ
entry_from book mem n zero = None
entry_from book mem n (suc k) = cond (same_name (value_of book n) mem) (Some n) (entry_from book mem (n + 1) k)

-- bytes that no entry has: the integer reader's refusal, else 12
unfoldable pub unlisted : IntegerRead → LeafValue
unlisted (read.Value v) = leaf.Refused refusal.no_entry
unlisted read.Size = leaf.Refused (refusal_of (integer_read_numbers read.Size))
unlisted read.Unsupported = leaf.Refused (refusal_of (integer_read_numbers read.Unsupported))

-- the entry that was found, else the other answer
abbrev pub entry_or : Option ℕ → LeafValue → LeafValue
entry_or (Some n) other = leaf.Entry n
entry_or None other = other

-- 10 unless the bytes are as many as the type says; then the first equal entry
unfoldable pub enum_leaf : List ℕ → ℕ → List ℕ → LeafValue
enum_leaf book t mem =
    cond (eqb (length mem) (size_of book t))
    (entry_or (entry_from book mem (t + 1 + fields_of book t) (entries_of book t)) (unlisted (read_integer (id_of (type_id_of book t)) mem)))
    (leaf.Refused refusal.wrong_size)

-- the value of resolved type t in some bytes, by how it is read; what is no leaf is 11
unfoldable pub kind_leaf : List ℕ → ℕ → ℕ → List ℕ → LeafKind → LeafValue
kind_leaf book width t mem kind.Number = number_leaf book t mem
kind_leaf book width t mem kind.Text = text_leaf book t mem
kind_leaf book width t mem kind.Enum = enum_leaf book t mem
kind_leaf book width t mem kind.Pointer = pointer_leaf width mem
kind_leaf book width t mem kind.Unit = leaf.Unit
kind_leaf book width t mem kind.None = leaf.Refused refusal.unreadable

-- the value of resolved type t, of a category, in some bytes: a count of time is an unsigned number of its width, whatever the type's id and size
unfoldable pub leaf_by : List ℕ → ℕ → ℕ → AdsTypeCategory → List ℕ → LeafValue
leaf_by book width t c mem = cond (eqb (count_width book t c) 0) (kind_leaf book width t mem (kind_of_leaf c)) (pointer_leaf (count_width book t c) mem)

-- the value of resolved type t in some bytes
unfoldable pub leaf_at : List ℕ → ℕ → ℕ → List ℕ → LeafValue
leaf_at book width t mem = leaf_by book width t (category_of book width t) mem
