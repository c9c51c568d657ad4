-- The rows: what the definitions that the calls' contracts cite give, and what document 01 says. Assumes nothing.
use Rattle.std.specs.Prelude.{List, [], ◌∷◌, ◌++◌, ℕ, zero, suc, ◌+◌, length, take, replicate, ℤ, pos, negsuc}
use Rattle.enc_number.specs.Answer.{refusal_of}
use Rattle.enc_integer.specs.Integer.{integer_read_numbers, read_integer, twos_bits}
use Rattle.type_id.specs.declared.AdsTypeId.TheVariants.{Int8, Int16}
use Rattle.type_book_check.specs.Check.{check_book, book_numbers, check_root, at_root}
use Rattle.type_category.specs.Category.{category_of}
use Rattle.type_category.specs.Number.{category_numbers}
use Rattle.type_category.specs.declared.type_category.AdsTypeCategory.TheVariants as category
use Rattle.resolvers.specs.Calls.{resolution_numbers, root_alias}
use Rattle.resolve_read_modify_write.specs.Calls.{rmw_numbers, rmw_call}
use Rattle.resolve_missing_types.specs.Calls.{missing_numbers, missing_fits, missing_call, missing_list}
use Rattle.tape.specs.Record.{record_bytes}
use Rattle.de_output.specs.Trace.{Trace, text_record, text_bytes, events_of, step_of}
use Rattle.de_output.specs.Answer.{read_numbers, read_answer_of, buffer_after}
use Rattle.de.specs.Read.{read_trace}
use Rattle.ser.specs.Write.{Outcome}
use Rattle.ser.specs.Call.{write_call, write_numbers, output_after}
use Rattle.ser.specs.Call as writer
use Rattle.cases.specs.Blocks.{type_block, field_block}

-- a row of the table: what the definitions give, and what document 01 says, each as numbers
pub record Row : Type 0 where
  pub got : List ℕ
  pub said : List ℕ

-- the row of what is given, before `is`, and what is said, after it
infix 4 ◌is◌
abbrev pub ◌is◌ : List ℕ → List ℕ → Row
g is s = record { got = g; said = s }

-- ---- books and names

-- U+0416 in UTF-8
abbrev pub zhe : List ℕ
zhe = 0xd0 ∷ 0x96 ∷ []

-- the name INT
abbrev pub int : List ℕ
int = 0x49 ∷ 0x4e ∷ 0x54 ∷ []

-- the name S
abbrev pub s : List ℕ
s = 0x53 ∷ []

-- the name A
abbrev pub a : List ℕ
a = 0x41 ∷ []

-- the name B
abbrev pub b : List ℕ
b = 0x42 ∷ []

-- id 65, two fields of INT at two offsets, no type name, no methods
abbrev pub two_fields : ℕ → ℕ → List ℕ
two_fields first second = type_block 65 12 2 s [] ++ field_block first 2 a int ++ field_block second 2 b int

-- name n of a chain, from 0 on: the one byte 41h + n
abbrev pub link : ℕ → List ℕ
link n = (0x41 + n) ∷ []

-- k aliases, each of the next name, from the n-th on
unfoldable pub aliases : ℕ → ℕ → List ℕ
aliases n zero = []
aliases n (suc k) = type_block 65 0 0 (link n) (link (suc n)) ++ aliases (suc n) k

-- a chain of k aliases that ends at a type of its own
abbrev pub chain : ℕ → List ℕ
chain k = aliases 0 k ++ type_block 2 2 0 (link k) []

-- the name FB
abbrev pub fb : List ℕ
fb = 0x46 ∷ 0x42 ∷ []

-- the name X, of which the books made by `struct_of` and `two_aliases` have no type
abbrev pub x : List ℕ
x = 0x58 ∷ []

-- the book of a struct S with two fields, whose types have the names given, and of FB, a function block by its size of 12
abbrev pub struct_of : List ℕ → List ℕ → List ℕ
struct_of first second = type_block 65 16 2 s [] ++ field_block 0 4 a first ++ field_block 4 12 b second ++ type_block 65 12 0 fb []

-- a struct of two aliases, A and B, of one missing name
abbrev pub two_aliases : List ℕ
two_aliases = type_block 65 16 2 s [] ++ field_block 0 4 a a ++ field_block 4 12 b b ++ type_block 65 0 0 a x ++ type_block 65 0 0 b x

-- a book of one type T with an id and a size: 30 is a STRING, 31 a WSTRING
abbrev pub one_type : ℕ → ℕ → List ℕ
one_type id size = type_block id size 0 (0x54 ∷ []) []

-- ---- what the calls give, for root block 0 of a book that fills its buffer, and pointers of 8 bytes

-- a signed integer that was read: 0, kind 7, its width, and the 64 bits that hold it
abbrev pub integer_is : ℕ → ℤ → List ℕ
integer_is width z = 0 ∷ 7 ∷ width ∷ twos_bits 8 z ∷ []

-- the number of the book's check, and the number of the root's category
abbrev pub category_row : List ℕ → List ℕ
category_row book = book_numbers (check_book book (length book)) ++ category_numbers (category_of book 8 0)

-- what `resolve_alias` answers
abbrev pub alias_row : List ℕ → List ℕ
alias_row book = resolution_numbers (root_alias book (length book) 8 0)

-- an index that is just long enough, of zeros
abbrev pub index : List ℕ
index = replicate 16384 0

-- a scratch that is just long enough
abbrev pub scratch : List ℕ
scratch = replicate 8192 0

-- a list that is just long enough
abbrev pub list : List ℕ
list = replicate 4096 0

-- what `requires_read_modify_write` answers
abbrev pub rmw_row : List ℕ → List ℕ
rmw_row book = rmw_numbers (rmw_call book (length book) index 8 0 scratch)

-- the list after `missing_types`
abbrev pub list_after : List ℕ → List ℕ
list_after book =
    at_root (λ n. list) (λ t. missing_list (missing_fits index scratch list) (take (length book) book) 8 t list) (check_root book (length book) 0)

-- what `missing_types` answers, and the list after it
abbrev pub missing_row : List ℕ → List ℕ
missing_row book = missing_numbers (missing_call book (length book) index 8 0 scratch list) ++ list_after book

-- what a read answers by its trace, on a tape of one record and a text buffer of `room` bytes, and that buffer after it
abbrev pub read_by : Trace → ℕ → List ℕ
read_by t room = read_numbers (read_answer_of (step_of t 24 room 0 0)) ++ buffer_after (step_of t 24 room 0 0) (text_bytes (events_of t)) (replicate room 0)

-- the same of a memory
abbrev pub read_row : List ℕ → List ℕ → ℕ → List ℕ
read_row book mem room = read_by (read_trace book (length book) 8 0 mem) room

-- the tape of the text U+0416 alone
abbrev pub zhe_tape : List ℕ
zhe_tape = record_bytes (text_record 0 0 0 2)

-- `n` bytes of an image
abbrev pub image : ℕ → List ℕ
image n = replicate n 0xee

-- the number of what a write came to, 0 for a success, and the output after it
abbrev pub write_by : ℕ → Outcome → List ℕ
write_by n o = refusal_of (write_numbers (writer.write_answer_of o)) ∷ output_after (image n) (replicate n 0) o

-- a write of U+0416 over an image of `n` bytes, of a STRING of that size
abbrev pub write_row : ℕ → List ℕ
write_row n = write_by n (write_call (one_type 30 n) (length (one_type 30 n)) 8 0 (image n) n zhe_tape zhe)

-- ---- the rows

-- the rows on integers, texts and categories (layers 1 and 2, the reader and the writer)
abbrev pub values : List Row
values =
    -- integer/mod.rs: "Int8 80h is −128"
    (integer_read_numbers (read_integer Int8 (0x80 ∷ [])) is integer_is 1 (negsuc 127))
    -- "Int16 00h 80h is −32,768"
    ∷ (integer_read_numbers (read_integer Int16 (0x00 ∷ 0x80 ∷ [])) is integer_is 2 (negsuc 32767))
    -- "FFh 7Fh is 32,767"
    ∷ (integer_read_numbers (read_integer Int16 (0xff ∷ 0x7f ∷ [])) is integer_is 2 (pos 32767))
    -- deserializer.rs: a WSTRING "41h 00h 3Dh D8h 00h 00h gives 41h EFh BFh BDh": one record, four bytes of text
    ∷ (read_row (one_type 31 6) (0x41 ∷ 0x00 ∷ 0x3d ∷ 0xd8 ∷ 0x00 ∷ 0x00 ∷ []) 4 is (0 ∷ 1 ∷ 4 ∷ 0x41 ∷ 0xef ∷ 0xbf ∷ 0xbd ∷ []))
    -- "41h alone gives EFh BFh BDh"
    ∷ (read_row (one_type 31 1) (0x41 ∷ []) 3 is (0 ∷ 1 ∷ 3 ∷ 0xef ∷ 0xbf ∷ 0xbd ∷ []))
    -- serializer.rs: "U+0416 fits 8 bytes", as `&#1046;` and a zero
    ∷ (write_row 8 is (0 ∷ 0x26 ∷ 0x23 ∷ 0x31 ∷ 0x30 ∷ 0x34 ∷ 0x36 ∷ 0x3b ∷ 0x00 ∷ []))
    -- "7 is 10", and the output is the image
    ∷ (write_row 7 is (10 ∷ image 7))
    -- type_category.rs: "INT with type name INT is an alias"
    ∷ (category_row (type_block 2 2 0 int int) is (0 ∷ category_numbers category.Alias))
    -- "Id 65, two fields, both at offset 0, no type name, no methods: union"
    ∷ (category_row (two_fields 0 0) is (0 ∷ category_numbers category.Union))
    -- "First field at 4, second at 8: function block"
    ∷ (category_row (two_fields 4 8) is (0 ∷ category_numbers category.FunctionBlock))
    ∷ []

-- the rows on alias chains and on the two walks (resolvers.rs)
abbrev pub chains : List Row
chains =
    -- "INT with type name INT is an alias to itself: 8"
    (alias_row (type_block 2 2 0 int int) is (8 ∷ []))
    -- "31 alias hops resolve", here to the block after them
    ∷ (alias_row (chain 31) is (0 ∷ 31 ∷ []))
    -- "32 hops answer 8"
    ∷ (alias_row (chain 32) is (8 ∷ []))
    -- "but 7 if the 32nd target is missing", with the last alias
    ∷ (alias_row (aliases 0 32) is (7 ∷ 31 ∷ []))
    -- "Fields [missing, block]: yes"
    ∷ (rmw_row (struct_of x fb) is (0 ∷ 1 ∷ []))
    -- "[block, missing]: 7", with the second field
    ∷ (rmw_row (struct_of fb x) is (7 ∷ 2 ∷ []))
    -- "Two aliases to one missing name list it twice": two blocks, the walk whole, three names met; the list has both, and is else as it was
    ∷ (missing_row two_aliases is (0 ∷ 2 ∷ 1 ∷ 3 ∷ 4 ∷ 3 ∷ replicate 4094 0))
    ∷ []

-- all rows, for the cases that document 01 marks (P)
abbrev pub rows : List Row
rows = values ++ chains
