-- More rows: marked STRINGs (document 02, change request 4), and cases of document 01 with every byte of the record that is read, and with the numbers of
-- integers and categories written out. Assumes nothing.
use Rattle.std.specs.Prelude.{List, [], ◌∷◌, ◌++◌, ℕ, length, replicate}
use Rattle.enc_number.specs.Le.{le_bytes}
use Rattle.enc_integer.specs.Integer.{integer_read_numbers, read_integer}
use Rattle.type_id.specs.declared.AdsTypeId.TheVariants.{Int8, Int16}
use Rattle.de_output.specs.Trace.{Trace, tape_bytes, events_of, step_of}
use Rattle.de_output.specs.Answer.{buffer_after}
use Rattle.de.specs.Read.{read_trace}
use Rattle.ser.specs.Call.{write_call}
use Rattle.cases.specs.Blocks.{filled_up, summed, type_block}
use Rattle.cases.specs.Rows.{Row, ◌is◌, zhe, int, two_fields, one_type, category_row, read_by, zhe_tape, image, write_by}

-- a STRING of a size and a name, marked as UTF-8 by bit 5 of byte 1
unfoldable pub marked_string : ℕ → List ℕ → List ℕ
marked_string size name =
    summed (1 ∷ 32 ∷ 0 ∷ 0 ∷ (le_bytes 4 30 ++ le_bytes 4 size ++ replicate 40 0 ++ (length name ∷ 0 ∷ (filled_up 200 name ++ replicate 254 0))))

-- a book of one marked STRING, T, of a size
abbrev pub one_marked : ℕ → List ℕ
one_marked size = marked_string size (0x54 ∷ [])

-- what a read answers by its trace, on a tape of one record and a text buffer of `room` bytes, and both buffers after it, the text first
abbrev pub read_both : Trace → ℕ → List ℕ
read_both t room = read_by t room ++ buffer_after (step_of t 24 room 0 0) (tape_bytes 0 (events_of t)) (replicate 24 0)

-- the same of a memory
abbrev pub record_row : List ℕ → List ℕ → ℕ → List ℕ
record_row book mem room = read_both (read_trace book (length book) 8 0 mem) room

-- a write of U+0416 over an image of `n` bytes, by a book of one type
abbrev pub zhe_row : List ℕ → ℕ → List ℕ
zhe_row book n = write_by n (write_call book (length book) 8 0 (image n) n zhe_tape zhe)

-- the record of a text of n bytes from the start of the text buffer on, of type block 0, byte by byte: byte 1 is `ended`, A is 0, B is n
abbrev pub text_is : ℕ → ℕ → List ℕ
text_is ended n = 11 ∷ ended ∷ 0 ∷ 0 ∷ 0 ∷ 0 ∷ 0 ∷ 0 ∷ 0 ∷ 0 ∷ 0 ∷ 0 ∷ 0 ∷ 0 ∷ 0 ∷ 0 ∷ n ∷ 0 ∷ 0 ∷ 0 ∷ 0 ∷ 0 ∷ 0 ∷ 0 ∷ []

-- marked STRINGs
abbrev pub marked : List Row
marked =
    -- a character that the zero cuts off is replaced
    (record_row (one_marked 4) (0x41 ∷ 0xe2 ∷ 0x82 ∷ 0x00 ∷ []) 4 is (0 ∷ 1 ∷ 4 ∷ 0x41 ∷ 0xef ∷ 0xbf ∷ 0xbd ∷ text_is 1 4))
    -- a byte order mark is kept
    ∷ (record_row (one_marked 4) (0xef ∷ 0xbb ∷ 0xbf ∷ 0x41 ∷ []) 4 is (0 ∷ 1 ∷ 4 ∷ 0xef ∷ 0xbb ∷ 0xbf ∷ 0x41 ∷ text_is 0 4))
    -- U+0416 in 3 bytes, as its own two and a zero
    ∷ (zhe_row (one_marked 3) 3 is (0 ∷ 0xd0 ∷ 0x96 ∷ 0x00 ∷ []))
    -- in 2 bytes it is 10, and the output is the image
    ∷ (zhe_row (one_marked 2) 2 is (10 ∷ image 2))
    ∷ []

-- cases of document 01, number by number
abbrev pub written_out : List Row
written_out =
    -- integer/mod.rs: "Int8 80h is −128": kind 7, its width, and −128 in two's complement of 64 bits
    (integer_read_numbers (read_integer Int8 (0x80 ∷ [])) is (0 ∷ 7 ∷ 1 ∷ 0xffff_ffff_ffff_ff80 ∷ []))
    -- "Int16 00h 80h is −32,768"
    ∷ (integer_read_numbers (read_integer Int16 (0x00 ∷ 0x80 ∷ [])) is (0 ∷ 7 ∷ 2 ∷ 0xffff_ffff_ffff_8000 ∷ []))
    -- "FFh 7Fh is 32,767"
    ∷ (integer_read_numbers (read_integer Int16 (0xff ∷ 0x7f ∷ [])) is (0 ∷ 7 ∷ 2 ∷ 32767 ∷ []))
    -- deserializer.rs: a WSTRING "41h 00h 3Dh D8h 00h 00h gives 41h EFh BFh BDh": one record, of a text that was ended, and four bytes of text
    ∷ (record_row (one_type 31 6) (0x41 ∷ 0x00 ∷ 0x3d ∷ 0xd8 ∷ 0x00 ∷ 0x00 ∷ []) 4 is (0 ∷ 1 ∷ 4 ∷ 0x41 ∷ 0xef ∷ 0xbf ∷ 0xbd ∷ text_is 1 4))
    -- "41h alone gives EFh BFh BDh": a text that was not ended
    ∷ (record_row (one_type 31 1) (0x41 ∷ []) 3 is (0 ∷ 1 ∷ 3 ∷ 0xef ∷ 0xbf ∷ 0xbd ∷ text_is 0 3))
    -- type_category.rs: "INT with type name INT is an alias", the category at place 2
    ∷ (category_row (type_block 2 2 0 int int) is (0 ∷ 0 ∷ 2 ∷ []))
    -- "Id 65, two fields, both at offset 0, no type name, no methods: union", at place 13
    ∷ (category_row (two_fields 0 0) is (0 ∷ 0 ∷ 13 ∷ []))
    -- "First field at 4, second at 8: function block", at place 6
    ∷ (category_row (two_fields 4 8) is (0 ∷ 0 ∷ 6 ∷ []))
    ∷ []

-- all of them
abbrev pub more_rows : List Row
more_rows = written_out ++ marked
