-- The line of a record, as bytes (document 01, "Program `adswalk`"; document 02, change request 2). Assumes nothing.
use Rattle.std.specs.Prelude.{cond, List, [], ◌∷◌, ◌++◌, ℕ, ◌*◌, eqb}
use Rattle.enc_windows_1252.specs.Text.{decimal}
use Rattle.tape.specs.declared.record.Record.{Record}
use Rattle.tape.specs.Text.{record_text}
use Rattle.print_figures.specs.Figures.{signed, hex, hex_text}

-- ---- the forms of lines; each ends with a line feed (0Ah)

-- a word with its blank, and a number
unfoldable pub counted_line : List ℕ → ℕ → List ℕ
counted_line word n = word ++ decimal n ++ (0x0a ∷ [])

-- a word with its blank, and a name as it is
unfoldable pub named_line : List ℕ → List ℕ → List ℕ
named_line word name = word ++ name ++ (0x0a ∷ [])

-- what an integer's line begins with: a word with its blank, the width in bits, a blank
unfoldable pub sized_start : List ℕ → ℕ → List ℕ
sized_start word width = word ++ decimal (width * 8) ++ (0x20 ∷ [])

-- `int`, the width in bits, the value
unfoldable pub int_line : ℕ → ℕ → List ℕ
int_line width n = sized_start (0x69 ∷ 0x6e ∷ 0x74 ∷ 0x20 ∷ []) width ++ signed n ++ (0x0a ∷ [])

-- `nat`, the width in bits, the value
unfoldable pub nat_line : ℕ → ℕ → List ℕ
nat_line width n = sized_start (0x6e ∷ 0x61 ∷ 0x74 ∷ 0x20 ∷ []) width ++ decimal n ++ (0x0a ∷ [])

-- a word with its blank, and all k digits of a real's bits
unfoldable pub real_line : List ℕ → ℕ → ℕ → List ℕ
real_line word k n = word ++ hex k n ++ (0x0a ∷ [])

-- the word before a text, by byte 1 of its record: `clipped` if no terminator was found (0), else `text`
unfoldable pub text_word : ℕ → List ℕ
text_word w = cond (eqb w 0) (0x63 ∷ 0x6c ∷ 0x69 ∷ 0x70 ∷ 0x70 ∷ 0x65 ∷ 0x64 ∷ []) (0x74 ∷ 0x65 ∷ 0x78 ∷ 0x74 ∷ [])

-- a text's word, a blank and the hexadecimal digits of its bytes; of an empty text the word alone
unfoldable pub text_line : ℕ → List ℕ → List ℕ
text_line w [] = text_word w ++ (0x0a ∷ [])
text_line w (x ∷ xs) = (text_word w ++ (0x20 ∷ [])) ++ hex_text (x ∷ xs) ++ (0x0a ∷ [])

-- ---- the line of a record

-- `bool` and B; `int` and `nat` with width and B; `real 4` and `real 8` with B's 8 and 16 digits; of another kind nothing
unfoldable pub number_line : Record → List ℕ
number_line r =
    cond (eqb r.kind 6) (counted_line (0x62 ∷ 0x6f ∷ 0x6f ∷ 0x6c ∷ 0x20 ∷ []) r.b)
    (cond (eqb r.kind 7) (int_line r.width r.b)
    (cond (eqb r.kind 8) (nat_line r.width r.b)
    (cond (eqb r.kind 9) (real_line (0x72 ∷ 0x65 ∷ 0x61 ∷ 0x6c ∷ 0x20 ∷ 0x34 ∷ 0x20 ∷ []) 8 r.b)
    (cond (eqb r.kind 10) (real_line (0x72 ∷ 0x65 ∷ 0x61 ∷ 0x6c ∷ 0x20 ∷ 0x38 ∷ 0x20 ∷ []) 16 r.b)
    []))))

-- `end`, of an array or a map
abbrev pub end_line : List ℕ
end_line = 0x65 ∷ 0x6e ∷ 0x64 ∷ 0x0a ∷ []

-- `array` and `map` with the count; `end`; `key` and `enum` with the name; `text` or `clipped`; `unit`; else as a number
unfoldable pub line_of : List ℕ → List ℕ → Record → List ℕ
line_of book text r =
    cond (eqb r.kind 1) (counted_line (0x61 ∷ 0x72 ∷ 0x72 ∷ 0x61 ∷ 0x79 ∷ 0x20 ∷ []) r.a)
    (cond (eqb r.kind 2) end_line
    (cond (eqb r.kind 3) (counted_line (0x6d ∷ 0x61 ∷ 0x70 ∷ 0x20 ∷ []) r.a)
    (cond (eqb r.kind 4) (named_line (0x6b ∷ 0x65 ∷ 0x79 ∷ 0x20 ∷ []) (record_text book text r))
    (cond (eqb r.kind 5) end_line
    (cond (eqb r.kind 11) (text_line r.width (record_text book text r))
    (cond (eqb r.kind 12) (named_line (0x65 ∷ 0x6e ∷ 0x75 ∷ 0x6d ∷ 0x20 ∷ []) (record_text book text r))
    (cond (eqb r.kind 13) (0x75 ∷ 0x6e ∷ 0x69 ∷ 0x74 ∷ 0x0a ∷ [])
    (number_line r))))))))
