-- A text in memory, its decoding to UTF-8 and the encoding of a UTF-8 text: the WHATWG Encoding Standard's single-byte decoder and encoder.
-- No byte order mark is looked for. Assumes nothing.
use Rattle.std.specs.Prelude.{cond, ℕ, zero, suc, ◌+◌, ◌/◌, ◌%◌, eqb, ltb, Option, Some, None}
use mathlib.Core.List.{List, [], ◌∷◌, ◌++◌, flat_map}
use Rattle.enc_utf_8.specs.declared.TextEnd.{TextEnd}
use Rattle.enc_utf_8.specs.declared.TextEnd.TheVariants.{Terminated, Unterminated}
use Rattle.enc_utf_8.specs.Utf8.{utf8_of, scalars}
use Rattle.enc_windows_1252.specs.Index.{code_point, byte_of}

-- ---- the end of a text in memory

-- where the text ends whose first byte is at the place n: before the first zero, else with the memory
unfoldable pub end_from : ℕ → List ℕ → TextEnd
end_from n [] = Unterminated n
end_from n (b ∷ bs) = cond (eqb b 0) (Terminated n) (end_from (n + 1) bs)

-- where the text of a STRING ends: before its first zero byte, else with the memory
abbrev pub string_end : List ℕ → TextEnd
string_end bytes = end_from 0 bytes

-- ---- the decoder

-- a byte's code point in UTF-8
abbrev pub decode_byte : ℕ → List ℕ
decode_byte b = utf8_of (code_point b)

-- the text of some bytes, in UTF-8
unfoldable pub decode_text : List ℕ → List ℕ
decode_text bytes = flat_map decode_byte bytes

-- ---- the encoder, with the error mode "html"

-- the decimal digits of n, the highest first, for n below k
unfoldable pub digits : ℕ → ℕ → List ℕ
digits zero n = []
digits (suc k) n = cond (ltb n 10) ((0x30 + n) ∷ []) (digits k (n / 10) ++ ((0x30 + n % 10) ∷ []))

-- the shortest decimal form of n in ASCII digits
abbrev pub decimal : ℕ → List ℕ
decimal n = digits (suc n) n

-- a decimal character reference: `&#`, the code point in decimal, `;`
abbrev pub reference : ℕ → List ℕ
reference c = 0x26 ∷ 0x23 ∷ decimal c ++ (0x3b ∷ [])

-- the bytes of a code point, by its byte
unfoldable pub bytes_by : Option ℕ → ℕ → List ℕ
bytes_by (Some b) c = b ∷ []
bytes_by None c = reference c

-- the bytes of a code point: its byte, or a reference where it has none
abbrev pub encode_code : ℕ → List ℕ
encode_code c = bytes_by (byte_of c) c

-- the bytes of a UTF-8 text; an ill_formed part counts as U+FFFD
unfoldable pub encode_text : List ℕ → List ℕ
encode_text text = flat_map encode_code (scalars text)
