-- UTF-16LE, encoded: the UTF-16 encoding form of the Unicode Standard, each code unit with its low byte first. Assumes nothing.
use Rattle.std.specs.Prelude.{cond, ℕ, ◌+◌, ◌-◌, ◌/◌, ◌%◌, ltb}
use mathlib.Core.List.{List, ◌++◌, flat_map}
use Rattle.enc_number.specs.Le.{le_bytes}
use Rattle.enc_utf_8.specs.Utf8.{scalars}

-- the two bytes of a code unit, in little-endian order
abbrev pub unit_bytes : ℕ → List ℕ
unit_bytes u = le_bytes 2 u

-- the leading surrogate of a scalar value from 10000h on
abbrev pub leading_of : ℕ → ℕ
leading_of c = 0xD800 + (c - 0x10000) / 0x400

-- its trailing surrogate
abbrev pub trailing_of : ℕ → ℕ
trailing_of c = 0xDC00 + (c - 0x10000) % 0x400

-- a scalar value: one code unit below 10000h, else the surrogate pair
unfoldable pub utf16_of : ℕ → List ℕ
utf16_of c = cond (ltb c 0x10000) (unit_bytes c) (unit_bytes (leading_of c) ++ unit_bytes (trailing_of c))

-- the scalar values of a UTF-8 text, U+FFFD for what is ill_formed, as UTF-16LE
abbrev pub encode16_text : List ℕ → List ℕ
encode16_text text = flat_map utf16_of (scalars text)
