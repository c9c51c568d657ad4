-- UTF-16 code units (the Unicode Standard, section 3.9; the WHATWG Infra Standard's surrogates). Assumes nothing.
use Rattle.std.specs.Prelude.{Bool, ◌&&◌, [], ◌∷◌, ℕ, ◌+◌, ◌*◌, ◌-◌, leb}
use Rattle.enc_number.specs.Le.{le_value}

-- the code unit of two bytes, in little-endian order
abbrev pub unit_of : ℕ → ℕ → ℕ
unit_of low high = le_value (low ∷ high ∷ [])

-- a leading surrogate: D800h to DBFFh
abbrev pub is_leading : ℕ → Bool
is_leading u = leb 0xD800 u && leb u 0xDBFF

-- a trailing surrogate: DC00h to DFFFh
abbrev pub is_trailing : ℕ → Bool
is_trailing u = leb 0xDC00 u && leb u 0xDFFF

-- the scalar value from surrogates, the leading one and the trailing one
abbrev pub from_surrogates : ℕ → ℕ → ℕ
from_surrogates lead trail = 0x10000 + (lead - 0xD800) * 0x400 + (trail - 0xDC00)
