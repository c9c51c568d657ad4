-- Numbers and bytes as figures. Assumes nothing.
use Rattle.std.specs.Prelude.{cond, List, [], ◌∷◌, ◌++◌, ℕ, zero, suc, ◌+◌, ◌-◌, ◌/◌, ◌%◌, ltb}
use Rattle.enc_windows_1252.specs.Text.{decimal}

-- a number of 64 bits in two's complement, in decimal, with a minus sign (2Dh) where its highest bit is set
unfoldable pub signed : ℕ → List ℕ
signed n = cond (ltb n 9223372036854775808) (decimal n) (0x2d ∷ decimal (18446744073709551616 - n))

-- a hexadecimal digit: 0 to 9, A to F
unfoldable pub glyph : ℕ → ℕ
glyph d = cond (ltb d 10) (0x30 + d) (0x37 + d)

-- the last k hexadecimal digits of n, the highest first
unfoldable pub hex : ℕ → ℕ → List ℕ
hex zero n = []
hex (suc k) n = hex k (n / 16) ++ (glyph (n % 16) ∷ [])

-- two hexadecimal digits for each byte
unfoldable pub hex_text : List ℕ → List ℕ
hex_text [] = []
hex_text (x ∷ xs) = hex 2 x ++ hex_text xs
