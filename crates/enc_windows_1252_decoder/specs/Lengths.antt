-- The rules by which the length of a decoded text is counted. Assumes nothing.
use Rattle.std.specs.Prelude.{cond, ℕ, ltb}

-- how many bytes of UTF-8 a code point below 10000h takes: 1 below 80h, 2 below 800h, else 3
unfoldable pub length_by : ℕ → ℕ
length_by c = cond (ltb c 0x80) 1 (cond (ltb c 0x800) 2 3)

-- how many bytes more than one a byte's text takes at most: none for ASCII, one from A0h on, two between
abbrev pub most_more : ℕ → ℕ
most_more b = cond (ltb b 0x80) 0 (cond (ltb b 0xa0) 2 1)
