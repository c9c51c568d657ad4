-- The index of Windows-1252: the code point of a byte, and the byte of a code point (WHATWG Encoding Standard, "index pointer"). Assumes nothing.
use Rattle.std.specs.Prelude.{cond, ◌&&◌, List, [], ◌∷◌, ℕ, zero, suc, ◌+◌, ◌-◌, get_or, leb, ltb, eqb, Option, Some, None}

-- the code points of the bytes 80h to 9Fh, as document 01 lists them
unfoldable pub listed_points : List ℕ
listed_points = 0x20ac ∷ 0x81 ∷ 0x201a ∷ 0x192 ∷ 0x201e ∷ 0x2026 ∷ 0x2020 ∷ 0x2021 ∷ 0x2c6 ∷ 0x2030 ∷ 0x160 ∷ 0x2039 ∷ 0x152 ∷ 0x8d ∷ 0x17d ∷ 0x8f ∷ 0x90 ∷ 0x2018 ∷ 0x2019 ∷ 0x201c ∷ 0x201d ∷ 0x2022 ∷ 0x2013 ∷ 0x2014 ∷ 0x2dc ∷ 0x2122 ∷ 0x161 ∷ 0x203a ∷ 0x153 ∷ 0x9d ∷ 0x17e ∷ 0x178 ∷ []

-- the code point of a byte: its own number, except 80h to 9Fh
unfoldable pub code_point : ℕ → ℕ
code_point b = cond (leb 0x80 b && ltb b 0xa0) (get_or listed_points (b - 0x80) 0) b

-- the values of f at the n numbers from i on
abbrev pub table : {A : Type 0} → (ℕ → A) → ℕ → ℕ → List A
table f i zero = []
table f i (suc n) = f i ∷ table f (suc i) n

-- the code points of all bytes, in their order
unfoldable pub code_points : List ℕ
code_points = table code_point 0 256

-- the first of the k bytes from b on whose code point is c
unfoldable pub first_from : ℕ → ℕ → ℕ → Option ℕ
first_from c b zero = None
first_from c b (suc k) = cond (eqb (code_point b) c) (Some b) (first_from c (b + 1) k)

-- the byte of a code point: an ASCII code point's own, else the first of 80h to FFh whose code point it is, or none
unfoldable pub byte_of : ℕ → Option ℕ
byte_of c = cond (ltb c 0x80) (Some c) (first_from c 0x80 0x80)
