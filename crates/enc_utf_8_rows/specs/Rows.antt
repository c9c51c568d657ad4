-- The automaton that tells whether bytes are UTF-8, as a row of bits for each byte. Assumes nothing.
--
-- A state is a number of bits to shift a row by: 0 before a code point, 6 after an error, 12, 18 and 24 where one, two and three bytes are due
-- that no lead narrows, 30 and 36 after E0h and EDh, 42 and 48 after F0h and F4h.
use Rattle.std.specs.Prelude.{◌≡◌, cond, ◌&&◌, ℕ, ◌+◌, ◌*◌, ◌^◌, eqb, leb, ltb}

-- the state after the first byte of a code point
unfoldable pub after_lead : ℕ → ℕ
after_lead b =
    cond (ltb b 0x80) 0
    (cond (ltb b 0xc2) 6
    (cond (ltb b 0xe0) 12
    (cond (ltb b 0xf0) (cond (eqb b 0xe0) 30 (cond (eqb b 0xed) 36 18))
    (cond (ltb b 0xf5) (cond (eqb b 0xf0) 42 (cond (eqb b 0xf4) 48 24)) 6))))

-- the state after a byte that is due: `next`, where it lies between the boundaries
unfoldable pub after_due : ℕ → ℕ → ℕ → ℕ → ℕ
after_due lower upper next b = cond (leb lower b && leb b upper) next 6

-- the row of a byte: six bits for each state, from the lowest on, with the state that comes after it
unfoldable pub row_of : ℕ → ℕ
row_of b =
    after_lead b
    + 6 * 2 ^ 6
    + after_due 0x80 0xbf 0 b * 2 ^ 12
    + after_due 0x80 0xbf 12 b * 2 ^ 18
    + after_due 0x80 0xbf 18 b * 2 ^ 24
    + after_due 0xa0 0xbf 12 b * 2 ^ 30
    + after_due 0x80 0x9f 12 b * 2 ^ 36
    + after_due 0x90 0xbf 18 b * 2 ^ 42
    + after_due 0x80 0x8f 18 b * 2 ^ 48

-- the row that leads to the error from every state
abbrev pub errors : ℕ
errors = 0x6186186186186

-- a row for a byte: its own, or the one that leads to the error
pub data RowFor (b row : ℕ) : Type 0 where
  own : row ≡ row_of b → RowFor b row
  never : row ≡ errors → RowFor b row
