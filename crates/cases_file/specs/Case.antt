-- The numbers that say how long the parts of a recorded case are. Assumes nothing.
use Rattle.std.specs.Prelude.{List, ℕ, ◌+◌, ◌*◌, get_or}

-- the number of two bytes at a place, the lowest first; past the end there are zeros
abbrev pub u16_at : List ℕ → ℕ → ℕ
u16_at bytes at = get_or bytes at 0 + 256 * get_or bytes (at + 1) 0

-- where the input of the case that stands first ends: after five bytes of fields, of which the last two are its length
abbrev pub input_end : List ℕ → ℕ
input_end rest = 5 + u16_at rest 3
