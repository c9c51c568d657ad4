-- ASCII in UTF-16LE: code units below 80h, of which the low byte is the character. Assumes nothing.
use Rattle.std.specs.Prelude.{List, [], ◌∷◌, ℕ, zero, suc, ◌+◌, ◌*◌, ◌≤◌, ◌<◌, length, get_or}
use Rattle.enc_utf_16.specs.Unit16.{unit_of}

-- the n code units from a place on are ASCII
pub record AsciiUnits (bytes : List ℕ) (at n : ℕ) : Type 0 where
  pub whole : at + 2 * n ≤ length bytes
  pub low : (i : ℕ) → i < n → unit_of (get_or bytes (at + 2 * i) 0) (get_or bytes (at + 2 * i + 1) 0) < 0x80

-- the low bytes of the n code units from a place on
unfoldable pub lows : List ℕ → ℕ → ℕ → List ℕ
lows bytes at zero = []
lows bytes at (suc n) = get_or bytes at 0 ∷ lows bytes (at + 2) n
