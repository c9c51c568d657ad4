-- What the private functions of this crate promise. Assumes nothing.
use Rattle.std.specs.Prelude.{◌≡◌, List, ◌∷◌, ℕ, ◌+◌, ◌≤◌, ◌<◌, length, drop}
use Rattle.enc_utf_8.specs.Utf8.{scalars}
use Rattle.enc_utf_8_replacing.specs.Text.{decode8_text}

-- the first scalar value of some bytes from `at` on, U+FFFD for an ill_formed part, and the place after its bytes
pub record ScalarAt (bytes : List ℕ) (at code next : ℕ) : Type 0 where
  pub is : scalars (drop at bytes) ≡ code ∷ scalars (drop next bytes)
  pub later : at < next
  pub within : next ≤ length bytes

-- what begins at a place takes `size` bytes of the text, and `next` is the place after it
pub record TextAt (bytes : List ℕ) (at size next : ℕ) : Type 0 where
  pub is : length (decode8_text (drop at bytes)) ≡ size + length (decode8_text (drop next bytes))
  pub later : at < next
  pub within : next ≤ length bytes
