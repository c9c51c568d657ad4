-- The code unit and the scalar value at a place of UTF-16LE bytes. Assumes nothing.
use Rattle.std.specs.Prelude.{◌≡◌, cond, ◌&&◌, List, [], ◌∷◌, ℕ, ◌+◌, ◌≤◌, length, get_or, drop}
use Rattle.enc_utf_16.specs.Unit16.{unit_of, is_leading, is_trailing}
use Rattle.enc_utf_16.specs.Decode.{decode_scalars}
use Rattle.enc_utf_16.specs.Step.{ScalarAtIn}

-- the two bytes at a place are the code unit u
pub record UnitAt (bytes : List ℕ) (at u : ℕ) : Type 0 where
  pub is : u ≡ unit_of (get_or bytes at 0) (get_or bytes (at + 1) 0)

-- the code unit at a place is a surrogate
pub record SurrogateAt (bytes : List ℕ) (at u : ℕ) : Type 0 where
  pub unit : UnitAt bytes at u
  pub whole : at + 2 ≤ length bytes
  pub from : 0xD800 ≤ u
  pub to : u ≤ 0xDFFF

-- how many bytes the first scalar value or error takes: a surrogate pair four, a leading surrogate all that is left where no whole code unit
-- follows, an odd byte one, anything else two
unfoldable pub first_size : List ℕ → ℕ
first_size [] = 0
first_size (x ∷ []) = 1
first_size (x ∷ y ∷ []) = 2
first_size (x ∷ y ∷ z ∷ []) = cond (is_leading (unit_of x y)) 3 2
first_size (x ∷ y ∷ z ∷ w ∷ bytes) = cond (is_leading (unit_of x y) && is_trailing (unit_of z w)) 4 2

-- the first scalar value from a place on, and the place after the bytes that it takes
pub record FirstScalar (bytes : List ℕ) (at code next : ℕ) : Type 0 where
  pub scalar : ScalarAtIn decode_scalars bytes at code next
  pub place : next ≡ at + first_size (drop at bytes)
