-- What a function does to a buffer that it writes into from some place on, and a length that is asked for beforehand. Assumes nothing.
use Rattle.std.specs.Prelude.{◌≡◌, Bool, true, cond, List, [], ◌∷◌, ◌++◌, ℕ, ◌+◌, length, take, drop, leb, Option, Some, None}

-- `xs` laid over `out` from `at` on
unfoldable pub splice : List ℕ → ℕ → List ℕ → List ℕ
splice out at xs = take at out ++ xs ++ drop (at + length xs) out

-- `xs` fits a buffer of `room` bytes from `at` on; no bytes fit anywhere
unfoldable pub fits_in : List ℕ → ℕ → ℕ → Bool
fits_in [] at room = true
fits_in (x ∷ xs) at room = leb (at + length (x ∷ xs)) room

-- what writing `xs` into `out` from `at` on answers, and the buffer after it: where `xs` fits, the place after it and `xs` laid over the buffer; else `Full` and the buffer as it was
pub record Wrote (xs out : List ℕ) (at : ℕ) (r : Option ℕ) (out' : List ℕ) : Type 0 where
  pub answer : r ≡ cond (fits_in xs at (length out)) (Some (at + length xs)) None
  pub buffer : out' ≡ cond (fits_in xs at (length out)) (splice out at xs) out

-- `xs` laid over `out` from `at` on, where it is known to fit, and the place after it
pub record Laid (xs out : List ℕ) (at r : ℕ) (out' : List ℕ) : Type 0 where
  pub next : r ≡ at + length xs
  pub buffer : out' ≡ splice out at xs

-- a length `n` that is asked for with some room: itself where it is at most the room
abbrev pub room_for : ℕ → ℕ → Option ℕ
room_for n room = cond (leb n room) (Some n) None
