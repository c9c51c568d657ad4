-- A part of a book by its place, as a number and values. Assumes nothing.
use Rattle.std.specs.Prelude.{◌≡◌, List, [], ◌∷◌, ℕ, min, length, take, drop}
use Rattle.gateway_lent_values.specs.Values.{Gives}

-- a part that starts at byte `start` stands there, or at the book's end where the book is shorter
abbrev pub start_of : List ℕ → ℕ → ℕ
start_of book start = min start (length book)

-- a part of the book as offset and length, which lead to its bytes and never past the book's end
pub record PartGiven (book part : List ℕ) (start : ℕ) (before : List ℕ) (r : ℕ) (after : List ℕ) : Type 0 where
  pub gives : Gives (0 ∷ start_of book start ∷ length part ∷ []) before r after
  pub is : take (length part) (drop (start_of book start) book) ≡ part
