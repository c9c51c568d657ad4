-- An answer by its numbers: the first is returned, a lent array takes the rest. Assumes nothing.
use Rattle.std.specs.Prelude.{◌≡◌, List, [], ◌∷◌, ℕ}
use Rattle.enc_number.specs.Answer.{refusal_of, values_of}

-- the new numbers over the first numbers of the array, as many as fit; the rest as before
unfoldable pub laid : List ℕ → List ℕ → List ℕ
laid [] before = before
laid (x ∷ new) [] = []
laid (x ∷ new) (y ∷ before) = x ∷ laid new before

-- what is returned of an answer's numbers, and what the array holds then
pub record Gives (numbers before : List ℕ) (r : ℕ) (after : List ℕ) : Type 0 where
  pub is : r ≡ refusal_of numbers
  pub values : after ≡ laid (values_of numbers) before
