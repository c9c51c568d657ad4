-- An answer as a list of numbers: document 01's number of the refusal, 0 where nothing is refused, then its values. Assumes nothing.
use Rattle.std.specs.Prelude.{Bool, true, false, List, [], ◌∷◌, ℕ}

-- document 01's number of the refusal, 0 where nothing is refused
abbrev pub refusal_of : List ℕ → ℕ
refusal_of [] = 0
refusal_of (n ∷ values) = n

-- the values that come with it
abbrev pub values_of : List ℕ → List ℕ
values_of [] = []
values_of (n ∷ values) = values

-- a truth among the values: 1 for true, 0 for false
abbrev pub truth_number : Bool → ℕ
truth_number true = 1
truth_number false = 0
