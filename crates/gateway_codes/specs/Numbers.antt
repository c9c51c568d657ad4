-- An answer as one number. Assumes nothing.
use Rattle.std.specs.Prelude.{List, [], ◌∷◌, ℕ, Option, Some, None}

-- the place after the written bytes, or 2^64 − 1 where they do not fit
abbrev pub place_number : Option ℕ → ℕ
place_number (Some n) = n
place_number None = 0xffff_ffff_ffff_ffff

-- of document 01's numbers of a look-up (`found_numbers`): the block that stands after the 0, or 2^32 − 1 where no block stands there (7)
abbrev pub found_number : List ℕ → ℕ
found_number [] = 0xffff_ffff
found_number (refusal ∷ []) = 0xffff_ffff
found_number (refusal ∷ block ∷ more) = block
