-- The numbers that are lent to a walk: the scratch, and a list where the call takes one. Assumes nothing.
use Rattle.std.specs.Prelude.{Bool, List, ℕ, length, replicate, leb}

-- 6: the scratch has at least 8,192 numbers
abbrev pub scratch_fits : List ℕ → Bool
scratch_fits sc = leb 8192 (length sc)

-- 6: the list has at least 4,096 numbers
abbrev pub list_fits : List ℕ → Bool
list_fits list = leb 4096 (length list)

-- the scratch ends all zero
abbrev pub zeroed : List ℕ → List ℕ
zeroed sc = replicate (length sc) 0
