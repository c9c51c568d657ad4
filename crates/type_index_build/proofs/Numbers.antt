-- The numbers of the answer tell it. Assumes nothing.
use mathlib.Core.Path.{◌≡◌, ap}
use Rattle.type_index_build.specs.declared.Built.{Built}
use Rattle.type_index_build.specs.Build.{built_numbers}

-- the same answer has the same numbers
pub built_says : (r a : Built) → r ≡ a → built_numbers r ≡ built_numbers a
built_says r a e = ap built_numbers e
