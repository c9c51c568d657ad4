-- The numbers of a look-up's answer tell it. Assumes nothing.
use Rattle.std.specs.Prelude.{Option, Some, None}
use mathlib.Core.Path.{◌≡◌, refl, ap}
use Prim.Native.Nat.{ℕ}
use native.Mathlib.Omega.{arith}
use Rattle.type_provider.specs.Find.{found_numbers}

-- answers of the same numbers are the same
pub found-is : (r a : Option ℕ) → found_numbers r ≡ found_numbers a → r ≡ a
unfolding found_numbers
found-is (Some n) (Some m) e = let q : n ≡ m = cc in ap Some q
found-is (Some n) None e = absurd (let z : ◌≡◌ {A = ℕ} 0 7 = cc in omega arith)
found-is None (Some m) e = absurd (let z : ◌≡◌ {A = ℕ} 7 0 = cc in omega arith)
found-is None None e = refl

-- the same answer has the same numbers
pub found-says : (r a : Option ℕ) → r ≡ a → found_numbers r ≡ found_numbers a
found-says r a e = ap found_numbers e
