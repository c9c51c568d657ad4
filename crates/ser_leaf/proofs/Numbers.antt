-- The numbers of what a leaf's write answers tell it. Assumes nothing.
use mathlib.Core.Path.{◌≡◌, refl, ap}
use Prim.Native.Nat.{ℕ}
use native.Mathlib.Omega.{arith}
use lib.ListN.{length}
use Rattle.ser_leaf.specs.declared.Written.{Written}
use Rattle.ser_leaf.specs.declared.Written.TheVariants.{Done, Refused}
use Rattle.ser_leaf.specs.Leaf.{written_numbers}

-- answers of the same numbers are the same
pub written_is : (r a : Written) → written_numbers r ≡ written_numbers a → r ≡ a
unfolding written_numbers
written_is Done Done e = refl
written_is Done (Refused m) e = absurd (let z : ◌≡◌ {A = ℕ} 0 1 = ap length e in omega arith)
written_is (Refused n) Done e = absurd (let z : ◌≡◌ {A = ℕ} 1 0 = ap length e in omega arith)
written_is (Refused n) (Refused m) e = let q : n ≡ m = cc in ap Refused q

-- the same answer has the same numbers
pub written_says : (r a : Written) → r ≡ a → written_numbers r ≡ written_numbers a
written_says r a e = ap written_numbers e
