-- The numbers of what appending answers tell it. Assumes nothing.
use mathlib.Core.Path.{◌≡◌, ap}
use Prim.Native.Nat.{ℕ}
use native.Mathlib.Omega.{arith}
use lib.ListN.{length}
use Rattle.type_cache.specs.declared.Appended.{Appended}
use Rattle.type_cache.specs.declared.Appended.TheVariants.{Done, Refused}
use Rattle.type_cache.specs.Append.{appended_numbers}

-- answers of the same numbers are the same
pub appended-is : (r a : Appended) → appended_numbers r ≡ appended_numbers a → r ≡ a
unfolding appended_numbers
appended-is (Done n) (Done m) e = let q : n ≡ m = cc in ap Done q
appended-is (Done n) (Refused m) e = absurd (let z : ◌≡◌ {A = ℕ} 2 1 = ap length e in omega arith)
appended-is (Refused n) (Done m) e = absurd (let z : ◌≡◌ {A = ℕ} 1 2 = ap length e in omega arith)
appended-is (Refused n) (Refused m) e = let q : n ≡ m = cc in ap Refused q

-- the same answer has the same numbers
pub appended-says : (r a : Appended) → r ≡ a → appended_numbers r ≡ appended_numbers a
appended-says r a e = ap appended_numbers e
