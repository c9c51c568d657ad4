-- The answer as a number and values: they tell it; one law for each variant. Assumes nothing.
use mathlib.Core.Path.{◌≡◌, ap}
use mathlib.Core.List.{List, [], ◌∷◌}
use Prim.Native.Nat.{ℕ}
use native.Mathlib.Omega.{arith}
use lib.ListN.{length}
use Rattle.gateway_lent_values.specs.Values.{Gives}
use Rattle.gateway_lent_values.proofs.Lays.{none}
use Rattle.gateway_appending.specs.declared.Growth.{Growth}
use Rattle.gateway_appending.specs.declared.Growth.TheVariants.{Entered, Loose, Refused}
use Rattle.gateway_appending.specs.Growth.{growth_numbers}

-- answers of the same numbers are the same
pub growth_is : (r a : Growth) → growth_numbers r ≡ growth_numbers a → r ≡ a
unfolding growth_numbers
growth_is (Entered n) (Entered m) e = let q : n ≡ m = cc in ap Entered q
growth_is (Entered n) (Loose m) e = absurd (let z : ◌≡◌ {A = ℕ} 1 0 = cc in omega arith)
growth_is (Entered n) (Refused m) e = absurd (let z : ◌≡◌ {A = ℕ} 3 1 = ap length e in omega arith)
growth_is (Loose n) (Entered m) e = absurd (let z : ◌≡◌ {A = ℕ} 0 1 = cc in omega arith)
growth_is (Loose n) (Loose m) e = let q : n ≡ m = cc in ap Loose q
growth_is (Loose n) (Refused m) e = absurd (let z : ◌≡◌ {A = ℕ} 3 1 = ap length e in omega arith)
growth_is (Refused n) (Entered m) e = absurd (let z : ◌≡◌ {A = ℕ} 1 3 = ap length e in omega arith)
growth_is (Refused n) (Loose m) e = absurd (let z : ◌≡◌ {A = ℕ} 1 3 = ap length e in omega arith)
growth_is (Refused n) (Refused m) e = let q : n ≡ m = cc in ap Refused q

-- the same answer has the same numbers
pub growth_says : (r a : Growth) → r ≡ a → growth_numbers r ≡ growth_numbers a
growth_says r a e = ap growth_numbers e

-- what each variant gives
module _ {before after : List ℕ} {r : ℕ} where
  pub growth_entered : (x : Growth) (n : ℕ) → x ≡ Entered n → Gives (0 ∷ n ∷ 1 ∷ []) before r after → Gives (growth_numbers x) before r after
  unfolding growth_numbers
  growth_entered x n e g = rw e g

  pub growth_loose : (x : Growth) (n : ℕ) → x ≡ Loose n → Gives (0 ∷ n ∷ 0 ∷ []) before r after → Gives (growth_numbers x) before r after
  unfolding growth_numbers
  growth_loose x n e g = rw e g

module _ {before : List ℕ} where
  pub growth_refused : (x : Growth) (n : ℕ) → x ≡ Refused n → Gives (growth_numbers x) before n before
  unfolding growth_numbers
  growth_refused x n e = rw e (none n before)
