-- The numbers of what a chain comes to, and of what a call answers, tell it. Assumes nothing.
use mathlib.Core.Path.{◌≡◌, refl, ap}
use mathlib.Core.List.{[], ◌∷◌}
use Prim.Native.Nat.{ℕ}
use native.Mathlib.Omega.{arith}
use lib.ListN.{length}
use Rattle.resolvers.specs.declared.Resolved.{Resolved}
use Rattle.resolvers.specs.declared.Resolved.TheVariants.{Base, TooLong}
use Rattle.resolvers.specs.declared.Resolved.TheVariants as chain
use Rattle.resolvers.specs.declared.Resolution.{Resolution}
use Rattle.resolvers.specs.declared.Resolution.TheVariants.{Block, NotFound, Refused}
use Rattle.resolvers.specs.Resolve.{resolved_numbers}
use Rattle.resolvers.specs.Calls.{resolution_numbers, resolution}

-- chains of the same numbers come to the same
pub resolved-is : (r a : Resolved) → resolved_numbers r ≡ resolved_numbers a → r ≡ a
unfolding resolved_numbers
resolved-is (Base u) (Base v) e = let q : u ≡ v = cc in ap Base q
resolved-is (Base u) (chain.NotFound v) e = absurd (let z : ◌≡◌ {A = ℕ} 0 7 = cc in omega arith)
resolved-is (Base u) TooLong e = absurd (let z : ◌≡◌ {A = ℕ} 0 8 = cc in omega arith)
resolved-is (chain.NotFound u) (Base v) e = absurd (let z : ◌≡◌ {A = ℕ} 7 0 = cc in omega arith)
resolved-is (chain.NotFound u) (chain.NotFound v) e = let q : u ≡ v = cc in ap chain.NotFound q
resolved-is (chain.NotFound u) TooLong e = absurd (let z : ◌≡◌ {A = ℕ} 7 8 = cc in omega arith)
resolved-is TooLong (Base v) e = absurd (let z : ◌≡◌ {A = ℕ} 8 0 = cc in omega arith)
resolved-is TooLong (chain.NotFound v) e = absurd (let z : ◌≡◌ {A = ℕ} 8 7 = cc in omega arith)
resolved-is TooLong TooLong e = refl

-- what is the same has the same numbers
pub resolved-says : (r a : Resolved) → r ≡ a → resolved_numbers r ≡ resolved_numbers a
resolved-says r a e = ap resolved_numbers e

-- the numbers of a type that the book lacks, and of a chain that is too long
pub lacks-numbers : (b : ℕ) → resolved_numbers (chain.NotFound b) ≡ 7 ∷ b ∷ []
unfolding resolved_numbers
lacks-numbers b = refl

pub long-numbers : resolved_numbers TooLong ≡ 8 ∷ []
unfolding resolved_numbers
long-numbers = refl

-- answers of the same numbers are the same
pub resolution-is : (r a : Resolution) → resolution_numbers r ≡ resolution_numbers a → r ≡ a
unfolding resolution_numbers
resolution-is (Block b) (Block c) e = let q : b ≡ c = cc in ap Block q
resolution-is (Block b) (NotFound c) e = absurd (let z : ◌≡◌ {A = ℕ} 0 7 = cc in omega arith)
resolution-is (Block b) (Refused m) e = absurd (let z : ◌≡◌ {A = ℕ} 2 1 = ap length e in omega arith)
resolution-is (NotFound b) (Block c) e = absurd (let z : ◌≡◌ {A = ℕ} 7 0 = cc in omega arith)
resolution-is (NotFound b) (NotFound c) e = let q : b ≡ c = cc in ap NotFound q
resolution-is (NotFound b) (Refused m) e = absurd (let z : ◌≡◌ {A = ℕ} 2 1 = ap length e in omega arith)
resolution-is (Refused n) (Block c) e = absurd (let z : ◌≡◌ {A = ℕ} 1 2 = ap length e in omega arith)
resolution-is (Refused n) (NotFound c) e = absurd (let z : ◌≡◌ {A = ℕ} 1 2 = ap length e in omega arith)
resolution-is (Refused n) (Refused m) e = let q : n ≡ m = cc in ap Refused q

-- the same answer has the same numbers
pub resolution-says : (r a : Resolution) → r ≡ a → resolution_numbers r ≡ resolution_numbers a
resolution-says r a e = ap resolution_numbers e

-- a call answers what the chain comes to by the same numbers
pub resolution-number : (r : Resolved) → resolution_numbers (resolution r) ≡ resolved_numbers r
unfolding resolution resolution_numbers resolved_numbers
resolution-number (Base u) = refl
resolution-number (chain.NotFound c) = refl
resolution-number TooLong = refl
