-- The numbers of what a read answers tell it. Assumes nothing.
use mathlib.Core.Path.{◌≡◌, ap}
use Prim.Native.Nat.{ℕ}
use native.Mathlib.Omega.{arith}
use lib.ListN.{length}
use Rattle.de_output.specs.declared.ReadAnswer.{ReadAnswer}
use Rattle.de_output.specs.declared.ReadAnswer.TheVariants.{Done, NotFound, Refused}
use Rattle.de_output.specs.Answer.{read_numbers}

-- answers of the same numbers are the same
pub read_is : (r a : ReadAnswer) → read_numbers r ≡ read_numbers a → r ≡ a
unfolding read_numbers
read_is (Done n m) (Done k l) e = let p : n ≡ k = cc in let q : m ≡ l = cc in rw (p, q)
read_is (Done n m) (NotFound c) e = absurd (let z : ◌≡◌ {A = ℕ} 3 2 = ap length e in omega arith)
read_is (Done n m) (Refused k) e = absurd (let z : ◌≡◌ {A = ℕ} 3 1 = ap length e in omega arith)
read_is (NotFound b) (Done k l) e = absurd (let z : ◌≡◌ {A = ℕ} 2 3 = ap length e in omega arith)
read_is (NotFound b) (NotFound c) e = let q : b ≡ c = cc in ap NotFound q
read_is (NotFound b) (Refused k) e = absurd (let z : ◌≡◌ {A = ℕ} 2 1 = ap length e in omega arith)
read_is (Refused n) (Done k l) e = absurd (let z : ◌≡◌ {A = ℕ} 1 3 = ap length e in omega arith)
read_is (Refused n) (NotFound c) e = absurd (let z : ◌≡◌ {A = ℕ} 1 2 = ap length e in omega arith)
read_is (Refused n) (Refused k) e = let q : n ≡ k = cc in ap Refused q

-- the same answer has the same numbers
pub read_says : (r a : ReadAnswer) → r ≡ a → read_numbers r ≡ read_numbers a
read_says r a e = ap read_numbers e
