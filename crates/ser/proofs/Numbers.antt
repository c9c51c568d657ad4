-- The numbers of what a write answers tell it. Assumes nothing.
use mathlib.Core.Path.{◌≡◌, refl, ap}
use Prim.Native.Nat.{ℕ}
use native.Mathlib.Omega.{arith}
use lib.ListN.{length}
use Rattle.enc_number.specs.Answer.{refusal_of}
use Rattle.ser.specs.declared.WriteAnswer.{WriteAnswer}
use Rattle.ser.specs.declared.WriteAnswer.TheVariants.{Done, NotFound, Refused}
use Rattle.ser.specs.Call.{write_numbers}

-- answers of the same numbers are the same
pub write_is : (r a : WriteAnswer) → write_numbers r ≡ write_numbers a → r ≡ a
unfolding write_numbers
write_is Done Done e = refl
write_is Done (NotFound c) e = absurd (let z : ◌≡◌ {A = ℕ} 0 2 = ap length e in omega arith)
write_is Done (Refused m) e = absurd (let z : ◌≡◌ {A = ℕ} 0 1 = ap length e in omega arith)
write_is (NotFound b) Done e = absurd (let z : ◌≡◌ {A = ℕ} 2 0 = ap length e in omega arith)
write_is (NotFound b) (NotFound c) e = let q : b ≡ c = cc in ap NotFound q
write_is (NotFound b) (Refused m) e = absurd (let z : ◌≡◌ {A = ℕ} 2 1 = ap length e in omega arith)
write_is (Refused n) Done e = absurd (let z : ◌≡◌ {A = ℕ} 1 0 = ap length e in omega arith)
write_is (Refused n) (NotFound c) e = absurd (let z : ◌≡◌ {A = ℕ} 1 2 = ap length e in omega arith)
write_is (Refused n) (Refused m) e = let q : n ≡ m = cc in ap Refused q

-- the same answer has the same numbers
pub write_says : (r a : WriteAnswer) → r ≡ a → write_numbers r ≡ write_numbers a
write_says r a e = ap write_numbers e

-- a success has the number 0, a refusal its own
pub done-number : refusal_of (write_numbers Done) ≡ 0
unfolding write_numbers
done-number = refl

pub refused-number : (n : ℕ) → refusal_of (write_numbers (Refused n)) ≡ n
unfolding write_numbers
refused-number n = refl
