-- The numbers of an integer, and of what a read and a write answer, tell it. Assumes nothing.
use mathlib.Core.Path.{◌≡◌, refl, ap}
use mathlib.Core.List.{[], ◌∷◌}
use Prim.Native.Nat.{ℕ}
use native.Mathlib.Omega.{arith}
use Rattle.enc_number.specs.Answer.{refusal_of}
use Rattle.enc_integer.specs.declared.Integer.{Integer}
use Rattle.enc_integer.specs.declared.Integer.TheVariants.{Signed, Unsigned}
use Rattle.enc_integer.specs.declared.IntegerRead.{IntegerRead}
use Rattle.enc_integer.specs.declared.IntegerRead.TheVariants as read
use Rattle.enc_integer.specs.declared.IntegerWrite.{IntegerWrite}
use Rattle.enc_integer.specs.declared.IntegerWrite.TheVariants as write
use Rattle.enc_integer.specs.Integer.{integer_numbers, integer_read_numbers, integer_write_numbers}

-- the numbers of each kind of integer
pub signed-numbers : (w b : ℕ) → integer_numbers (Signed w b) ≡ 7 ∷ w ∷ b ∷ []
unfolding integer_numbers
signed-numbers w b = refl

pub unsigned-numbers : (w n : ℕ) → integer_numbers (Unsigned w n) ≡ 8 ∷ w ∷ n ∷ []
unfolding integer_numbers
unsigned-numbers w n = refl

-- the numbers of the refusals
pub read_size-number : refusal_of (integer_read_numbers read.Size) ≡ 10
unfolding integer_read_numbers
read_size-number = refl

pub read_unsupported_number : refusal_of (integer_read_numbers read.Unsupported) ≡ 11
unfolding integer_read_numbers
read_unsupported_number = refl

pub write_range_number : refusal_of (integer_write_numbers write.OutOfRange) ≡ 19
unfolding integer_write_numbers
write_range_number = refl

pub write_size-number : refusal_of (integer_write_numbers write.Size) ≡ 10
unfolding integer_write_numbers
write_size-number = refl

pub write_unsupported_number : refusal_of (integer_write_numbers write.Unsupported) ≡ 17
unfolding integer_write_numbers
write_unsupported_number = refl

-- integers of the same numbers are the same
pub integer_is_lem : (v u : Integer) → integer_numbers v ≡ integer_numbers u → v ≡ u
unfolding integer_numbers
integer_is_lem (Signed w b) (Signed x c) e = let p : w ≡ x = cc in let q : b ≡ c = cc in rw (p, q)
integer_is_lem (Signed w b) (Unsigned x c) e = absurd (let z : ◌≡◌ {A = ℕ} 7 8 = cc in omega arith)
integer_is_lem (Unsigned w b) (Signed x c) e = absurd (let z : ◌≡◌ {A = ℕ} 8 7 = cc in omega arith)
integer_is_lem (Unsigned w b) (Unsigned x c) e = let p : w ≡ x = cc in let q : b ≡ c = cc in rw (p, q)

-- reads' answers of the same numbers are the same
pub integer_read_is : (r a : IntegerRead) → integer_read_numbers r ≡ integer_read_numbers a → r ≡ a
unfolding integer_read_numbers
integer_read_is (read.Value v) (read.Value u) e = let q : integer_numbers v ≡ integer_numbers u = cc in ap read.Value (integer_is_lem v u q)
integer_read_is (read.Value v) read.Size e = absurd (let z : ◌≡◌ {A = ℕ} 0 10 = cc in omega arith)
integer_read_is (read.Value v) read.Unsupported e = absurd (let z : ◌≡◌ {A = ℕ} 0 11 = cc in omega arith)
integer_read_is read.Size (read.Value u) e = absurd (let z : ◌≡◌ {A = ℕ} 10 0 = cc in omega arith)
integer_read_is read.Size read.Size e = refl
integer_read_is read.Size read.Unsupported e = absurd (let z : ◌≡◌ {A = ℕ} 10 11 = cc in omega arith)
integer_read_is read.Unsupported (read.Value u) e = absurd (let z : ◌≡◌ {A = ℕ} 11 0 = cc in omega arith)
integer_read_is read.Unsupported read.Size e = absurd (let z : ◌≡◌ {A = ℕ} 11 10 = cc in omega arith)
integer_read_is read.Unsupported read.Unsupported e = refl

-- the same answer has the same numbers
pub integer_read_says : (r a : IntegerRead) → r ≡ a → integer_read_numbers r ≡ integer_read_numbers a
integer_read_says r a e = ap integer_read_numbers e

-- writes' answers of the same number are the same
pub integer_write_is : (r a : IntegerWrite) → integer_write_numbers r ≡ integer_write_numbers a → r ≡ a
unfolding integer_write_numbers
integer_write_is write.Done write.Done e = refl
integer_write_is write.Done write.OutOfRange e = absurd (let z : ◌≡◌ {A = ℕ} 0 19 = cc in omega arith)
integer_write_is write.Done write.Size e = absurd (let z : ◌≡◌ {A = ℕ} 0 10 = cc in omega arith)
integer_write_is write.Done write.Unsupported e = absurd (let z : ◌≡◌ {A = ℕ} 0 17 = cc in omega arith)
integer_write_is write.OutOfRange write.Done e = absurd (let z : ◌≡◌ {A = ℕ} 19 0 = cc in omega arith)
integer_write_is write.OutOfRange write.OutOfRange e = refl
integer_write_is write.OutOfRange write.Size e = absurd (let z : ◌≡◌ {A = ℕ} 19 10 = cc in omega arith)
integer_write_is write.OutOfRange write.Unsupported e = absurd (let z : ◌≡◌ {A = ℕ} 19 17 = cc in omega arith)
integer_write_is write.Size write.Done e = absurd (let z : ◌≡◌ {A = ℕ} 10 0 = cc in omega arith)
integer_write_is write.Size write.OutOfRange e = absurd (let z : ◌≡◌ {A = ℕ} 10 19 = cc in omega arith)
integer_write_is write.Size write.Size e = refl
integer_write_is write.Size write.Unsupported e = absurd (let z : ◌≡◌ {A = ℕ} 10 17 = cc in omega arith)
integer_write_is write.Unsupported write.Done e = absurd (let z : ◌≡◌ {A = ℕ} 17 0 = cc in omega arith)
integer_write_is write.Unsupported write.OutOfRange e = absurd (let z : ◌≡◌ {A = ℕ} 17 19 = cc in omega arith)
integer_write_is write.Unsupported write.Size e = absurd (let z : ◌≡◌ {A = ℕ} 17 10 = cc in omega arith)
integer_write_is write.Unsupported write.Unsupported e = refl

-- the same answer has the same number
pub integer_write_says : (r a : IntegerWrite) → r ≡ a → integer_write_numbers r ≡ integer_write_numbers a
integer_write_says r a e = ap integer_write_numbers e
