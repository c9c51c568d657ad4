-- The numbers of a real, and of what a read and a write answer, tell it. Assumes nothing.
use mathlib.Core.Path.{◌≡◌, refl, sym, ap, ◌∙◌}
use mathlib.Core.Bool.{true, false, cond}
use mathlib.Core.List.{List, [], ◌∷◌}
use Prim.Native.Nat.{ℕ}
use native.Mathlib.Omega.{arith}
use lib.Dec.{eqb}
use lib.IntN.{pos, negsuc}
use lib.Ieee.{Float, nan, inf, fin, binary32, binary64, to_bits}
use Rattle.enc_number.specs.Answer.{refusal_of}
use Rattle.enc_float.specs.declared.Real.{Real}
use Rattle.enc_float.specs.declared.Real.TheVariants.{Single, Double, NanSingle, NanDouble}
use Rattle.enc_float.specs.declared.RealRead.{RealRead}
use Rattle.enc_float.specs.declared.RealRead.TheVariants as read
use Rattle.enc_float.specs.declared.RealWrite.{RealWrite}
use Rattle.enc_float.specs.declared.RealWrite.TheVariants as write
use Rattle.enc_float.specs.Float.{float_numbers, real_numbers, real_read_numbers, real_write_numbers}

-- the float of some parts
float_from : List ℕ → Float
float_from [] = nan
float_from (k ∷ []) = nan
float_from (k ∷ s ∷ []) = inf (eqb s 1)
float_from (k ∷ s ∷ m ∷ []) = nan
float_from (k ∷ s ∷ m ∷ e ∷ more) = fin (eqb s 1) m (cond (eqb k 2) (pos e) (negsuc e))

-- the real of some numbers
pub real_from : List ℕ → Real
real_from [] = NanSingle 0
real_from (k ∷ []) = NanSingle 0
real_from (k ∷ n ∷ []) = cond (eqb k 9) (NanSingle n) (NanDouble n)
real_from (k ∷ n ∷ part ∷ parts) = cond (eqb k 9) (Single (float_from (part ∷ parts))) (Double (float_from (part ∷ parts)))

-- a real's numbers give it back
pub real_from_lem : (v : Real) → real_from (real_numbers v) ≡ v
unfolding float_from real_from real_numbers float_numbers
real_from_lem (Single nan) = refl
real_from_lem (Single (inf true)) = refl
real_from_lem (Single (inf false)) = refl
real_from_lem (Single (fin true m (pos k))) = refl
real_from_lem (Single (fin false m (pos k))) = refl
real_from_lem (Single (fin true m (negsuc k))) = refl
real_from_lem (Single (fin false m (negsuc k))) = refl
real_from_lem (Double nan) = refl
real_from_lem (Double (inf true)) = refl
real_from_lem (Double (inf false)) = refl
real_from_lem (Double (fin true m (pos k))) = refl
real_from_lem (Double (fin false m (pos k))) = refl
real_from_lem (Double (fin true m (negsuc k))) = refl
real_from_lem (Double (fin false m (negsuc k))) = refl
real_from_lem (NanSingle n) = refl
real_from_lem (NanDouble n) = refl

-- reals of the same numbers are the same
pub real_is : (v u : Real) → real_numbers v ≡ real_numbers u → v ≡ u
real_is v u e = sym (real_from_lem v) ∙ ap real_from e ∙ real_from_lem u

-- the numbers of each kind of real
pub single-numbers : (x : Float) → real_numbers (Single x) ≡ 9 ∷ to_bits binary32 x ∷ float_numbers x
unfolding real_numbers
single-numbers x = refl

pub double-numbers : (x : Float) → real_numbers (Double x) ≡ 10 ∷ to_bits binary64 x ∷ float_numbers x
unfolding real_numbers
double-numbers x = refl

pub nan-single-numbers : (n : ℕ) → real_numbers (NanSingle n) ≡ 9 ∷ n ∷ []
unfolding real_numbers
nan-single-numbers n = refl

pub nan-double-numbers : (n : ℕ) → real_numbers (NanDouble n) ≡ 10 ∷ n ∷ []
unfolding real_numbers
nan-double-numbers n = refl

-- the number of a read's refusal of a size
pub real_size-number : refusal_of (real_read_numbers read.Size) ≡ 10
unfolding real_read_numbers
real_size-number = refl

-- reads' answers of the same numbers are the same
pub real_read_is : (r a : RealRead) → real_read_numbers r ≡ real_read_numbers a → r ≡ a
unfolding real_read_numbers
real_read_is (read.Value v) (read.Value u) e = let q : real_numbers v ≡ real_numbers u = cc in ap read.Value (real_is v u q)
real_read_is (read.Value v) read.Size e = absurd (let z : ◌≡◌ {A = ℕ} 0 10 = cc in omega arith)
real_read_is (read.Value v) read.Unsupported e = absurd (let z : ◌≡◌ {A = ℕ} 0 11 = cc in omega arith)
real_read_is read.Size (read.Value u) e = absurd (let z : ◌≡◌ {A = ℕ} 10 0 = cc in omega arith)
real_read_is read.Size read.Size e = refl
real_read_is read.Size read.Unsupported e = absurd (let z : ◌≡◌ {A = ℕ} 10 11 = cc in omega arith)
real_read_is read.Unsupported (read.Value u) e = absurd (let z : ◌≡◌ {A = ℕ} 11 0 = cc in omega arith)
real_read_is read.Unsupported read.Size e = absurd (let z : ◌≡◌ {A = ℕ} 11 10 = cc in omega arith)
real_read_is read.Unsupported read.Unsupported e = refl

-- the same answer has the same numbers
pub real_read_says : (r a : RealRead) → r ≡ a → real_read_numbers r ≡ real_read_numbers a
real_read_says r a e = ap real_read_numbers e

-- writes' answers of the same number are the same
pub real_write_is : (r a : RealWrite) → real_write_numbers r ≡ real_write_numbers a → r ≡ a
unfolding real_write_numbers
real_write_is write.Done write.Done e = refl
real_write_is write.Done write.Size e = absurd (let z : ◌≡◌ {A = ℕ} 0 10 = cc in omega arith)
real_write_is write.Size write.Done e = absurd (let z : ◌≡◌ {A = ℕ} 10 0 = cc in omega arith)
real_write_is write.Size write.Size e = refl

-- the same answer has the same number
pub real_write_says : (r a : RealWrite) → r ≡ a → real_write_numbers r ≡ real_write_numbers a
real_write_says r a e = ap real_write_numbers e
