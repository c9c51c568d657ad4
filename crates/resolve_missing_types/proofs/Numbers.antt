-- The numbers of what `missing_types` answers tell it. Assumes nothing.
use mathlib.Core.Path.{◌≡◌, refl, ap}
use mathlib.Core.Bool.{true}
use mathlib.Core.List.{List}
use Prim.Native.Nat.{ℕ}
use native.Mathlib.Omega.{arith}
use lib.ListN.{length}
use Rattle.enc_number.specs.Answer.{refusal_of, truth_number}
use Rattle.enc_number.proofs.Truths.{truth_is}
use Rattle.resolve_missing_types.specs.declared.Missing.{Missing}
use Rattle.resolve_missing_types.specs.declared.Missing.TheVariants as missing
use Rattle.resolve_missing_types.specs.Calls.{missing_numbers, missing_answer}

-- answers of the same numbers are the same
pub missing_is : (r a : Missing) → missing_numbers r ≡ missing_numbers a → r ≡ a
unfolding missing_numbers
missing_is (missing.Listed n w c) (missing.Listed m v d) e =
    let p : n ≡ m = cc in let q : truth_number w ≡ truth_number v = cc in let o : c ≡ d = cc in rw (p, truth_is w v q, o)
missing_is (missing.Listed n w c) (missing.Refused m) e = absurd (let z : ◌≡◌ {A = ℕ} 4 1 = ap length e in omega arith)
missing_is (missing.Refused n) (missing.Listed m v d) e = absurd (let z : ◌≡◌ {A = ℕ} 1 4 = ap length e in omega arith)
missing_is (missing.Refused n) (missing.Refused m) e = let q : n ≡ m = cc in ap missing.Refused q

-- the same answer has the same numbers
pub missing_says : (r a : Missing) → r ≡ a → missing_numbers r ≡ missing_numbers a
missing_says r a e = ap missing_numbers e

-- `missing_types` is not refused after 1 to 6
pub missing_number : (book : List ℕ) (width t : ℕ) → refusal_of (missing_numbers (missing_answer true book width t)) ≡ 0
unfolding missing_answer missing_numbers
missing_number book width t = refl
