-- The number of a truth tells it. Assumes nothing.
use mathlib.Core.Path.{◌≡◌, refl}
use mathlib.Core.Bool.{Bool, true, false}
use native.Mathlib.Omega.{arith}
use Rattle.enc_number.specs.Answer.{truth_number}

-- truths of the same number are the same
pub truth_is : (a b : Bool) → truth_number a ≡ truth_number b → a ≡ b
truth_is true true e = refl
truth_is true false e = absurd (omega arith)
truth_is false true e = absurd (omega arith)
truth_is false false e = refl
