-- Which numbers a write answers with. Assumes nothing.
use Rattle.std.specs.Prelude.{◌≡◌, Bool, true, false, cond, List, [], ◌∷◌, ℕ, eqb}
use Rattle.ser.specs.Write.{Outcome, went, refused}
use Rattle.enc_number.specs.Answer.{refusal_of}
use Rattle.enc_number.specs.Refusals as refusal
use Rattle.ser.specs.Call.{write_numbers, write_answer_of}

-- the numbers of a write's refusals
abbrev pub refusals : List ℕ
refusals =
    refusal.wrong_length ∷ refusal.wrong_sum ∷ refusal.wrong_form ∷ refusal.doubled_name ∷ refusal.wrong_root ∷ refusal.not_found ∷ refusal.chain_too_long
    ∷ refusal.wrong_size ∷ refusal.wrong_width ∷ refusal.wrong_tape ∷ refusal.wrong_type ∷ refusal.no_such_name ∷ refusal.out_of_range ∷ []

-- whether a number is among some
unfoldable pub among : ℕ → List ℕ → Bool
among n [] = false
among n (x ∷ xs) = cond (eqb n x) true (among n xs)

-- whether something was written
abbrev pub is_written : Outcome → Bool
is_written (went at bytes) = true
is_written (refused n b bytes) = false

-- the number 0 says that something was written, and a refusal has one of the numbers
pub record Numbered (o : Outcome) : Type 0 where
  pub nought : refusal_of (write_numbers (write_answer_of o)) ≡ 0 → is_written o ≡ true
  pub told : is_written o ≡ false → among (refusal_of (write_numbers (write_answer_of o))) refusals ≡ true
