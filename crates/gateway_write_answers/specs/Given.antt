-- Which numbers a write answers with, for a root however it is given, by its number or by its name (change request 5: 23). Assumes nothing.
use Rattle.std.specs.Prelude.{◌≡◌, true, false, List, [], ◌∷◌, ◌++◌, ℕ}
use Rattle.ser.specs.Write.{Outcome}
use Rattle.enc_number.specs.Answer.{refusal_of}
use Rattle.enc_number.specs.Refusals as refusal
use Rattle.ser.specs.Call.{write_numbers, write_answer_of}
use Rattle.gateway_write_answers.specs.Answers.{refusals, among, is_written}

-- the numbers of a write's refusals, for a root by its number or by its name
abbrev pub given_refusals : List ℕ
given_refusals = refusals ++ (refusal.wrong_root_name ∷ [])

-- the number 0 says that something was written, and a refusal has one of the numbers
pub record GivenNumbered (o : Outcome) : Type 0 where
  pub nought : refusal_of (write_numbers (write_answer_of o)) ≡ 0 → is_written o ≡ true
  pub told : is_written o ≡ false → among (refusal_of (write_numbers (write_answer_of o))) given_refusals ≡ true
