-- What a read answers and leaves in its two buffers, by its trace (document 01: deserializer.rs, "Refusal table"). Assumes nothing.
use Rattle.std.specs.Prelude.{◌≡◌, cond, List, [], ◌∷◌, ℕ, ◌/◌, length, replicate, eqb}
use Rattle.enc_number.specs.Refusals as refusal
use Rattle.enc_utf_8.specs.Buffer.{splice}
use Rattle.de_output.specs.declared.Step.{Step}
use Rattle.de_output.specs.declared.Step.TheVariants.{Next, Stop}
use Rattle.de_output.specs.declared.ReadAnswer.{ReadAnswer}
use Rattle.de_output.specs.declared.ReadAnswer.TheVariants.{Done, NotFound, Refused}
use Rattle.de_output.specs.Trace.{Trace, tape_bytes, text_bytes, events_of, step_of}

-- document 01's number and values of an answer: 0 and the numbers of records and of text bytes, 7 and the block whose type name is not found,
-- or another refusal
unfoldable pub read_numbers : ReadAnswer → List ℕ
read_numbers (Done n m) = 0 ∷ n ∷ m ∷ []
read_numbers (NotFound b) = refusal.not_found ∷ b ∷ []
read_numbers (Refused n) = n ∷ []

-- a refusal as an answer: 7 carries its block
abbrev pub read_refusal : ℕ → ℕ → ReadAnswer
read_refusal n b = cond (eqb n refusal.not_found) (NotFound b) (Refused n)

-- the number of records and of text bytes, or the refusal
abbrev pub read_answer_of : Step → ReadAnswer
read_answer_of (Next n m) = Done (n / 24) m
read_answer_of (Stop n b) = read_refusal n b

-- a buffer after the call: what was emitted over what it held, or zeros after a refusal
abbrev pub buffer_after : Step → List ℕ → List ℕ → List ℕ
buffer_after (Next n m) bytes buffer = splice buffer 0 bytes
buffer_after (Stop n b) bytes buffer = replicate (length buffer) 0

-- 15 if what the trace emits does not fit, else its end
pub record ReadIs (t : Trace) (tape txt : List ℕ) (r : ReadAnswer) (tape' txt' : List ℕ) : Type 0 where
  pub answer : read_numbers r ≡ read_numbers (read_answer_of (step_of t (length tape) (length txt) 0 0))
  pub tape-is : tape' ≡ buffer_after (step_of t (length tape) (length txt) 0 0) (tape_bytes 0 (events_of t)) tape
  pub text-is : txt' ≡ buffer_after (step_of t (length tape) (length txt) 0 0) (text_bytes (events_of t)) txt

-- a buffer after the last step: as it is, or zeros after a refusal
abbrev pub ended_buffer : Step → List ℕ → List ℕ
ended_buffer (Next n m) buffer = buffer
ended_buffer (Stop n b) buffer = replicate (length buffer) 0

-- what is left to do after the last step: the answer, and zeros after a refusal; and what that is in each case
pub record Finished (s : Step) (tape txt : List ℕ) (r : ReadAnswer) (tape' txt' : List ℕ) : Type 0 where
  pub answer : read_numbers r ≡ read_numbers (read_answer_of s)
  pub tape-is : tape' ≡ ended_buffer s tape
  pub text-is : txt' ≡ ended_buffer s txt
  pub on : (n m : ℕ) → s ≡ Next n m → (tape' ≡ tape) × (txt' ≡ txt)
  pub off : (n b : ℕ) → s ≡ Stop n b → (tape' ≡ replicate (length tape) 0) × (txt' ≡ replicate (length txt) 0)
