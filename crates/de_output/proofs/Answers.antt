-- What a read answers, from its last step. Assumes nothing.
use mathlib.Core.Path.{◌≡◌, refl, ap, ◌∙◌}
use mathlib.Core.List.{List}
use Prim.Native.Nat.{ℕ}
use lib.ListN.{length, replicate}
use Rattle.de_output.specs.declared.Step.{Step}
use Rattle.de_output.specs.declared.Step.TheVariants.{Next, Stop}
use Rattle.de_output.specs.declared.ReadAnswer.{ReadAnswer}
use Rattle.de_output.specs.Trace.{Trace, tape_bytes, text_bytes, events_of, refuse, step_of, Ran}
use Rattle.de_output.specs.Answer.{read_numbers, read_answer_of, buffer_after, ReadIs, Finished}
use Rattle.de_output.proofs.Runs.{refused, went}

module _ (t : Trace) (tape txt tape₁ txt₁ : List ℕ) (s : Step) (h : Ran t tape txt 0 0 s tape₁ txt₁) (same : length tape₁ ≡ length tape) (same_text : length txt₁ ≡ length txt)
    {r : ReadAnswer} {tape₂ txt₂ : List ℕ} (f : Finished s tape₁ txt₁ r tape₂ txt₂) where
  tape-by : (z : Step) → s ≡ z → tape₂ ≡ buffer_after z (tape_bytes 0 (events_of t)) tape
  tape-by (Next n m) e = (f.on n m e).0 ∙ (went (rw e at h)).wrote
  tape-by (Stop n b) e = (f.off n b e).0 ∙ ap (λ (k : ℕ). replicate k 0) same

  text-by : (z : Step) → s ≡ z → txt₂ ≡ buffer_after z (text_bytes (events_of t)) txt
  text-by (Next n m) e = (f.on n m e).1 ∙ (went (rw e at h)).told
  text-by (Stop n b) e = (f.off n b e).1 ∙ ap (λ (k : ℕ). replicate k 0) same_text

  pub read_by : ReadIs t tape txt r tape₂ txt₂
  read_by = record {
    answer = f.answer ∙ ap (λ (z : Step). read_numbers (read_answer_of z)) h.answer;
    tape-is = tape-by (step_of t (length tape) (length txt) 0 0) h.answer;
    text-is = text-by (step_of t (length tape) (length txt) 0 0) h.answer;
  }

-- a refusal before anything was emitted
pub read_refused : (n b : ℕ) {tape txt tape₂ txt₂ : List ℕ} {r : ReadAnswer} → Finished (Stop n b) tape txt r tape₂ txt₂ → ReadIs (refuse n b) tape txt r tape₂ txt₂
read_refused n b {tape} {txt} f = read_by (refuse n b) tape txt tape txt (Stop n b) (refused n b) refl refl f

pub read_as : {t t' : Trace} {tape txt tape₂ txt₂ : List ℕ} {r : ReadAnswer} → t ≡ t' → ReadIs t' tape txt r tape₂ txt₂ → ReadIs t tape txt r tape₂ txt₂
read_as e h = rw e h
