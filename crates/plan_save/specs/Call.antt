-- `plan_save`, over our book and the controller's, each in the first bytes of a buffer: refusals 1 to 5 of our book, 1 to 4 of the
-- controller's, then 6, then those of the rounds. Assumes nothing.
use Rattle.std.specs.Prelude.{◌≡◌, Bool, true, false, cond, List, [], ◌∷◌, ℕ, take, eqb}
use Rattle.enc_number.specs.Answer.{refusal_of}
use Rattle.enc_number.specs.Refusals as refusal
use Rattle.type_book_check.specs.Check.{check_book, book_numbers, check_root, root_numbers}
use Rattle.type_cache.specs.Append.{or_next}
use Rattle.resolve_walk.specs.Scratch.{scratch_fits, zeroed}
use Rattle.closure.specs.Calls.{Ours}
use Rattle.plan_adds.specs.Adds.{ours}
use Rattle.plan_save.specs.declared.Plan.{Plan}
use Rattle.plan_save.specs.declared.Plan.TheVariants as plan
use Rattle.plan_save.specs.Rounds.{Decision, decided, lacking, refused, plan_from}

-- the numbers of an answer: document 01's number, 0 where nothing is refused; then 1 or 0 for read-modify-write, or the block of 7; at last
-- the length of our book
abbrev pub plan_numbers : Plan → List ℕ
plan_numbers (plan.Yes len) = 0 ∷ 1 ∷ len ∷ []
plan_numbers (plan.No len) = 0 ∷ 0 ∷ len ∷ []
plan_numbers (plan.NotFound b len) = refusal.not_found ∷ b ∷ len ∷ []
plan_numbers (plan.Refused n len) = n ∷ len ∷ []

-- the same numbers of an outcome
unfoldable pub outcome_numbers : Decision → List ℕ
outcome_numbers (decided true s) = 0 ∷ 1 ∷ s.len ∷ []
outcome_numbers (decided false s) = 0 ∷ 0 ∷ s.len ∷ []
outcome_numbers (lacking b s) = refusal.not_found ∷ b ∷ s.len ∷ []
outcome_numbers (refused n s) = n ∷ s.len ∷ []

-- our buffer at the end
unfoldable pub outcome_ours : Decision → Ours
outcome_ours (decided t s) = s
outcome_ours (lacking b s) = s
outcome_ours (refused n s) = s

-- 1 to 5 of our book and the root, 1 to 4 of the controller's book, 6 of the scratch; 0 if there is none
unfoldable pub plan_refusal : List ℕ → ℕ → List ℕ → ℕ → ℕ → List ℕ → ℕ
plan_refusal buffer len controller theirs root sc =
    or_next (refusal_of (root_numbers (check_root buffer len root))) (or_next (refusal_of (book_numbers (check_book controller theirs))) (cond (scratch_fits sc) 0 refusal.too_few_lent))

-- the outcome: the refusal, our buffer as it was, or that of the rounds
unfoldable pub plan_of : ℕ → List ℕ → ℕ → List ℕ → ℕ → ℕ → ℕ → Decision
plan_of refusal buffer len controller theirs width root =
    cond (eqb refusal 0) (plan_from (take theirs controller) width root 18 (ours buffer len)) (refused refusal (ours buffer len))

-- what a plan promises once both books, the root and the scratch were checked: the answer, every byte of our buffer, and scratch and index,
-- which are zero at the end
pub record PlanDone (o : Decision) (sc hints : List ℕ) (r : Plan) (buffer' sc' hints' : List ℕ) : Type 0 where
  pub answer : plan_numbers r ≡ outcome_numbers o
  pub bytes : buffer' ≡ (outcome_ours o).buffer
  pub scratch : sc' ≡ zeroed sc
  pub index : hints' ≡ zeroed hints

-- what the call promises: its answer, every byte of our buffer, and scratch and index, zero at the end unless 1 to 6 left them as they were
pub record PlanIs (refusal : ℕ) (buffer : List ℕ) (len : ℕ) (controller : List ℕ) (theirs width root : ℕ) (sc hints : List ℕ) (r : Plan)
    (buffer' sc' hints' : List ℕ) : Type 0 where
  pub answer : plan_numbers r ≡ outcome_numbers (plan_of refusal buffer len controller theirs width root)
  pub bytes : buffer' ≡ (outcome_ours (plan_of refusal buffer len controller theirs width root)).buffer
  pub scratch : sc' ≡ cond (eqb refusal 0) (zeroed sc) sc
  pub index : hints' ≡ cond (eqb refusal 0) (zeroed hints) hints
