-- `plan_save_named`: the plan of a save of a root that is given by its name, over our book, which may lack that name as the book of no bytes does
-- (change request 5), and the controller's. Refusals 1 to 4 of our book, 23 of the name, 1 to 4 of the controller's book, 6 of the scratch, then
-- those of the asks and adds. Assumes nothing.
use Rattle.std.specs.Prelude.{◌≡◌, cond, List, ℕ, take, eqb, Option, Some, None}
use Rattle.enc_number.specs.Answer.{refusal_of}
use Rattle.enc_number.specs.Refusals as refusal
use Rattle.type_book.specs.Book.{blocks}
use Rattle.type_provider.specs.Find.{find}
use Rattle.type_book_check.specs.Check.{check_book, book_numbers}
use Rattle.type_book_check.specs.Given.{lacking_root, check_given, at_given}
use Rattle.type_book_check.specs.Given as given
use Rattle.type_cache.specs.Append.{or_next}
use Rattle.resolve_walk.specs.Scratch.{scratch_fits, zeroed}
use Rattle.closure.specs.Calls.{Ours, book_of}
use Rattle.plan_adds.specs.Adds.{ours, fetch_by}
use Rattle.plan_save.specs.declared.Plan.{Plan}
use Rattle.plan_save.specs.Rounds.{Decision, refused, next_round, plan_from}
use Rattle.plan_save.specs.Call.{plan_numbers, outcome_numbers, outcome_ours}

-- the asks and adds, by whether our book has the root's name. It has it at block t: the rounds for t. It lacks it: the first add is the root's own
-- definition from the controller's book, and the rounds are those for the block that it becomes, the first after ours; 7 with the number of a
-- lacking root where neither book has the name, 15 where the definition has no room
unfoldable pub plan_by_name : List ℕ → ℕ → List ℕ → Ours → Option ℕ → Decision
plan_by_name c width name s (Some t) = plan_from c width t 18 s
plan_by_name c width name s None = next_round (plan_from c width (blocks (book_of s)) 18) (fetch_by c lacking_root s (find c name))

-- 1 to 4 of our book and 23 of the name, 1 to 4 of the controller's book, 6 of the scratch; 0 if there is none
unfoldable pub named_refusal : List ℕ → ℕ → List ℕ → ℕ → List ℕ → List ℕ → ℕ
named_refusal buffer len controller theirs name sc =
    or_next (at_given (λ n. n) 0 (λ t. 0) (check_given buffer len (given.name name)))
    (or_next (refusal_of (book_numbers (check_book controller theirs))) (cond (scratch_fits sc) 0 refusal.too_few_lent))

-- the outcome: the refusal, our buffer as it was, or that of the asks and adds
unfoldable pub plan_named_of : ℕ → List ℕ → ℕ → List ℕ → ℕ → ℕ → List ℕ → Decision
plan_named_of refusal buffer len controller theirs width name =
    cond (eqb refusal 0) (plan_by_name (take theirs controller) width name (ours buffer len) (find (take len buffer) name)) (refused refusal (ours buffer len))

-- what the call promises: its answer, every byte of our buffer, and scratch and index, zero at the end unless 1 to 6 or 23 left them as they were
pub record PlanNamedIs (refusal : ℕ) (buffer : List ℕ) (len : ℕ) (controller : List ℕ) (theirs width : ℕ) (name sc hints : List ℕ) (r : Plan)
    (buffer' sc' hints' : List ℕ) : Type 0 where
  pub answer : plan_numbers r ≡ outcome_numbers (plan_named_of refusal buffer len controller theirs width name)
  pub bytes : buffer' ≡ (outcome_ours (plan_named_of refusal buffer len controller theirs width name)).buffer
  pub scratch : sc' ≡ cond (eqb refusal 0) (zeroed sc) sc
  pub index : hints' ≡ cond (eqb refusal 0) (zeroed hints) hints
