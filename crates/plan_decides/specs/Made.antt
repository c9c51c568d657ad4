-- The list of asks and adds that a plan makes, in the words of demand 3. Assumes nothing.
use Rattle.std.specs.Prelude.{◌≡◌, Bool, true, List, ◌++◌, ℕ}
use Rattle.type_book_check.specs.declared.BookCheck.TheVariants.{Valid}
use Rattle.type_book_check.specs.Check.{check_book}
use Rattle.type_index.specs.Index.{index_fits}
use Rattle.resolve_walk.specs.Scratch.{scratch_fits, list_fits}
use Rattle.closure.specs.Calls.{Ours, book_of, Call, after_calls, Each}
use Rattle.closure.specs.Demand.{Lent, ListedNone}
use Rattle.plan_save.specs.Rounds.{Decision, decided, plan_from}
use Rattle.plan_save.specs.Call.{outcome_ours}

-- an outcome is what a list of calls left: each is an ask with index, scratch and list long enough or an add of the controller's, our buffer
-- is what they made of it, and an ask of the list listed none where read-modify-write was decided
pub record Made (c : List ℕ) (width root : ℕ) (s : Ours) (o : Decision) : Type 0 where
  pub items : List Call
  pub given : Each c (Lent c) s items
  pub left : after_calls c items s ≡ outcome_ours o
  pub none : (t : Bool) (z : Ours) → o ≡ decided t z → ListedNone c width root s items

-- the claim: whatever the books hold, the rounds are such a list. ix, sc and list are what is lent to the asks
unfoldable pub PlanMade : Type 0
PlanMade = (c : List ℕ) (width root k : ℕ) (s : Ours) (ix sc list : List ℕ) → index_fits ix ≡ true → scratch_fits sc ≡ true → list_fits list ≡ true
    → Made c width root s (plan_from c width root k s)

-- our book is valid, and is the old one with whole definitions after it, or the old one: each call of a list left it so
pub record Extends (s z : Ours) : Type 0 where
  pub valid : check_book z.buffer z.len ≡ Valid
  pub more : List ℕ
  pub grows : book_of z ≡ book_of s ++ more

-- the claim: in every outcome, a refusal too, a valid book of ours stays one, whatever the controller's book holds
unfoldable pub PlanKeeps : Type 0
PlanKeeps = (c : List ℕ) (width root k : ℕ) (s : Ours) → check_book s.buffer s.len ≡ Valid → Extends s (outcome_ours (plan_from c width root k s))
