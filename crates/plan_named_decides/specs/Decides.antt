-- Demand 3 from nothing of the call that makes the list itself: on its premises, which let our book lack the root, `plan_save_named` is not refused,
-- and answers "yes" exactly when a reached name resolves to a function block. Assumes nothing.
use Rattle.std.specs.Prelude.{◌≡◌, Bool, true, ◌↔◌, List, [], ℕ, length, Option}
use Rattle.type_book_check.specs.declared.BookCheck.TheVariants.{Valid}
use Rattle.type_book_check.specs.Check.{check_book}
use Rattle.resolve_walk.specs.Scratch.{scratch_fits}
use Rattle.closure.specs.Calls.{Ours}
use Rattle.closure.specs.Demand.{BlockReached}
use Rattle.closure_named.specs.Named.{NamedPremises, NamedClosed}
use Rattle.plan_save.specs.Rounds.{decided}
use Rattle.plan_save.specs.Call.{outcome_ours}
use Rattle.plan_decides.specs.Made.{Extends}
use Rattle.plan_named.specs.Named.{plan_by_name, named_refusal, plan_named_of}

-- the outcome is an answer, with our buffer then; it is right; and our book then has the root's name and lacks nothing that a read or a write of it
-- asks for
pub record NamedDecides (c : List ℕ) (width : ℕ) (name : List ℕ) (s : Ours) (sc : List ℕ) : Type 0 where
  pub answer : Bool
  pub final : Ours
  pub is : plan_named_of (named_refusal s.buffer s.len c (length c) name sc) s.buffer s.len c (length c) width name ≡ decided answer final
  pub right : (answer ≡ true) ↔ BlockReached c width name
  pub closed : NamedClosed c width name final

-- the claim: the premises are those of demand 3 from nothing
unfoldable pub PlanNamedDecides : Type 0
PlanNamedDecides = (c : List ℕ) (width : ℕ) (name : List ℕ) (s : Ours) (sc : List ℕ) → NamedPremises c width name s [] → scratch_fits sc ≡ true
    → NamedDecides c width name s sc

-- the claim: in every outcome, a refusal too, a valid book of ours stays one, and is the old one, or the old one with whole definitions after it;
-- whatever the controller's book holds, and whether ours has the root's name or not
unfoldable pub PlanNamedKeeps : Type 0
PlanNamedKeeps = (c : List ℕ) (width : ℕ) (name : List ℕ) (s : Ours) (f : Option ℕ) → check_book s.buffer s.len ≡ Valid
    → Extends s (outcome_ours (plan_by_name c width name s f))
