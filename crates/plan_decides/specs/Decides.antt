-- Demand 3 of the call that makes the list itself: on the demand's premises `plan_save` is not refused, and answers "yes" exactly when a
-- reached name resolves to a function block. Assumes nothing.
use Rattle.std.specs.Prelude.{◌≡◌, Bool, true, ◌↔◌, List, [], ℕ, length}
use Rattle.resolve_walk.specs.Scratch.{scratch_fits}
use Rattle.closure.specs.Calls.{Ours}
use Rattle.closure.specs.Demand.{root_name, Premises, BlockReached, Closed}
use Rattle.plan_save.specs.Rounds.{decided}
use Rattle.plan_save.specs.Call.{plan_refusal, plan_of}

-- the outcome is an answer, with our buffer then; it is right; and our book then lacks nothing that a read or a write of the root asks for
pub record Decides (c : List ℕ) (width root : ℕ) (s : Ours) (sc : List ℕ) : Type 0 where
  pub answer : Bool
  pub final : Ours
  pub is : plan_of (plan_refusal s.buffer s.len c (length c) root sc) s.buffer s.len c (length c) width root ≡ decided answer final
  pub right : (answer ≡ true) ↔ BlockReached c width (root_name root s)
  pub closed : Closed c width root (root_name root s) final

-- the claim: the premises are the demand's own. That our definitions equal the controller's is one of them; no call tests it
unfoldable pub PlanDecides : Type 0
PlanDecides = (c : List ℕ) (width root : ℕ) (s : Ours) (sc : List ℕ) → Premises c width root s [] → scratch_fits sc ≡ true → Decides c width root s sc
