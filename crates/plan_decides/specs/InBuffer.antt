-- The claim of Decides, of a controller's book in the first bytes of its buffer, as `plan_save` takes it. Assumes nothing.
use Rattle.std.specs.Prelude.{◌≡◌, Bool, true, ◌↔◌, List, [], ℕ, ◌≤◌, length, take}
use Rattle.resolve_walk.specs.Scratch.{scratch_fits}
use Rattle.closure.specs.Calls.{Ours}
use Rattle.closure.specs.Demand.{root_name, Premises, BlockReached, Closed}
use Rattle.plan_save.specs.Rounds.{decided}
use Rattle.plan_save.specs.Call.{plan_refusal, plan_of}

-- of the controller's book in the first `theirs` bytes of its buffer: the outcome is an answer, with our buffer then; it is right; and our book then
-- lacks nothing that a read or a write of the root asks for
pub record DecidesIn (controller : List ℕ) (theirs width root : ℕ) (s : Ours) (sc : List ℕ) : Type 0 where
  pub answer : Bool
  pub final : Ours
  pub is : plan_of (plan_refusal s.buffer s.len controller theirs root sc) s.buffer s.len controller theirs width root ≡ decided answer final
  pub right : (answer ≡ true) ↔ BlockReached (take theirs controller) width (root_name root s)
  pub closed : Closed (take theirs controller) width root (root_name root s) final

-- the claim: the premises are the demand's own, of the first `theirs` bytes of the controller's buffer, which is at least as long
unfoldable pub PlanDecidesIn : Type 0
PlanDecidesIn = (controller : List ℕ) (theirs width root : ℕ) (s : Ours) (sc : List ℕ) → theirs ≤ length controller
    → Premises (take theirs controller) width root s [] → scratch_fits sc ≡ true → DecidesIn controller theirs width root s sc
