-- The claim of Decides, of a controller's book in the first bytes of its buffer, as `plan_save_named` takes it. Assumes nothing.
use Rattle.std.specs.Prelude.{◌≡◌, Bool, true, ◌↔◌, List, [], ℕ, ◌≤◌, length, take}
use Rattle.resolve_walk.specs.Scratch.{scratch_fits}
use Rattle.closure.specs.Calls.{Ours}
use Rattle.closure.specs.Demand.{BlockReached}
use Rattle.closure_named.specs.Named.{NamedPremises, NamedClosed}
use Rattle.plan_save.specs.Rounds.{decided}
use Rattle.plan_named.specs.Named.{named_refusal, plan_named_of}

-- of the controller's book in the first `theirs` bytes of its buffer: the outcome is an answer, with our buffer then; it is right; and our book then
-- has the root's name and lacks nothing that a read or a write of it asks for
pub record NamedDecidesIn (controller : List ℕ) (theirs width : ℕ) (name : List ℕ) (s : Ours) (sc : List ℕ) : Type 0 where
  pub answer : Bool
  pub final : Ours
  pub is : plan_named_of (named_refusal s.buffer s.len controller theirs name sc) s.buffer s.len controller theirs width name ≡ decided answer final
  pub right : (answer ≡ true) ↔ BlockReached (take theirs controller) width name
  pub closed : NamedClosed (take theirs controller) width name final

-- the claim: the premises are those of demand 3 from nothing, of the first `theirs` bytes of the controller's buffer, which is at least as long
unfoldable pub PlanNamedDecidesIn : Type 0
PlanNamedDecidesIn = (controller : List ℕ) (theirs width : ℕ) (name : List ℕ) (s : Ours) (sc : List ℕ) → theirs ≤ length controller
    → NamedPremises (take theirs controller) width name s [] → scratch_fits sc ≡ true → NamedDecidesIn controller theirs width name s sc
