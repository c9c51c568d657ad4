-- A root that stands for a block: each call for it promises what the call by that block's number does, so what demand 3 claims of the number holds of the root, and
-- the other way round. Assumes nothing.
use mathlib.Core.Path.{◌≡◌, sym, ◌∙◌, subst}
use mathlib.Core.List.{List}
use Prim.Native.Nat.{ℕ}
use lib.ListN.{length}
use Rattle.type_book_check.specs.declared.RootCheck.TheVariants.{Root}
use Rattle.type_book_check.specs.declared.GivenRoot.TheVariants.{Block}
use Rattle.type_book_check.specs.Check.{check_root, at_root}
use Rattle.type_book_check.specs.Given.{Given, number, check_given, at_given}
use Rattle.type_book_check.proofs.Givens.{at-number}
use Rattle.resolve_missing_types.specs.declared.Missing.{Missing}
use Rattle.resolve_missing_types.specs.Calls.{missing_call, MissingIs}
use Rattle.resolve_missing_types.specs.Given.{given_missing, GivenMissingIs}
use Rattle.resolve_missing_types.proofs.Numbers.{missing_says}
use Rattle.resolve_read_modify_write.specs.declared.Rmw.{Rmw}
use Rattle.resolve_read_modify_write.specs.Calls.{rmw_call, RmwIs}
use Rattle.resolve_read_modify_write.specs.Given.{given_rmw, GivenRmwIs}
use Rattle.resolve_read_modify_write.proofs.Numbers.{rmw_says}
use Rattle.de_output.proofs.Answers.{read_as}
use Rattle.de.specs.Read.{read_trace, given_trace}
use Rattle.ser.specs.declared.WriteAnswer.{WriteAnswer}
use Rattle.ser.specs.Write.{Outcome}
use Rattle.ser.specs.Call.{write_call, given_write, WriteIs}
use Rattle.closure.specs.Calls.{Ours}
use Rattle.closure.specs.Demand.{Closed}
use Rattle.closure_named.specs.ByName.{GivenClosed}

-- what a call answers to a root, whatever the call, is what it answers to the number t
abbrev pub StandsFor : List ℕ → ℕ → Given → ℕ → Type 1
StandsFor buffer len root t = (A : Type 0) (refuse : ℕ → A) (lacking : A) (go : ℕ → A)
    → at_given refuse lacking go (check_given buffer len root) ≡ at_root refuse go (check_root buffer len t)

-- a root by its number, whether it is a type block's or not
pub number_stands : (buffer : List ℕ) (len n : ℕ) → StandsFor buffer len (number n) n
number_stands buffer len n A refuse lacking go = at-number refuse lacking go buffer len n

-- a root, a name as well, that the check takes for a block
pub block_stands : (buffer : List ℕ) (len : ℕ) (root : Given) (t : ℕ) → check_given buffer len root ≡ Block t → check_root buffer len t ≡ Root t → StandsFor buffer len root t
unfolding at_given at_root
block_stands buffer len root t g k A refuse lacking go = rw (g, k)

-- ---- each call

module _ (buffer : List ℕ) (len : ℕ) (root : Given) (t : ℕ) (stands : StandsFor buffer len root t) (width : ℕ) where
  pub missing_by : (ix sc ls : List ℕ) (r : Missing) (sc' ls' : List ℕ) → GivenMissingIs buffer len ix width root sc ls r sc' ls' → MissingIs buffer len ix width t sc ls r sc' ls'
  unfolding given_missing missing_call
  missing_by ix sc ls r sc' ls' q =
      record { answer = q.answer ∙ missing_says _ _ (stands _ _ _ _); scratch = q.scratch ∙ stands _ _ _ _; blocks = q.blocks ∙ stands _ _ _ _ }

  pub missing_given : (ix sc ls : List ℕ) (r : Missing) (sc' ls' : List ℕ) → MissingIs buffer len ix width t sc ls r sc' ls' → GivenMissingIs buffer len ix width root sc ls r sc' ls'
  unfolding given_missing missing_call
  missing_given ix sc ls r sc' ls' q =
      record { answer = q.answer ∙ missing_says _ _ (sym (stands _ _ _ _)); scratch = q.scratch ∙ sym (stands _ _ _ _); blocks = q.blocks ∙ sym (stands _ _ _ _) }

  rmw_by : (ix sc : List ℕ) (r : Rmw) (sc' : List ℕ) → GivenRmwIs buffer len ix width root sc r sc' → RmwIs buffer len ix width t sc r sc'
  unfolding given_rmw rmw_call
  rmw_by ix sc r sc' q = record { answer = q.answer ∙ rmw_says _ _ (stands _ _ _ _); scratch = q.scratch ∙ stands _ _ _ _ }

  rmw_given : (ix sc : List ℕ) (r : Rmw) (sc' : List ℕ) → RmwIs buffer len ix width t sc r sc' → GivenRmwIs buffer len ix width root sc r sc'
  unfolding given_rmw rmw_call
  rmw_given ix sc r sc' q = record { answer = q.answer ∙ rmw_says _ _ (sym (stands _ _ _ _)); scratch = q.scratch ∙ sym (stands _ _ _ _) }

  trace_by : (memory : List ℕ) → given_trace buffer len width root memory ≡ read_trace buffer len width t memory
  unfolding given_trace read_trace
  trace_by memory = stands _ _ _ _

  write_by : (image : List ℕ) (room : ℕ) (tape text : List ℕ) → given_write buffer len width root image room tape text ≡ write_call buffer len width t image room tape text
  unfolding given_write write_call
  write_by image room tape text = stands _ _ _ _

write_as : {o o' : Outcome} {image output output' : List ℕ} {r : WriteAnswer} → o ≡ o' → WriteIs o image output r output' → WriteIs o' image output r output'
write_as {o} {o'} {image} {output} {output'} {r} e h = subst (λ (z : Outcome). WriteIs z image output r output') e h

-- ---- after an ask that lists none

module _ (c : List ℕ) (width : ℕ) (root : Given) (t : ℕ) (name : List ℕ) (s : Ours) (stands : StandsFor s.buffer s.len root t) where
  pub closed_given : Closed c width t name s → GivenClosed c width root name s
  closed_given q =
      record {
        keeps = λ ix sc i p r sc' m. q.keeps ix sc i p r sc' (rmw_by s.buffer s.len root t stands width ix sc r sc' m);
        decides = λ ix sc i p r sc' m. q.decides ix sc i p r sc' (rmw_by s.buffer s.len root t stands width ix sc r sc' m);
        reads = λ memory tape text r tape' text' m.
            q.reads memory tape text r tape' text' (read_as (sym (trace_by s.buffer s.len root t stands width memory)) m);
        writes = λ image tape text output r output' m.
            q.writes image tape text output r output' (write_as (write_by s.buffer s.len root t stands width image (length output) tape text) m);
      }

  pub given_closed : GivenClosed c width root name s → Closed c width t name s
  given_closed q =
      record {
        keeps = λ ix sc i p r sc' m. q.keeps ix sc i p r sc' (rmw_given s.buffer s.len root t stands width ix sc r sc' m);
        decides = λ ix sc i p r sc' m. q.decides ix sc i p r sc' (rmw_given s.buffer s.len root t stands width ix sc r sc' m);
        reads = λ memory tape text r tape' text' m.
            q.reads memory tape text r tape' text' (read_as (trace_by s.buffer s.len root t stands width memory) m);
        writes = λ image tape text output r output' m.
            q.writes image tape text output r output' (write_as (sym (write_by s.buffer s.len root t stands width image (length output) tape text)) m);
      }

-- the claim of a number is the instance
pub closed_by_number : (c : List ℕ) (width n : ℕ) (name : List ℕ) (s : Ours) → GivenClosed c width (number n) name s → Closed c width n name s
closed_by_number c width n name s = given_closed c width (number n) n name s (number_stands s.buffer s.len n)
