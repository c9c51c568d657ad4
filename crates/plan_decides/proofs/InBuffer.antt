-- The claim of a controller's book in the first bytes of its buffer, from that of the book as a list of its own. Assumes nothing.
use mathlib.Core.Path.{◌≡◌, ap, ◌∙◌}
use mathlib.Core.List.{List}
use Prim.Native.Nat.{ℕ, ◌≤◌}
use lib.ListN.{length, take}
use lib.Seq.{take-length}
use Rattle.type_book_check.specs.Check.{ValidBook}
use Rattle.type_book_check.proofs.Valid.{valid_in}
use Rattle.closure.specs.Calls.{Ours}
use Rattle.plan_save.specs.Call.{plan_refusal, plan_of}
use Rattle.plan_decides.specs.Decides.{Decides, PlanDecides}
use Rattle.plan_decides.specs.InBuffer.{PlanDecidesIn}
use Rattle.plan_decides.proofs.Answers.{plan-decides}

module _ (controller : List ℕ) (theirs width root : ℕ) (s : Ours) (sc : List ℕ) where
  abbrev c : List ℕ
  c = take theirs controller

  refused_same : theirs ≤ length controller → ValidBook c → plan_refusal s.buffer s.len controller theirs root sc ≡ plan_refusal s.buffer s.len c (length c) root sc
  unfolding plan_refusal
  refused_same l v = rw (valid_in controller theirs l v, v)

  plan_same : (n : ℕ) → plan_of n s.buffer s.len controller theirs width root ≡ plan_of n s.buffer s.len c (length c) width root
  unfolding plan_of
  plan_same n = rw (take-length c)

pub plan_decides_in : PlanDecidesIn
unfolding PlanDecidesIn PlanDecides
plan_decides_in controller theirs width root s sc l p h =
    let c : List ℕ = take theirs controller in
    let d : Decides c width root s sc = plan-decides c width root s sc p h in
    record {
      answer = d.answer;
      final = d.final;
      is = ap (λ (n : ℕ). plan_of n s.buffer s.len controller theirs width root) (refused_same controller theirs width root s sc l p.theirs-valid)
          ∙ plan_same controller theirs width root s sc _ ∙ d.is;
      right = d.right;
      closed = d.closed;
    }
