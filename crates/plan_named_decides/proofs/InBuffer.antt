-- The claim of a controller's book in the first bytes of its buffer, from that of the book as a list of its own. Assumes nothing.
use mathlib.Core.Path.{◌≡◌, ap, ◌∙◌}
use mathlib.Core.List.{List}
use Prim.Native.Nat.{ℕ, ◌≤◌}
use lib.ListN.{length, take}
use lib.Seq.{take-length}
use Rattle.type_book_check.specs.Check.{ValidBook}
use Rattle.type_book_check.proofs.Valid.{valid_in}
use Rattle.closure.specs.Calls.{Ours}
use Rattle.plan_named.specs.Named.{named_refusal, plan_named_of}
use Rattle.plan_named_decides.specs.Decides.{NamedDecides, PlanNamedDecides}
use Rattle.plan_named_decides.specs.InBuffer.{PlanNamedDecidesIn}
use Rattle.plan_named_decides.proofs.Answers.{plan-named-decides}

module _ (controller : List ℕ) (theirs width : ℕ) (name : List ℕ) (s : Ours) (sc : List ℕ) where
  abbrev c : List ℕ
  c = take theirs controller

  refused_same : theirs ≤ length controller → ValidBook c → named_refusal s.buffer s.len controller theirs name sc ≡ named_refusal s.buffer s.len c (length c) name sc
  unfolding named_refusal
  refused_same l v = rw (valid_in controller theirs l v, v)

  plan_same : (n : ℕ) → plan_named_of n s.buffer s.len controller theirs width name ≡ plan_named_of n s.buffer s.len c (length c) width name
  unfolding plan_named_of
  plan_same n = rw (take-length c)

pub plan_named_decides_in : PlanNamedDecidesIn
unfolding PlanNamedDecidesIn PlanNamedDecides
plan_named_decides_in controller theirs width name s sc l p h =
    let c : List ℕ = take theirs controller in
    let d : NamedDecides c width name s sc = plan-named-decides c width name s sc p h in
    record {
      answer = d.answer;
      final = d.final;
      is = ap (λ (n : ℕ). plan_named_of n s.buffer s.len controller theirs width name) (refused_same controller theirs width name s sc l p.theirs-valid)
          ∙ plan_same controller theirs width name s sc _ ∙ d.is;
      right = d.right;
      closed = d.closed;
    }
