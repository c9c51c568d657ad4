-- The call: one law for each way out. Assumes nothing.
use mathlib.Core.Path.{◌≡◌, refl, sym, ap, ◌∙◌}
use mathlib.Core.Bool.{Bool, true, false, cond, not, ◌&&◌}
use mathlib.Core.List.{List, [], ◌∷◌}
use Prim.Native.Nat.{ℕ, zero, suc}
use native.Mathlib.Omega.{arith}
use borrow.Author.Tests.{eq-eqb, ne_eqb, eqb-false, not-true, not-false}
use lib.ListN.{length, take, replicate}
use lib.Dec.{eqb, ltb}
use Rattle.type_book.specs.Book.{blocks, is_type}
use Rattle.enc_number.specs.Answer.{refusal_of}
use Rattle.type_book_check.proofs.Numbers.{zero-valid}
use Rattle.type_book_check.specs.declared.BookCheck.{BookCheck}
use Rattle.type_book_check.specs.declared.BookCheck.TheVariants.{Valid, Size, Sum, Form, Doubled}
use Rattle.type_book_check.specs.declared.RootCheck.{RootCheck}
use Rattle.type_book_check.specs.declared.RootCheck.TheVariants as checked
use Rattle.type_book_check.specs.Check.{check_book, book_numbers, check_root, root_of, root_numbers, ValidBook}
use Rattle.type_book_check.proofs.Valid.{valid-book, root-valid}
use Rattle.type_cache.specs.Append.{or_next}
use Rattle.resolve_walk.specs.Scratch.{scratch_fits, zeroed}
use Rattle.plan_adds.specs.Adds.{ours}
use Rattle.plan_save.specs.declared.Plan.{Plan}
use Rattle.plan_save.specs.declared.Plan.TheVariants as plan
use Rattle.plan_save.specs.Rounds.{Decision, plan_from}
use Rattle.plan_save.specs.Call.{plan_numbers, outcome_numbers, outcome_ours, plan_refusal, plan_of, PlanDone, PlanIs}
use Rattle.plan_save.specs.State.{plan_said, PlannedIs}
use Rattle.plan_save.proofs.Turns.{book-cut}

-- ---- the refusals before the rounds
pub or_here : (n k : ℕ) → (n ≡ 0 → ⊥) → or_next n k ≡ n
unfolding or_next
or_here zero k h = absurd (h refl)
or_here (suc n) k h = refl

pub or_next_lem : (n k : ℕ) → n ≡ 0 → or_next n k ≡ k
unfolding or_next
or_next_lem zero k h = refl
or_next_lem (suc n) k h = absurd (omega arith)

-- a refusal before the rounds leaves all as it was
refused_all : (n : ℕ) (buffer : List ℕ) (len : ℕ) (controller : List ℕ) (theirs width root : ℕ) (sc hints : List ℕ) → (n ≡ 0 → ⊥)
    → PlanIs n buffer len controller theirs width root sc hints (plan.Refused n len) buffer sc hints
unfolding plan_of outcome_numbers outcome_ours
refused_all n buffer len controller theirs width root sc hints h =
    record { answer = rw (ne_eqb n 0 h); bytes = rw (ne_eqb n 0 h); scratch = rw (ne_eqb n 0 h); index = rw (ne_eqb n 0 h) }

-- the numbers and the buffer of an answer
numbers-said : (r : Plan) (after : List ℕ) (o : Decision) → plan_said r after ≡ o → plan_numbers r ≡ outcome_numbers o
unfolding plan_said outcome_numbers
numbers-said (plan.Yes len) after o e = rw (← e)
numbers-said (plan.No len) after o e = rw (← e)
numbers-said (plan.NotFound b len) after o e = rw (← e)
numbers-said (plan.Refused n len) after o e = rw (← e)

bytes-said : (r : Plan) (after : List ℕ) (o : Decision) → plan_said r after ≡ o → after ≡ (outcome_ours o).buffer
unfolding plan_said outcome_ours
bytes-said (plan.Yes len) after o e = rw (← e)
bytes-said (plan.No len) after o e = rw (← e)
bytes-said (plan.NotFound b len) after o e = rw (← e)
bytes-said (plan.Refused n len) after o e = rw (← e)

-- ---- where all was checked
pub in_done : (o : Decision) (sc hints : List ℕ) (r : Plan) (after : List ℕ) → PlannedIs o r after
    → (sc₁ : List ℕ) → length sc₁ ≡ length sc → (sc' : List ℕ) → sc' ≡ replicate (length sc₁) 0
    → (hints₁ : List ℕ) → length hints₁ ≡ length hints → (hints' : List ℕ) → hints' ≡ replicate (length hints₁) 0
    → PlanDone o sc hints r after sc' hints'
in_done o sc hints r after p sc₁ e sc' z hints₁ f hints' y =
    record { answer = numbers-said r after o p.is; bytes = bytes-said r after o p.is; scratch = rw e at z; index = rw f at y }

module _ (buffer : List ℕ) (len : ℕ) (root : ℕ) (c : check_root buffer len root ≡ checked.Root root) where
  pub at-holds : is_type (take len buffer) root ≡ true
  at-holds = (root-valid buffer len root root c).kind

  valid : (k : BookCheck) → cond (eqb (refusal_of (book_numbers k)) 0) (root_of (take len buffer) root) (checked.Refused (refusal_of (book_numbers k))) ≡ checked.Root root → k ≡ Valid
  unfolding book_numbers
  valid Valid e = refl
  valid Size e = absurd (let z : ◌≡◌ {A = ℕ} 0 1 = cc in omega arith)
  valid Sum e = absurd (let z : ◌≡◌ {A = ℕ} 0 1 = cc in omega arith)
  valid Form e = absurd (let z : ◌≡◌ {A = ℕ} 0 1 = cc in omega arith)
  valid Doubled e = absurd (let z : ◌≡◌ {A = ℕ} 0 1 = cc in omega arith)

  pub at-valid : check_book buffer len ≡ Valid
  unfolding check_root
  at-valid = valid (check_book buffer len) c

  module _ (controller : List ℕ) (theirs width : ℕ) (sc hints : List ℕ) (k : ℕ) (ek : k ≡ refusal_of (book_numbers (check_book controller theirs))) where
    after-root : plan_refusal buffer len controller theirs root sc ≡ or_next k (cond (scratch_fits sc) 0 6)
    unfolding plan_refusal root_numbers
    after-root = rw (c, ← ek) (or_next_lem 0 _ refl)

    pub at-theirs : (k ≡ 0 → ⊥)
        → PlanIs (plan_refusal buffer len controller theirs root sc) buffer len controller theirs width root sc hints (plan.Refused k len) buffer sc hints
    at-theirs h = rw (after-root, or_here k (cond (scratch_fits sc) 0 6) h) (refused_all k buffer len controller theirs width root sc hints h)

    module _ (z : k ≡ 0) where
      pub at-book : ValidBook (take theirs controller)
      at-book = valid-book controller theirs (zero-valid (check_book controller theirs) (sym ek ∙ z))

      pub at_cut : theirs ≡ length (take theirs controller)
      at_cut = book-cut controller theirs (zero-valid (check_book controller theirs) (sym ek ∙ z))

      pub at-short : (g : Bool) → g ≡ scratch_fits sc → not g ≡ true
          → PlanIs (plan_refusal buffer len controller theirs root sc) buffer len controller theirs width root sc hints (plan.Refused 6 len) buffer sc hints
      at-short g e h =
          rw (after-root, or_next_lem k (cond (scratch_fits sc) 0 6) z, sym e ∙ not-true g h)
          (refused_all 6 buffer len controller theirs width root sc hints (λ q. omega arith))

      pub at_done : (g : Bool) → g ≡ scratch_fits sc → not g ≡ false → (r : Plan) (after sc' hints' : List ℕ)
          → PlanDone (plan_from (take theirs controller) width root 18 (ours buffer len)) sc hints r after sc' hints'
          → PlanIs (plan_refusal buffer len controller theirs root sc) buffer len controller theirs width root sc hints r after sc' hints'
      unfolding plan_of
      at_done g e h r after sc' hints' p =
          rw (after-root, or_next_lem k (cond (scratch_fits sc) 0 6) z, sym e ∙ not-false g h)
          (record {
            answer = p.answer;
            bytes = p.bytes;
            scratch = p.scratch;
            index = p.index;
          })

-- ---- the root
module _ (buffer : List ℕ) (len root : ℕ) (k : RootCheck) (e : k ≡ check_root buffer len root) where
  some-refusal : (n : ℕ) → k ≡ checked.Refused n → n ≡ 0 → ⊥
  unfolding check_root root_of
  some-refusal n h z = by (eqb (refusal_of (book_numbers (check_book buffer len))) 0) refl (ltb root (blocks (take len buffer)) && is_type (take len buffer) root) (sym e ∙ h)
    where
      by : (t : Bool) → eqb (refusal_of (book_numbers (check_book buffer len))) 0 ≡ t → (u : Bool)
          → cond t (cond u (checked.Root root) (checked.Refused 5)) (checked.Refused (refusal_of (book_numbers (check_book buffer len)))) ≡ checked.Refused n → ⊥
      by true q true y = let x : ◌≡◌ {A = ℕ} 0 1 = cc in omega arith
      by true q false y = let x : 5 ≡ n = cc in omega arith
      by false q u y = let x : refusal_of (book_numbers (check_book buffer len)) ≡ n = cc in eqb-false _ _ q (x ∙ z)

  module _ (controller : List ℕ) (theirs width : ℕ) (sc hints : List ℕ) where
    pub save_refused : (n : ℕ) → k ≡ checked.Refused n
        → PlanIs (plan_refusal buffer len controller theirs root sc) buffer len controller theirs width root sc hints (plan.Refused n len) buffer sc hints
    unfolding plan_refusal root_numbers
    save_refused n h =
        rw (← e, h, or_here n (or_next (refusal_of (book_numbers (check_book controller theirs))) (cond (scratch_fits sc) 0 6)) (some-refusal n h))
        (refused_all n buffer len controller theirs width root sc hints (some-refusal n h))

    module _ (t : ℕ) (h : k ≡ checked.Root t) where
      same : t ≡ root
      same = (root-valid buffer len root t (sym e ∙ h)).is

      pub save_checked : check_root buffer len t ≡ checked.Root t
      save_checked = rw same (rw same at (sym e ∙ h))

      pub save_root : (r : Plan) (after sc' hints' : List ℕ)
          → PlanIs (plan_refusal buffer len controller theirs t sc) buffer len controller theirs width t sc hints r after sc' hints'
          → PlanIs (plan_refusal buffer len controller theirs root sc) buffer len controller theirs width root sc hints r after sc' hints'
      save_root r after sc' hints' p = rw same at p
