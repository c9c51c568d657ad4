-- An ask, read-modify-write and the adds of a round: one law for each way out. Assumes nothing.
use mathlib.Core.Path.{◌≡◌, refl, sym, ap, ◌∙◌}
use mathlib.Core.Bool.{Bool, true, false, cond}
use mathlib.Core.List.{List, [], ◌∷◌, ◌++◌}
use Prim.Native.Nat.{ℕ, ◌≤◌}
use native.Mathlib.Omega.{arith}
use borrow.Author.Tests.{ne_eqb}
use lib.ListN.{length, take, drop}
use lib.Seq.{take-append_seam}
use lib.Dec.{eqb}
use Rattle.enc_number.specs.Answer.{refusal_of}
use Rattle.type_book_check.specs.declared.BookCheck.{BookCheck}
use Rattle.type_book_check.specs.Check.{check_book, book_numbers}
use Rattle.resolve_walk.specs.Walk.{Walk, over, full, met, walk_of}
use Rattle.resolvers.specs.declared.Resolved.TheVariants.{Base, NotFound, TooLong}
use Rattle.type_category.specs.Category.{category_of}
use Rattle.resolve_walk.specs.Reads.{count, listed, whole}
use Rattle.resolve_missing_types.proofs.Numbers.{missing_is}
use Rattle.resolve_missing_types.specs.declared.Missing.{Missing}
use Rattle.resolve_missing_types.specs.declared.Missing.TheVariants as missing
use Rattle.resolve_missing_types.specs.Calls.{missing_answer, missing_list, MissingIn}
use Rattle.resolve_read_modify_write.proofs.Numbers.{rmw_is}
use Rattle.resolve_read_modify_write.specs.declared.Rmw.{Rmw}
use Rattle.resolve_read_modify_write.specs.declared.Rmw.TheVariants as rmw
use Rattle.resolve_read_modify_write.specs.Reads.{keeps_state, rmw_of}
use Rattle.resolve_read_modify_write.specs.Calls.{rmw_answer, RmwIn}
use Rattle.plan_adds.specs.declared.Added.{Added}
use Rattle.plan_adds.specs.declared.Added.TheVariants as added
use Rattle.plan_adds.specs.Adds.{ours}
use Rattle.plan_adds.specs.State.{added_said}
use Rattle.plan_save.specs.declared.Plan.TheVariants as plan
use Rattle.plan_save.specs.declared.Plan.{Plan}
use Rattle.std.specs.declared.ops.ControlFlow.{ControlFlow}
use Rattle.std.specs.declared.ops.ControlFlow.TheVariants.{Continue, Break}
use Rattle.std.specs.Prelude.{Option, Some, None, Result, Ok, Err}
use Rattle.resolvers.proofs.Numbers.{long-numbers}
use Rattle.plan_save.specs.Rounds.{next_round, not_whole}
use Rattle.plan_save.specs.State.{says_no, ListSaid, ListedIs, AskSaid, AskedIs, plan_said, round_said, AfterAdds}

first-same : (n : ℕ) (t : Bool) (k m : ℕ) (u : Bool) (l : ℕ) → missing.Listed n t k ≡ missing.Listed m u l → n ≡ m
first-same n t k m u l e = cc

second-same : (n : ℕ) (t : Bool) (k m : ℕ) (u : Bool) (l : ℕ) → missing.Listed n t k ≡ missing.Listed m u l → t ≡ u
second-same n t k m u l e = cc

third_same : (n : ℕ) (t : Bool) (k m : ℕ) (u : Bool) (l : ℕ) → missing.Listed n t k ≡ missing.Listed m u l → k ≡ l
third_same n t k m u l e = cc

never-same : (n k : ℕ) (t : Bool) (l : ℕ) → missing.Refused n ≡ missing.Listed k t l → ⊥
never-same n k t l e = let z : ◌≡◌ {A = ℕ} 0 1 = cc in omega arith

-- ---- the ask
module _ (book : List ℕ) (width root : ℕ) (sc list : List ℕ) (r : Missing) (sc' list' : List ℕ) (o : MissingIn true book width root sc list r sc' list') where
  abbrev w : Walk
  w = walk_of book width root

  is : r ≡ missing.Listed (length (listed w)) (whole w) (count w)
  unfolding missing_answer
  is = missing_is _ _ o.answer

  holds : list' ≡ listed w ++ drop (length (listed w)) list
  unfolding missing_list
  holds = o.blocks

  module _ (n : ℕ) (t : Bool) (k : ℕ) (e : r ≡ missing.Listed n t k) where
    same_number : n ≡ length (listed w)
    same_number = first-same _ _ _ _ _ _ (sym e ∙ is)

    same-mark : t ≡ whole w
    same-mark = second-same _ _ _ _ _ _ (sym e ∙ is)

    same_count : k ≡ count w
    same_count = third_same _ _ _ _ _ _ (sym e ∙ is)

    pub ask-some : t ≡ true → ListedIs w (Ok n) list'
    ask-some h = record { says = (sym same-mark ∙ h, same_number, rw (same_number, holds) (take-append_seam (listed w) (drop (length (listed w)) list))) }

    module _ (h : t ≡ false) where
      pub ask-names : k ≡ 4097 → ListedIs w (Err 9) list'
      ask-names g = let q : count w ≡ 4097 = sym same_count ∙ g in record { says = (sym same-mark ∙ h, rw q) }

      pub ask-chain : (k ≡ 4097 → ⊥) → ListedIs w (Err 8) list'
      ask-chain g = record { says = (sym same-mark ∙ h, rw (ne_eqb (count w) 4097 (λ q. g (same_count ∙ q)), long-numbers)) }

  -- an ask of a checked book is not refused
  pub ask-never : (k : ℕ) → r ≡ missing.Refused k → ListedIs w (Err k) list'
  ask-never k e = absurd (never-same k _ _ _ (sym e ∙ is))

-- ---- read-modify-write
module _ (book : List ℕ) (width root : ℕ) (sc : List ℕ) (a : Rmw) (sc' : List ℕ) (o : RmwIn true book width root sc a sc') where
  pub no-no : a ≡ rmw.No → true ≡ says_no (rmw_answer true book width root)
  unfolding says_no
  no-no h = rw (← rmw_is _ _ o.answer, h)

  pub no-other : (a ≡ rmw.No → ⊥) → false ≡ says_no (rmw_answer true book width root)
  unfolding says_no
  no-other other = rw (← rmw_is _ _ o.answer) (by a refl)
    where
      by : (r : Rmw) → a ≡ r → false ≡ says_no a
      by rmw.Yes h = rw h
      by rmw.No h = absurd (other h)
      by (rmw.NotFound b) h = rw h
      by (rmw.Refused n) h = rw h

module _ (book : List ℕ) (width root : ℕ) (n : Bool) (e : n ≡ says_no (rmw_answer true book width root)) where
  pub ask-complete : n ≡ true → (list : List ℕ) → AskedIs book width (walk_of book width root) (Ok None) list
  unfolding rmw_answer
  ask-complete h list = record { says = sym e ∙ h }

  module _ (h : n ≡ false) (k : ℕ) (list : List ℕ) where
    pub ask-lists : ListedIs (walk_of book width root) (Ok k) list → AskedIs book width (walk_of book width root) (Ok (Some k)) list
    unfolding rmw_answer
    ask-lists o = let s = o.says in record { says = (s.0, s.1, s.2, sym e ∙ h) }

    pub ask-not-whole : ListedIs (walk_of book width root) (Err k) list → AskedIs book width (walk_of book width root) (Err k) list
    ask-not-whole o = record { says = o.says }

-- ---- what it says of the ask

-- a walk that is whole and lists nothing
pub record Whole (w : Walk) : Type 0 where
  pub all : whole w ≡ true
  pub none : listed w ≡ []

module _ (book : List ℕ) (width : ℕ) where
  -- "no" is answered of such a walk alone
  pub no-complete : (w : Walk) → says_no (rmw_of book width w) ≡ true → Whole w
  unfolding says_no rmw_of whole listed
  no-complete over h = record { all = refl; none = refl }
  no-complete (full b x) h = absurd (let z : ◌≡◌ {A = ℕ} 0 1 = cc in omega arith)
  no-complete (met b x (Base t) w) h = by (keeps_state (category_of book width t)) (no-complete w) h
    where
      by : (g : Bool) → (says_no (rmw_of book width w) ≡ true → Whole w) → says_no (cond g rmw.Yes (rmw_of book width w)) ≡ true → Whole (met b x (Base t) w)
      by true i q = absurd (let z : ◌≡◌ {A = ℕ} 0 1 = cc in omega arith)
      by false i q = record { all = (i q).all; none = (i q).none }
  no-complete (met b x (NotFound c) w) h = absurd (let z : ◌≡◌ {A = ℕ} 0 1 = cc in omega arith)
  no-complete (met b x TooLong w) h = absurd (let z : ◌≡◌ {A = ℕ} 0 1 = cc in omega arith)

  pub no-is : (r : Rmw) → says_no r ≡ true → r ≡ rmw.No
  unfolding says_no
  no-is rmw.Yes h = absurd (let z : ◌≡◌ {A = ℕ} 0 1 = cc in omega arith)
  no-is rmw.No h = refl
  no-is (rmw.NotFound b) h = absurd (let z : ◌≡◌ {A = ℕ} 0 1 = cc in omega arith)
  no-is (rmw.Refused n) h = absurd (let z : ◌≡◌ {A = ℕ} 0 1 = cc in omega arith)

  -- and of such a walk "yes" is answered else
  pub complete-yes : (w : Walk) → whole w ≡ true → listed w ≡ [] → says_no (rmw_of book width w) ≡ false → rmw_of book width w ≡ rmw.Yes
  unfolding says_no rmw_of whole listed
  complete-yes over a e h = absurd (let z : ◌≡◌ {A = ℕ} 0 1 = cc in omega arith)
  complete-yes (full b x) a e h = absurd (let z : ◌≡◌ {A = ℕ} 0 1 = cc in omega arith)
  complete-yes (met b x (Base t) w) a e h = by (keeps_state (category_of book width t)) (complete-yes w a e) h
    where
      by : (g : Bool) → (says_no (rmw_of book width w) ≡ false → rmw_of book width w ≡ rmw.Yes) → says_no (cond g rmw.Yes (rmw_of book width w)) ≡ false
          → cond g rmw.Yes (rmw_of book width w) ≡ rmw.Yes
      by true i q = refl
      by false i q = i q
  complete-yes (met b x (NotFound c) w) a e h = absurd (let z : ◌≡◌ {A = ℕ} 0 1 = cc in omega arith)
  complete-yes (met b x TooLong w) a e h = absurd (let z : ◌≡◌ {A = ℕ} 0 1 = cc in omega arith)

-- ---- what follows from the adds
again-same : (l m : ℕ) → ◌≡◌ {A = ControlFlow Plan ℕ} (Continue l) (Continue m) → l ≡ m
again-same l m e = cc

module _ (a : Added) where
  pub adds_on : (l : ℕ) → a ≡ added.More l → AfterAdds a (Continue l)
  unfolding round_said added_said next_round
  adds_on l h = record { is = λ go buffer. rw h; same = λ m e. rw h (again-same l m e) }

  pub adds_lack : (b l : ℕ) → a ≡ added.NotFound b l → AfterAdds a (Break (plan.NotFound b l))
  unfolding round_said plan_said added_said next_round
  adds_lack b l h = record { is = λ go buffer. rw h; same = λ m e. absurd (let z : ◌≡◌ {A = ℕ} 0 1 = cc in omega arith) }

  pub adds-full : (l : ℕ) → a ≡ added.Full l → AfterAdds a (Break (plan.Refused 15 l))
  unfolding round_said plan_said added_said next_round
  adds-full l h = record { is = λ go buffer. rw h; same = λ m e. absurd (let z : ◌≡◌ {A = ℕ} 0 1 = cc in omega arith) }

-- ---- the controller's book
pub their_number : (controller : List ℕ) (len : ℕ) (k : BookCheck) → book_numbers k ≡ book_numbers (check_book controller len) → (n : ℕ) → n ≡ refusal_of (book_numbers k)
    → n ≡ refusal_of (book_numbers (check_book controller len))
their_number controller len k e n q = q ∙ ap refusal_of e
