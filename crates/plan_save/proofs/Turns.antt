-- One round, and the rounds: one law for each way out. Assumes nothing.
use mathlib.Core.Path.{◌≡◌, refl, sym, ap, ◌∙◌}
use mathlib.Core.Bool.{Bool, true, false, cond}
use mathlib.Core.List.{List, [], ◌∷◌, ◌++◌}
use Prim.Native.Nat.{ℕ, zero, suc, ◌-◌, ◌/◌, ◌≤◌, ◌<◌}
use native.Mathlib.Omega.{arith}
use borrow.Author.Tests.{lt-ltb, le-ltb}
use borrow.Rule.Slice.PartMut.{put_mid, same_len_mid, take_put}
use lib.ListN.{length, take, drop, length-take}
use lib.Seq.{length-take-le, length_front, take-append_seam}
use Rattle.type_cache.proofs.Appends.{refused-cut}
use Rattle.type_book.specs.Book.{blocks, is_type}
use Rattle.type_book_check.proofs.Numbers.{valid-number}
use Rattle.type_book_check.specs.declared.BookCheck.TheVariants.{Valid}
use Rattle.type_book_check.specs.Check.{check_book, ValidBook}
use Rattle.type_book_check.proofs.Valid.{valid-book, valid-size}
use Rattle.type_index.specs.declared.Trust.{Trust}
use Rattle.type_index.specs.Trust.{Trusted}
use Rattle.type_index_held.specs.Held.{FilledIs}
use Rattle.type_index_held.proofs.Holds.{filled-trusted}
use Rattle.plan_type_adds.specs.Knows.{Knows}
use Rattle.resolve_walk.specs.Walk.{Walk, walk_of}
use Rattle.resolve_walk.specs.Reads.{listed, whole}
use Rattle.resolve_read_modify_write.specs.Reads.{rmw_of}
use Rattle.closure.specs.Calls.{Ours}
use Rattle.plan_adds.specs.declared.Added.{Added}
use Rattle.plan_adds.specs.Adds.{ours, add_all}
use Rattle.plan_adds.specs.State.{Ready, added_said, added_length, AddedIs}
use Rattle.plan_save.specs.declared.Plan.{Plan}
use Rattle.plan_save.specs.declared.Plan.TheVariants as plan
use Rattle.std.specs.declared.ops.ControlFlow.{ControlFlow}
use Rattle.std.specs.declared.ops.ControlFlow.TheVariants.{Continue, Break}
use Rattle.std.specs.Prelude.{Option, Some, None, Result, Ok, Err}
use Rattle.plan_save.specs.Rounds.{Decision, ruled, next_round, closing, not_whole, round_of, swept_from, rounds_then, plan_from}
use Rattle.plan_save.specs.State.{half_of, Prepared, plan_said, round_said, Follows, RoundIs, says_no, AskSaid, AskedIs, AfterAdds, AddedRound, PlannedIs}
use Rattle.plan_save.proofs.Asks.{no-complete, no-is, complete-yes}

pub ready-book : (c buffer : List ℕ) (len : ℕ) (known : List ℕ) → Ready c buffer len known → ValidBook (take len buffer)
ready-book c buffer len known o = valid-book buffer len o.valid

module _ (c buffer : List ℕ) (len : ℕ) (t : Trust) (hints known : List ℕ) (o : Prepared c (take len buffer) t hints known) where
  pub prepared-ready : check_book buffer len ≡ Valid → Ready c buffer len known
  prepared-ready v = record { valid = v; knows = o.knows }

  pub prepared-trusted : Trusted c (half_of hints) t
  prepared-trusted = o.trusted

-- the half of an index, and a book in its buffer
pub half-cut : (l : List ℕ) → length l / 2 ≡ length (take (length l / 2) l)
half-cut l = sym (length-take-le (length l / 2) l (omega arith))

pub half_of_lem : (l m : List ℕ) → length m ≡ length l → length l / 2 ≡ length (take (length l / 2) m)
half_of_lem l m e = sym (length-take-le (length l / 2) m (omega arith))

-- what is said of the controller's half: where it is held against the book, and where the other half is made anew
module _ (c l part : List ℕ) (len : ℕ) (t : Trust) (f : FilledIs c len t part) (e : length part ≡ length (take (length l / 2) l)) where
  long : length part ≡ length l / 2
  long = e ∙ length-take-le (length l / 2) l (omega arith)

  pub half-held : Trusted c (take (length l / 2) (part ++ drop (length l / 2) l)) t
  half-held =
      let q : take (length l / 2) (part ++ drop (length l / 2) l) ≡ part = ap (λ (n : ℕ). take n (part ++ drop (length l / 2) l)) (sym long) ∙ take-append_seam part (drop (length l / 2) l) in
      rw q (filled-trusted c len t part f)

  pub prepared : (book known : List ℕ) → Knows c book known → Prepared c book t (part ++ drop (length l / 2) l) known
  prepared book known k =
      let q : length (part ++ drop (length l / 2) l) ≡ length l = length_front l part (length l / 2) e in
      record { knows = k; trusted = rw q half-held }

pub half-kept : (c l part : List ℕ) → length part ≡ length (take (length l - length l / 2) (drop (length l / 2) l)) → (t : Trust) → Trusted c (half_of l) t
    → Trusted c (half_of (put_mid (length l / 2) (length l - length l / 2) l part)) t
half-kept c l part e t h =
    rw (same_len_mid (length l / 2) (length l - length l / 2) l part e, take_put (length l / 2) (length l - length l / 2) l part (omega arith)) h

pub book-cut : (buffer : List ℕ) (len : ℕ) → check_book buffer len ≡ Valid → len ≡ length (take len buffer)
book-cut buffer len v = refused-cut buffer len buffer (check_book buffer len) refl 0 (valid-number _ v) refl

pub book-fits : (buffer : List ℕ) (len : ℕ) → check_book buffer len ≡ Valid → len ≤ length buffer
book-fits buffer len v = omega (arith, book-cut buffer len v, length-take len buffer)

-- ---- one round

none-long : (l : List ℕ) → length l ≡ 0 → l ≡ []
none-long [] e = refl
none-long (x ∷ l) e = absurd (omega arith)

module _ (book : List ℕ) (width : ℕ) (w : Walk) (a : Result (Option ℕ) ℕ) (list : List ℕ) (o : AskedIs book width w a list) where
  lists : (n : ℕ) → a ≡ Ok (Some n) → (whole w ≡ true) × (n ≡ length (listed w)) × (take n list ≡ listed w) × (says_no (rmw_of book width w) ≡ false)
  lists n e = rw e at o.says

  not-whole : (k : ℕ) → a ≡ Err k → (whole w ≡ false) × (k ≡ not_whole w)
  not-whole k e = rw e at o.says

  pub lists-fit : (x : Option ℕ) → a ≡ Ok x → (n : ℕ) → x ≡ Some n → n ≤ length list
  lists-fit x i n e =
      let q = lists n (i ∙ ap (λ (y : Option ℕ). Ok y) e) in
      let z : length (take n list) ≡ n = ap (λ (l : List ℕ). length l) q.2 ∙ sym q.1 in
      omega (arith, length-take n list)

module _ (c : List ℕ) (width root : ℕ) (buffer : List ℕ) (len from : ℕ) (a : Result (Option ℕ) ℕ) (list : List ℕ) (o : AskedIs (take len buffer) width (walk_of (take len buffer) width root) a list) where
  abbrev w : Walk
  w = walk_of (take len buffer) width root

  pub round-not-whole : (k : ℕ) → a ≡ Err k → (known hints : List ℕ) (t : Trust) → Trusted c (half_of hints) t
      → RoundIs c width root buffer len from (Break (plan.Refused k len)) buffer known hints t
  unfolding round_said plan_said round_of
  round-not-whole k e known hints t h =
      let q = not-whole (take len buffer) width w a list o k e in
      record { is = λ go. rw (q.0, q.1); follows = tt; trusted = h }

  -- the answer is "no": then the ask is whole and lists none
  pub round-no : (x : Option ℕ) → a ≡ Ok x → x ≡ None → (known hints : List ℕ) (t : Trust) → Trusted c (half_of hints) t → RoundIs c width root buffer len from (Break (plan.No len)) buffer known hints t
  unfolding round_said plan_said round_of closing ruled
  round-no x i e known hints t h =
      let k : says_no (rmw_of (take len buffer) width w) ≡ true = rw (i, e) at o.says in
      let q = no-complete (take len buffer) width w k in
      record { is = λ go. sym (rw (q.all, q.none, no-is (take len buffer) width (rmw_of (take len buffer) width w) k)); follows = tt; trusted = h }

  module _ (x : Option ℕ) (i : a ≡ Ok x) (n : ℕ) (e : x ≡ Some n) where
    q : (whole w ≡ true) × (n ≡ length (listed w)) × (take n list ≡ listed w) × (says_no (rmw_of (take len buffer) width w) ≡ false)
    q = lists (take len buffer) width w a list o n (i ∙ ap (λ (y : Option ℕ). Ok y) e)

    -- none is missing, and the answer is not "no"
    pub round-yes : n ≡ 0 → (known hints : List ℕ) (t : Trust) → Trusted c (half_of hints) t → RoundIs c width root buffer len from (Break (plan.Yes len)) buffer known hints t
    unfolding round_said plan_said round_of closing ruled
    round-yes z known hints t h =
        let y : listed w ≡ [] = none-long (listed w) (sym q.1 ∙ z) in
        record { is = λ go. sym (rw (q.0, y, complete-yes (take len buffer) width w q.0 y q.3)); follows = tt; trusted = h }

    module _ (z : n ≡ 0 → ⊥) (h : is_type (take len buffer) root ≡ true) (r : ControlFlow Plan ℕ) (after known : List ℕ)
        (g : AddedRound c width from (take n list) buffer len r after known) where
      some : (l : List ℕ) → n ≡ length l → (go : Ours → Decision) → closing go c width from w (ours buffer len) l ≡ next_round go (add_all c width from l (ours buffer len))
      unfolding closing
      some [] y go = absurd (z y)
      some (b ∷ l) y go = refl

      goes_on : (go : Ours → Decision) → round_said go r after ≡ round_of go c width from w (ours buffer len)
      unfolding round_of
      goes_on go =
          g.is go ∙ ap (λ (l : List ℕ). next_round go (add_all c width from l (ours buffer len))) q.2 ∙ sym (rw q.0 (some (listed w) q.1 go))

      pub round-adds : (hints : List ℕ) (t : Trust) → Trusted c (half_of hints) t → RoundIs c width root buffer len from r after known hints t
      round-adds hints t k = record { is = goes_on; follows = g.follows root h; trusted = k }

-- the adds of a round
module _ (c : List ℕ) (width from : ℕ) (bs buffer : List ℕ) (len : ℕ) (d : Added) (after known : List ℕ)
    (g : AddedIs (add_all c width from bs (ours buffer len)) c buffer len d after known) (r : ControlFlow Plan ℕ) (f : AfterAdds d r) where
  next : (root : ℕ) → is_type (take len buffer) root ≡ true → (r' : ControlFlow Plan ℕ) → r ≡ r' → Follows c root r' after known
  next root h (Continue l) y =
      let s : added_length d ≡ l = f.same l y in
      (rw s at g.ready, rw s at (g.kept.types root h))
  next root h (Break p) y = tt

  pub adds_are : AddedRound c width from bs buffer len r after known
  adds_are = record { is = λ go. f.is go after ∙ ap (next_round go) g.is; follows = λ root h. next root h r refl }

-- ---- the rounds
module _ (book : List ℕ) (left : ℕ) where
  pub from_first : left < 2 → 0 ≡ swept_from left book
  unfolding swept_from
  from_first h = sym (rw (lt-ltb left 2 h))

  pub from-new : 2 ≤ left → (k : ℕ) → k ≡ blocks book → k ≡ swept_from left book
  unfolding swept_from
  from-new h k e = e ∙ sym (rw (le-ltb left 2 h))

  pub from-fits : ValidBook book → (k : ℕ) → k ≡ blocks book → k < 4294967296
  from-fits v k e = omega (arith, (valid-size book v).few)

pub record RoundsTo (o : Decision) (c : List ℕ) (width root : ℕ) (buffer : List ℕ) (at : ℕ) (known : List ℕ) (left : ℕ) (hints : List ℕ) (t : Trust) : Type 0 where
  pub rest : o ≡ plan_from c width root left (ours buffer at)
  pub ready : Ready c buffer at known
  pub holds : is_type (take at buffer) root ≡ true
  pub trusted : Trusted c (half_of hints) t

pub rounds-start : (c : List ℕ) (width root : ℕ) (buffer : List ℕ) (len : ℕ) (known : List ℕ) → Ready c buffer len known → is_type (take len buffer) root ≡ true
    → (hints : List ℕ) (t : Trust) → Trusted c (half_of hints) t
    → RoundsTo (plan_from c width root 18 (ours buffer len)) c width root buffer len known 18 hints t
rounds-start c width root buffer len known o h hints t k = record { rest = refl; ready = o; holds = h; trusted = k }

module _ (o : Decision) (c : List ℕ) (width root : ℕ) (buffer : List ℕ) (at : ℕ) (known : List ℕ) (left : ℕ)
    (hints : List ℕ) (t : Trust) (inv : RoundsTo o c width root buffer at known left hints t) where
  pub rounds-ready : Ready c buffer at known
  rounds-ready = inv.ready

  pub rounds-holds : is_type (take at buffer) root ≡ true
  rounds-holds = inv.holds

  pub rounds-trusted : Trusted c (half_of hints) t
  rounds-trusted = inv.trusted

  pub rounds-end : left ≤ 0 → PlannedIs o (plan.Refused 15 at) buffer
  unfolding rounds_then plan_said
  rounds-end h = let q : left ≡ 0 = omega arith in record { is = sym (inv.rest ∙ rw q) }

  module _ (l : 0 < left) (from : ℕ) (ef : from ≡ swept_from (left - 1) (take at buffer)) (r : ControlFlow Plan ℕ) (after known' hints' : List ℕ)
      (g : RoundIs c width root buffer at from r after known' hints' t) where
    goes : o ≡ round_said (plan_from c width root (left - 1)) r after
    unfolding rounds_then
    goes = let q : left ≡ suc (left - 1) = omega arith in inv.rest ∙ ap (λ (k : ℕ). plan_from c width root k (ours buffer at)) q ∙ rw (← ef) (sym (g.is (plan_from c width root (left - 1))))

    pub rounds-again : (k : ℕ) → r ≡ Continue k → RoundsTo o c width root after k known' (left - 1) hints' t
    unfolding round_said
    rounds-again k e =
        let f : Follows c root (Continue k) after known' = rw e at g.follows in
        record { rest = goes ∙ rw e; ready = f.0; holds = f.1; trusted = g.trusted }

    pub rounds-is : (p : Plan) → r ≡ Break p → PlannedIs o p after
    unfolding round_said
    rounds-is p e = record { is = sym (goes ∙ rw e) }
