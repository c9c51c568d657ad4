-- Eighteen rounds suffice: after the sweep from block 0 a round ends the plan, whatever the books hold. Assumes nothing.
use mathlib.Core.Path.{◌≡◌, refl, sym, ap, ◌∙◌, subst}
use mathlib.Core.Bool.{Bool, true, false, cond}
use mathlib.Core.List.{List, [], ◌∷◌}
use Prim.Native.Nat.{ℕ, zero, suc, ◌-◌}
use native.Mathlib.Omega.{arith}
use borrow.Author.Tests.{eqb-true}
use Rattle.type_book.specs.Book.{is_type}
use Rattle.type_book_check.specs.declared.BookCheck.TheVariants.{Valid}
use Rattle.type_book_check.specs.Check.{check_book, ValidBook}
use Rattle.type_book_check.proofs.Valid.{valid-book, valid-below}
use Rattle.resolve_walk.specs.Reads.{listed, whole}
use Rattle.closure.specs.Calls.{Ours, book_of, walk_at}
use Rattle.plan_adds.specs.Adds.{Adding, on, lacks, room, then_on, fetch_of, add_listed, passing, sweep, add_all}
use Rattle.plan_save.specs.Rounds.{Decision, refused, next_round, closing, not_whole, round_of, swept_from, rounds_then}
use Rattle.plan_decides.specs.Few.{PlanFew}
use Rattle.plan_decides.proofs.Taken.{same_kind}
use Rattle.plan_decides.proofs.Settles.{Later, later_same, later-then, fetch_settles, sweep-later}
use Rattle.plan_decides.proofs.Stuck.{Stuck, listed_stuck}

-- our book is valid and holds the root
record Holds (root : ℕ) (s : Ours) : Type 0 where
  valid : check_book s.buffer s.len ≡ Valid
  typed : is_type (book_of s) root ≡ true

holds_later : (root : ℕ) (s z : Ours) → Holds root s → Later s z → Holds root z
holds_later root s z o a =
    let v : ValidBook (book_of s) = valid-book s.buffer s.len o.valid in
    record {
      valid = a.valid;
      typed = ap (λ (x : List ℕ). is_type x root) a.grows ∙ same_kind (book_of s) a.more v root (valid-below (book_of s) v root 0 (eqb-true _ _ o.typed)) ∙ o.typed;
    }

lacks-apart : {X : Type 0} (b : ℕ) (s z : Ours) → lacks b s ≡ on z → X
lacks-apart b s z e = let x : ◌≡◌ {A = ℕ} 0 1 = cc in absurd (omega arith)

room_apart : {X : Type 0} (s z : Ours) → room s ≡ on z → X
room_apart s z e = let x : ◌≡◌ {A = ℕ} 0 1 = cc in absurd (omega arith)

on_same : (a b : Ours) → on a ≡ on b → a ≡ b
on_same a b e = cc

-- the outcome of adds that ended does not depend on what would follow
stuck_same : (g h : Ours → Decision) (z : Ours) (a : Adding) → Stuck z a → next_round g a ≡ next_round h a
unfolding next_round
stuck_same g h z a (Stuck.nowhere b e) = rw e
stuck_same g h z a (Stuck.full e) = rw e

next-same : (g h : Ours → Decision) (a : Adding) → ((z : Ours) → a ≡ on z → g z ≡ h z) → next_round g a ≡ next_round h a
unfolding next_round
next-same g h (on z) f = f z refl
next-same g h (lacks b z) f = refl
next-same g h (room z) f = refl

module _ (c : List ℕ) (w : ValidBook c) (width root : ℕ) where
  -- the listed types leave a valid book
  listed-later : (bs : List ℕ) (s z : Ours) → check_book s.buffer s.len ≡ Valid → add_listed c bs s ≡ on z → Later s z
  unfolding add_listed then_on passing
  listed-later [] s z v e = subst (λ (y : Ours). Later s y) (on_same s z e) (later_same s v)
  listed-later (b ∷ bs) s z v e = by (fetch_of c b s) (fetch_settles c w s v b).later (λ y u q. listed-later bs y z u q) e
    where
      by : (a : Adding) → Later s (passing a) → ((y : Ours) → check_book y.buffer y.len ≡ Valid → add_listed c bs y ≡ on z → Later y z)
          → then_on a (add_listed c bs) ≡ on z → Later s z
      by (on y) l ih q = later-then s y z l (ih y l.valid q)
      by (lacks x y) l ih q = lacks-apart x y z q
      by (room y) l ih q = room_apart y z q

  -- adds that go on were swept from block i on
  record Swept (i : ℕ) (z : Ours) : Type 0 where
    before : Ours
    before-holds : Holds root before
    holds : Holds root z
    is : z ≡ sweep c width i before

  all-swept : (i : ℕ) (bs : List ℕ) (s z : Ours) → Holds root s → add_all c width i bs s ≡ on z → Swept i z
  unfolding add_all then_on
  all-swept i bs s z o e = by (add_listed c bs s) (λ y q. listed-later bs s y o.valid q) e
    where
      by : (a : Adding) → ((y : Ours) → a ≡ on y → Later s y) → then_on a (λ y. on (sweep c width i y)) ≡ on z → Swept i z
      by (on y) f q =
          let p : Holds root y = holds_later root s y o (f y refl) in
          let r : sweep c width i y ≡ z = on_same (sweep c width i y) z q in
          record {
            before = y;
            before-holds = p;
            holds = subst (λ (x : Ours). Holds root x) r (holds_later root y (sweep c width i y) p (sweep-later c w width (65536 - i) i 0 y p.valid));
            is = sym r;
          }
      by (lacks x y) f q = lacks-apart x y z q
      by (room y) f q = room_apart y z q

  module _ (g h : Ours → Decision) (i : ℕ) (s : Ours) (o : Holds root s) where
    same_whole : (t : Bool) (a b : Decision) → a ≡ b → cond t a (refused (not_whole (walk_at width root s)) s) ≡ cond t b (refused (not_whole (walk_at width root s)) s)
    same_whole true a b e = e
    same_whole false a b e = refl

    round_by : closing g c width i (walk_at width root s) s (listed (walk_at width root s)) ≡ closing h c width i (walk_at width root s) s (listed (walk_at width root s))
        → round_of g c width i (walk_at width root s) s ≡ round_of h c width i (walk_at width root s) s
    unfolding round_of
    round_by e = same_whole (whole (walk_at width root s)) _ _ e

    -- a round is the same where the next is
    closing_same : ((z : Ours) → Swept i z → g z ≡ h z) → (bs : List ℕ) → closing g c width i (walk_at width root s) s bs ≡ closing h c width i (walk_at width root s) s bs
    unfolding closing
    closing_same f [] = refl
    closing_same f (b ∷ bs) = next-same g h (add_all c width i (b ∷ bs) s) (λ z e. f z (all-swept i (b ∷ bs) s z o e))

    round_same : ((z : Ours) → Swept i z → g z ≡ h z) → round_of g c width i (walk_at width root s) s ≡ round_of h c width i (walk_at width root s) s
    round_same f = round_by (closing_same f (listed (walk_at width root s)))

    -- after a sweep from block 0 it is, whatever follows
    module _ (y : Ours) (p : Holds root y) (e : s ≡ sweep c width 0 y) where
      closing-last : (bs : List ℕ) → listed (walk_at width root s) ≡ bs → closing g c width i (walk_at width root s) s bs ≡ closing h c width i (walk_at width root s) s bs
      unfolding closing
      closing-last [] q = refl
      closing-last (b ∷ bs) q =
          stuck_same g h s (add_all c width i (b ∷ bs) s) (listed_stuck c w width root y s p.valid o.valid e o.typed i b bs q)

      round-last : round_of g c width i (walk_at width root s) s ≡ round_of h c width i (walk_at width root s) s
      round-last = round_by (closing-last (listed (walk_at width root s)) refl)

  first : (book : List ℕ) → swept_from 1 book ≡ 0
  unfolding swept_from
  first book = refl

  step : (go : Ours → Decision) (k : ℕ) (s : Ours)
      → rounds_then go c width root (suc k) s ≡ round_of (rounds_then go c width root k) c width (swept_from k (book_of s)) (walk_at width root s) s
  unfolding rounds_then
  step go k s = refl

  module _ (g h : Ours → Decision) where
    one : (s : Ours) → Swept 0 s → rounds_then g c width root 1 s ≡ rounds_then h c width root 1 s
    one s q =
        step g 0 s
        ∙ round-last (rounds_then g c width root 0) (rounds_then h c width root 0) (swept_from 0 (book_of s)) s q.holds q.before q.before-holds q.is
        ∙ sym (step h 0 s)

    rounds : (k : ℕ) (s : Ours) → Holds root s → rounds_then g c width root (suc (suc k)) s ≡ rounds_then h c width root (suc (suc k)) s
    rounds zero s o =
        step g 1 s
        ∙ round_same (rounds_then g c width root 1) (rounds_then h c width root 1) (swept_from 1 (book_of s)) s o
        (λ z q. one z (record { before = q.before; before-holds = q.before-holds; holds = q.holds; is = rw (first (book_of s)) at q.is }))
        ∙ sym (step h 1 s)
    rounds (suc k) s o =
        step g (suc (suc k)) s
        ∙ round_same (rounds_then g c width root (suc (suc k))) (rounds_then h c width root (suc (suc k))) (swept_from (suc (suc k)) (book_of s)) s o (λ z q. rounds k z q.holds)
        ∙ sym (step h (suc (suc k)) s)

pub plan-few : PlanFew
unfolding PlanFew
plan-few go c width root s w v t = rounds c w width root go (refused 15) 16 s (record { valid = v; typed = t })
