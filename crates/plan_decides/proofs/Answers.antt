-- On the demand's premises the call answers, and rightly. Assumes nothing.
use mathlib.Core.Path.{◌≡◌, refl, sym, ◌∙◌}
use mathlib.Core.Bool.{Bool, true, false, cond}
use mathlib.Core.Logic.{◌↔◌}
use mathlib.Core.List.{List, [], ◌∷◌}
use Prim.Native.Nat.{ℕ, zero, suc}
use native.Mathlib.Omega.{arith}
use lib.ListN.{length, replicate}
use lib.Seq.{take-length}
use Rattle.type_book.specs.Book.{type_name_of}
use Rattle.type_category.specs.Category.{category_of}
use Rattle.type_book_check.specs.Check.{book_numbers, root_numbers}
use Rattle.type_cache.specs.Append.{or_next}
use Rattle.enc_number.specs.Answer.{refusal_of}
use Rattle.resolvers.specs.declared.Resolved.TheVariants.{Base, NotFound, TooLong}
use Rattle.resolvers.specs.Resolve.{resolved_numbers}
use Rattle.type_book_check.specs.Check.{at_root}
use Rattle.resolve_walk.specs.Walk.{Walk, over, full, met}
use Rattle.resolve_walk.specs.Reads.{listed}
use Rattle.resolve_walk.specs.Reached.{Needed}
use Rattle.type_index.specs.Index.{index_fits}
use Rattle.resolve_walk.specs.Scratch.{scratch_fits, zeroed}
use Rattle.resolve_missing_types.specs.Needs.{Defined}
use Rattle.resolve_read_modify_write.proofs.Numbers.{rmw_is, rmw_says}
use Rattle.resolve_read_modify_write.specs.declared.Rmw.{Rmw}
use Rattle.resolve_read_modify_write.specs.declared.Rmw.TheVariants as rmw
use Rattle.resolve_read_modify_write.specs.Reads.{rmw_of, keeps_state}
use Rattle.resolve_read_modify_write.specs.Calls.{rmw_numbers, rmw_answer, rmw_call, RmwIs}
use Rattle.closure.specs.Calls.{Ours, book_of, walk_at}
use Rattle.closure.specs.Demand.{root_name, BlockReached, Closed}
use Rattle.closure.proofs.Steps.{Sound, ours}
use Rattle.closure.proofs.Asks.{Theirs, ask-whole, root-check, listed-needed, none-defined}
use Rattle.closure.proofs.Closed.{closed_at}
use Rattle.plan_adds.specs.Adds.{Adding, on, lacks, room, sweep, add_all}
use Rattle.plan_save.specs.Rounds.{Decision, decided, ruled, next_round, closing, round_of, swept_from, rounds_then, plan_from}
use Rattle.plan_save.specs.Call.{plan_refusal, plan_of}
use Rattle.plan_decides.specs.Decides.{PlanDecides}
use Rattle.plan_decides.proofs.Below.{listed_below}
use Rattle.plan_decides.proofs.Fine.{Gone, all-fine}
use Rattle.plan_decides.proofs.Stuck.{Stuck, listed_stuck}

-- ---- read-modify-write of a walk is refused by no number 0
apart-no : (n : ℕ) → rmw.No ≡ rmw.Refused n → ⊥
apart-no n e = let z : ◌≡◌ {A = ℕ} 0 1 = cc in omega arith

apart-yes : (n : ℕ) → rmw.Yes ≡ rmw.Refused n → ⊥
apart-yes n e = let z : ◌≡◌ {A = ℕ} 0 1 = cc in omega arith

apart-lacks : (b n : ℕ) → rmw.NotFound b ≡ rmw.Refused n → ⊥
apart-lacks b n e = let z : ◌≡◌ {A = ℕ} 0 1 = cc in omega arith

same_number : (m n : ℕ) → rmw.Refused m ≡ rmw.Refused n → m ≡ n
same_number m n e = cc

numbered : (book : List ℕ) (width : ℕ) (w : Walk) (n : ℕ) → rmw_of book width w ≡ rmw.Refused n → n ≡ 0 → ⊥
unfolding rmw_of resolved_numbers
numbered book width over n e z = apart-no n e
numbered book width (full b x) n e z = let q : 9 ≡ n = same_number 9 n e in omega arith
numbered book width (met b x (Base t) w) n e z = by (keeps_state (category_of book width t)) (λ q. numbered book width w n q z) e
  where
    by : (g : Bool) → (rmw_of book width w ≡ rmw.Refused n → ⊥) → cond g rmw.Yes (rmw_of book width w) ≡ rmw.Refused n → ⊥
    by true ih e = apart-yes n e
    by false ih e = ih e
numbered book width (met b x (NotFound c) w) n e z = apart-lacks c n e
numbered book width (met b x TooLong w) n e z = let q : 8 ≡ n = same_number 8 n e in omega arith

-- ---- an answer
pub record Answered (c : List ℕ) (width root : ℕ) (name : List ℕ) (o : Decision) : Type 0 where
  pub answer : Bool
  pub final : Ours
  pub is : o ≡ decided answer final
  pub right : (answer ≡ true) ↔ BlockReached c width name
  pub closed : Closed c width root name final

no-yes : rmw.No ≡ rmw.Yes → false ≡ true
no-yes e = cc

true-no : {X : Type 0} → false ≡ true → X
true-no e = let z : ◌≡◌ {A = ℕ} 0 1 = cc in absurd (omega arith)

stuck_apart : (z y : Ours) (a : Adding) → Stuck z a → a ≡ on y → ⊥
stuck_apart z y a (Stuck.nowhere b q) e = let r : lacks b z ≡ on y = sym q ∙ e in let x : ◌≡◌ {A = ℕ} 0 1 = cc in omega arith
stuck_apart z y a (Stuck.full q) e = let r : room z ≡ on y = sym q ∙ e in let x : ◌≡◌ {A = ℕ} 0 1 = cc in omega arith

from_first : (book : List ℕ) → swept_from 1 book ≡ 0
unfolding swept_from
from_first book = refl

-- an index that is long enough, of zeros: any numbers do
spare : List ℕ
spare = replicate 16384 0

spare-fits : index_fits spare ≡ true
unfolding spare
spare-fits = refl

module _ (c : List ℕ) (width root : ℕ) (name : List ℕ) (w : Theirs c width name) (defines : (x : List ℕ) → Needed c width name x → Defined c x)
    (sc : List ℕ) (long : scratch_fits sc ≡ true) where
  -- an ask that lists none
  module _ (s : Ours) (o : Sound c root name s) (e : listed (walk_at width root s) ≡ []) where
    abbrev r : Rmw
    r = rmw_of (book_of s) width (walk_at width root s)

    close : Closed c width root name s
    close = closed_at c width root name w s o (none-defined c width root name w s o e)

    called : RmwIs s.buffer s.len spare width root sc r (zeroed sc)
    unfolding rmw_call at_root rmw_answer
    called =
        record {
          answer = rmw_says _ _ (rw (root-check c width root name w s o, spare-fits, long));
          scratch = rw (root-check c width root name w s o, spare-fits, long);
        }

    decide : (a : Rmw) → r ≡ a → Answered c width root name (ruled a s)
    unfolding ruled rmw_numbers
    decide rmw.Yes q =
        let k = close.keeps spare sc spare-fits long r (zeroed sc) called in
        record { answer = true; final = s; is = refl; right = (λ y. k.0 (rmw_says _ _ q), λ b. refl); closed = close }
    decide rmw.No q =
        let k = close.keeps spare sc spare-fits long r (zeroed sc) called in
        record { answer = false; final = s; is = refl; right = (λ y. true-no y, λ b. no-yes (sym q ∙ rmw_is _ _ (k.1 b))); closed = close }
    decide (rmw.NotFound b) q = let z : refusal_of (rmw_numbers r) ≡ 0 = close.decides spare sc spare-fits long r (zeroed sc) called in let y : ◌≡◌ {A = ℕ} 7 0 = rw q at z in absurd (omega arith)
    decide (rmw.Refused n) q =
        let z : refusal_of (rmw_numbers r) ≡ 0 = close.decides spare sc spare-fits long r (zeroed sc) called in
        absurd (numbered (book_of s) width (walk_at width root s) n q (rw q at z))

  -- an ask that lists some: the adds go on
  goes : (i : ℕ) (s : Ours) → Sound c root name s → (bs : List ℕ) → listed (walk_at width root s) ≡ bs → Gone c w.valid root name width i (add_all c width i bs s)
  goes i s o bs e =
      all-fine c w.valid root name width i s o bs
      (λ x m. listed_below (book_of s) width (ours c w.valid root name s o) root o.holds x (rw e m))
      (λ x m. defines (type_name_of (book_of s) x) (listed-needed c width root name w s o x (rw e m)))

  goes_on_lem : (go : Ours → Decision) (a : Adding) (z : Ours) → a ≡ on z → Answered c width root name (go z) → Answered c width root name (next_round go a)
  unfolding next_round
  goes_on_lem go a z e r = rw e r

  -- what holds where the next round begins: our book was swept from block i on
  abbrev Then : ℕ → (Ours → Decision) → Type 0
  Then i go = (y z : Ours) → Sound c root name y → Sound c root name z → z ≡ sweep c width i y → Answered c width root name (go z)

  closes : (go : Ours → Decision) (i : ℕ) (s : Ours) → Sound c root name s → Then i go → (bs : List ℕ) → listed (walk_at width root s) ≡ bs
      → Answered c width root name (closing go c width i (walk_at width root s) s bs)
  unfolding closing
  closes go i s o ih [] e = decide s o e (rmw_of (book_of s) width (walk_at width root s)) refl
  closes go i s o ih (b ∷ bs) e =
      let f : Gone c w.valid root name width i (add_all c width i (b ∷ bs) s) = goes i s o (b ∷ bs) e in
      goes_on_lem go (add_all c width i (b ∷ bs) s) f.final f.is (ih f.before f.final f.before-sound f.sound f.swept)

  round : (go : Ours → Decision) (i : ℕ) (s : Ours) → Sound c root name s → Then i go → Answered c width root name (round_of go c width i (walk_at width root s) s)
  unfolding round_of
  round go i s o ih = rw (ask-whole c width root name w s o) (closes go i s o ih (listed (walk_at width root s)) refl)

  -- after a sweep from block 0 an ask lists none, since what it lists can be added
  last-closes : (go : Ours → Decision) (i : ℕ) (y z : Ours) → Sound c root name y → Sound c root name z → z ≡ sweep c width 0 y → (bs : List ℕ)
      → listed (walk_at width root z) ≡ bs → Answered c width root name (closing go c width i (walk_at width root z) z bs)
  unfolding closing
  last-closes go i y z p o q [] e = decide z o e (rmw_of (book_of z) width (walk_at width root z)) refl
  last-closes go i y z p o q (b ∷ bs) e =
      absurd (stuck_apart z (goes i z o (b ∷ bs) e).final (add_all c width i (b ∷ bs) z)
      (listed_stuck c w.valid width root y z p.valid o.valid q o.holds i b bs e) (goes i z o (b ∷ bs) e).is)

  last : (go : Ours → Decision) (i : ℕ) (y z : Ours) → Sound c root name y → Sound c root name z → z ≡ sweep c width 0 y
      → Answered c width root name (round_of go c width i (walk_at width root z) z)
  unfolding round_of
  last go i y z p o q = rw (ask-whole c width root name w z o) (last-closes go i y z p o q (listed (walk_at width root z)) refl)

  step : (k : ℕ) (s : Ours) → Answered c width root name (round_of (plan_from c width root k) c width (swept_from k (book_of s)) (walk_at width root s) s)
      → Answered c width root name (plan_from c width root (suc k) s)
  unfolding rounds_then
  step k s a = a

  -- the rounds: the last but one sweeps from block 0
  pub rounds : (k : ℕ) (s : Ours) → Sound c root name s → Answered c width root name (plan_from c width root (suc (suc k)) s)
  rounds zero s o =
      step 1 s (round (plan_from c width root 1) (swept_from 1 (book_of s)) s o
      (λ y z p q e. step 0 z (last (plan_from c width root 0) (swept_from 0 (book_of z)) y z p q (rw (from_first (book_of s)) at e))))
  rounds (suc k) s o = step (suc (suc k)) s (round (plan_from c width root (suc (suc k))) (swept_from (suc (suc k)) (book_of s)) s o (λ y z p q e. rounds k z q))

-- ---- the call
zero-next : (k : ℕ) → or_next 0 k ≡ k
unfolding or_next
zero-next k = refl

module _ (c : List ℕ) (width root : ℕ) (s : Ours) (sc : List ℕ) where
  unrefused : Theirs c width (root_name root s) → Sound c root (root_name root s) s → scratch_fits sc ≡ true → plan_refusal s.buffer s.len c (length c) root sc ≡ 0
  unfolding plan_refusal root_numbers book_numbers
  unrefused w o h = rw (root-check c width root (root_name root s) w s o, w.valid, h) (zero-next (or_next 0 0) ∙ zero-next 0)

  from : (n : ℕ) → n ≡ 0 → plan_of n s.buffer s.len c (length c) width root ≡ plan_from c width root 18 s
  unfolding plan_of
  from n e = rw (e, take-length c)

pub plan-decides : PlanDecides
unfolding PlanDecides
plan-decides c width root s sc p h =
    let name : List ℕ = root_name root s in
    let w : Theirs c width name = record { valid = p.theirs-valid; few = p.few; short = p.short } in
    let o : Sound c root name s = record { valid = p.ours-valid; room = p.room; holds = p.holds; covers = p.covers; named = refl } in
    let a : Answered c width root name (plan_from c width root 18 s) =
    rounds c width root name w p.defines sc h 16 s o in
    record {
      answer = a.answer;
      final = a.final;
      is = from c width root s sc (plan_refusal s.buffer s.len c (length c) root sc) (unrefused c width root s sc w o h) ∙ a.is;
      right = a.right;
      closed = a.closed;
    }
