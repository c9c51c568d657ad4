-- The rounds of a plan are a list of asks and adds. Assumes nothing.
use Rattle.std.specs.Prelude.{Option, Some, None}
use mathlib.Core.Path.{◌≡◌, refl, sym, ap, ◌∙◌, subst}
use mathlib.Core.Bool.{Bool, true, false, cond}
use mathlib.Core.List.{List, [], ◌∷◌, ◌++◌, append-nil, append_assoc}
use Prim.Native.Nat.{ℕ, zero, suc, ◌+◌, ◌-◌}
use native.Mathlib.Omega.{arith}
use borrow.Author.Tests.{eqb-true, eqb-false}
use lib.ListN.{replicate}
use Rattle.type_book_check.specs.declared.BookCheck.TheVariants.{Valid}
use Rattle.type_book_check.specs.Check.{check_book}
use Rattle.type_cache.proofs.Appends.{call_done, call_refused, buffer-kept}
use Rattle.type_cache.proofs.Adds.{Grown, grown}
use lib.Dec.{eqb, ltb}
use Rattle.type_book.specs.Book.{blocks, is_type, type_name_of}
use Rattle.type_provider.specs.Find.{find}
use Rattle.type_cache.specs.Append.{append_refusal}
use Rattle.type_cache.specs.Same.{definition_of}
use Rattle.resolvers.proofs.Chains.{found_type}
use Rattle.resolve_walk.specs.Reads.{listed, whole}
use Rattle.type_index.specs.Index.{index_fits}
use Rattle.resolve_walk.specs.Scratch.{scratch_fits, list_fits}
use Rattle.resolve_read_modify_write.specs.declared.Rmw.{Rmw}
use Rattle.resolve_read_modify_write.specs.declared.Rmw.TheVariants as rmw
use Rattle.resolve_read_modify_write.specs.Reads.{rmw_of}
use Rattle.closure.specs.Calls.{Ours, book_of, Call, ask, add, appended, next, after_calls, Each, none, more, walk_at}
use Rattle.closure.specs.Demand.{Lent, ListedNone, here, later}
use Rattle.plan_adds.specs.declared.Due.{Due}
use Rattle.plan_adds.specs.declared.Due.TheVariants.{Names, Rest}
use Rattle.plan_adds.specs.Adds.{Adding, on, lacks, room, then_on, append_of, fetch_by, fetch_of, add_listed, passing, due_of, sweep_by, sweep_from, sweep, add_all}
use Rattle.plan_save.specs.Rounds.{Decision, decided, lacking, refused, ruled, next_round, closing, not_whole, round_of, swept_from, rounds_then, plan_from}
use Rattle.plan_save.specs.Call.{outcome_ours}
use Rattle.plan_decides.specs.Made.{Made, PlanMade, Extends, PlanKeeps}

-- our buffer after some adds
abbrev end_of : Adding → Ours
end_of (on s) = s
end_of (lacks b s) = s
end_of (room s) = s

-- adds of the controller's, and what they leave
record Adds (c : List ℕ) (s z : Ours) : Type 0 where
  items : List Call
  given : Each c (Lent c) s items
  left : after_calls c items s ≡ z

no-adds : (c : List ℕ) (s : Ours) → Adds c s s
unfolding after_calls
no-adds c s = record { items = []; given = none; left = refl }

after_both : (c : List ℕ) (is js : List Call) (s : Ours) → after_calls c (is ++ js) s ≡ after_calls c js (after_calls c is s)
unfolding after_calls
after_both c [] js s = refl
after_both c (i ∷ is) js s = after_both c is js (next c i s)

-- whether a call is given its due does not depend on the calls after it
given_with : (c : List ℕ) (s : Ours) (i : Call) (is js : List Call) → Lent c s i is → Lent c s i js
given_with c s (ask ix sc ls) is js g = g
given_with c s (add n) is js g = g
given_with c s (Call.bytes m) is js g = g

each_both : (c : List ℕ) (is js : List Call) (s : Ours) → Each c (Lent c) s is → Each c (Lent c) (after_calls c is s) js → Each c (Lent c) s (is ++ js)
unfolding after_calls
each_both c [] js s none h = h
each_both c (i ∷ is) js s (more p g) h = more (given_with c s i is (is ++ js) p) (each_both c is js (next c i s) g h)

then-adds : (c : List ℕ) (s y z : Ours) → Adds c s y → Adds c y z → Adds c s z
then-adds c s y z a b =
    record {
      items = a.items ++ b.items;
      given = each_both c a.items b.items s a.given (rw a.left b.given);
      left = after_both c a.items b.items s ∙ ap (after_calls c b.items) a.left ∙ b.left;
    }

one-add : (c : List ℕ) (s : Ours) (n : ℕ) → is_type c n ≡ true → Adds c s (next c (add n) s)
unfolding after_calls
one-add c s n t = record { items = add n ∷ []; given = more t none; left = refl }

module _ (c : List ℕ) where
  append_adds : (s : Ours) (n : ℕ) → is_type c n ≡ true → Adds c s (end_of (append_of c n s))
  unfolding append_of
  append_adds s n t = by (eqb (append_refusal s.buffer s.len (definition_of c n)) 15)
    where
      by : (g : Bool) → Adds c s (end_of (cond g (room s) (on (next c (add n) s))))
      by true = no-adds c s
      by false = one-add c s n t

  fetch_adds : (s : Ours) (b : ℕ) → Adds c s (end_of (fetch_of c b s))
  unfolding fetch_by
  fetch_adds s b = by (find c (type_name_of (book_of s) b)) refl
    where
      by : (f : Option ℕ) → find c (type_name_of (book_of s) b) ≡ f → Adds c s (end_of (fetch_by c b s f))
      by (Some n) e = append_adds s n (found_type c (type_name_of (book_of s) b) n e)
      by None e = no-adds c s

  pass_end : (a : Adding) → passing a ≡ end_of a
  unfolding passing
  pass_end (on s) = refl
  pass_end (lacks b s) = refl
  pass_end (room s) = refl

  then-end : (s : Ours) (a : Adding) (go : Ours → Adding) → Adds c s (end_of a) → ((z : Ours) → Adds c z (end_of (go z))) → Adds c s (end_of (then_on a go))
  unfolding then_on
  then-end s (on z) go p q = then-adds c s z (end_of (go z)) p (q z)
  then-end s (lacks b z) go p q = p
  then-end s (room z) go p q = p

  listed-adds : (bs : List ℕ) (s : Ours) → Adds c s (end_of (add_listed c bs s))
  unfolding add_listed
  listed-adds [] s = no-adds c s
  listed-adds (b ∷ bs) s = then-end s (fetch_of c b s) (add_listed c bs) (fetch_adds s b) (λ z. listed-adds bs z)

  sweep-by : (go : ℕ → Ours → Ours) → ((d : ℕ) (z : Ours) → Adds c z (go d z)) → (i : ℕ) (s : Ours) (d : Due) → Adds c s (sweep_by go c i s d)
  unfolding sweep_by
  sweep-by go h i s (Names m) =
      let y : Ours = passing (fetch_of c i s) in
      then-adds c s y (go m y) (rw (pass_end (fetch_of c i s)) (fetch_adds s i)) (h m y)
  sweep-by go h i s (Rest m) = h m s

  sweep-adds : (width k i due : ℕ) (s : Ours) → Adds c s (sweep_from c width k i due s)
  unfolding sweep_from
  sweep-adds width zero i due s = no-adds c s
  sweep-adds width (suc k) i due s =
      by (ltb i (blocks (book_of s))) (sweep-by (sweep_from c width k (i + 1)) (λ d z. sweep-adds width k (i + 1) d z) i s (due_of (book_of s) width i due))
    where
      by : (t : Bool) → Adds c s (sweep_by (sweep_from c width k (i + 1)) c i s (due_of (book_of s) width i due))
          → Adds c s (cond t (sweep_by (sweep_from c width k (i + 1)) c i s (due_of (book_of s) width i due)) s)
      by true h = h
      by false h = no-adds c s

  all-adds : (width i : ℕ) (bs : List ℕ) (s : Ours) → Adds c s (end_of (add_all c width i bs s))
  unfolding add_all
  all-adds width i bs s = then-end s (add_listed c bs s) (λ z. on (sweep c width i z)) (listed-adds bs s) (λ z. sweep-adds width (65536 - i) i 0 z)

-- ---- the rounds

apart-lacking : (b : ℕ) (s : Ours) (t : Bool) (z : Ours) → lacking b s ≡ decided t z → ⊥
apart-lacking b s t z e = let q : ◌≡◌ {A = ℕ} 0 1 = cc in omega arith

apart-refused : (n : ℕ) (s : Ours) (t : Bool) (z : Ours) → refused n s ≡ decided t z → ⊥
apart-refused n s t z e = let q : ◌≡◌ {A = ℕ} 0 1 = cc in omega arith

module _ (c : List ℕ) (width root : ℕ) (ix sc list : List ℕ) (i : index_fits ix ≡ true) (p : scratch_fits sc ≡ true) (q : list_fits list ≡ true) where
  -- an ask alone, after which nothing is decided
  asked : (s : Ours) (o : Decision) → s ≡ outcome_ours o → ((t : Bool) (z : Ours) → o ≡ decided t z → listed (walk_at width root s) ≡ []) → Made c width root s o
  unfolding after_calls
  asked s o e h = record { items = ask ix sc list ∷ []; given = more {i = ask ix sc list} (i, p, q) none; left = e; none = λ t z y. here (h t z y) }

  later-both : (is js : List Call) (s : Ours) → ListedNone c width root (after_calls c is s) js → ListedNone c width root s (is ++ js)
  unfolding after_calls
  later-both [] js s h = h
  later-both (i ∷ is) js s h = later (later-both is js (next c i s) h)

  -- an ask, adds, and what a list made after them
  goes_on : (s z : Ours) (o : Decision) → Adds c s z → Made c width root z o → Made c width root s o
  unfolding after_calls
  goes_on s z o a m =
      record {
        items = ask ix sc list ∷ (a.items ++ m.items);
        given = more {i = ask ix sc list} (i, p, q) (each_both c a.items m.items s a.given (rw a.left m.given));
        left = after_both c a.items m.items s ∙ ap (after_calls c m.items) a.left ∙ m.left;
        none = λ t y e. later (later-both a.items m.items s (rw a.left (m.none t y e)));
      }

  -- an ask, and adds that ended
  ended : (s z : Ours) (o : Decision) → Adds c s z → z ≡ outcome_ours o → ((t : Bool) (y : Ours) → o ≡ decided t y → ⊥) → Made c width root s o
  unfolding after_calls
  ended s z o a e h =
      record { items = ask ix sc list ∷ a.items; given = more {i = ask ix sc list} (i, p, q) a.given; left = a.left ∙ e; none = λ t y k. absurd (h t y k) }

  next-made : (go : Ours → Decision) → ((z : Ours) → Made c width root z (go z)) → (s : Ours) (a : Adding) → Adds c s (end_of a) → Made c width root s (next_round go a)
  unfolding next_round outcome_ours
  next-made go h s (on z) a = goes_on s z (go z) a (h z)
  next-made go h s (lacks b z) a = ended s z (lacking b z) a refl (apart-lacking b z)
  next-made go h s (room z) a = ended s z (refused 15 z) a refl (apart-refused 15 z)

  ruled-made : (s : Ours) → listed (walk_at width root s) ≡ [] → (r : Rmw) → Made c width root s (ruled r s)
  unfolding ruled outcome_ours
  ruled-made s e rmw.Yes = asked s (decided true s) refl (λ t z y. e)
  ruled-made s e rmw.No = asked s (decided false s) refl (λ t z y. e)
  ruled-made s e (rmw.NotFound b) = asked s (lacking b s) refl (λ t z y. e)
  ruled-made s e (rmw.Refused n) = asked s (refused n s) refl (λ t z y. e)

  closing-made : (i : ℕ) (go : Ours → Decision) → ((z : Ours) → Made c width root z (go z)) → (s : Ours) (bs : List ℕ) → listed (walk_at width root s) ≡ bs
      → Made c width root s (closing go c width i (walk_at width root s) s bs)
  unfolding closing
  closing-made i go h s [] e = ruled-made s e (rmw_of (book_of s) width (walk_at width root s))
  closing-made i go h s (b ∷ bs) e = next-made go h s (add_all c width i (b ∷ bs) s) (all-adds c width i (b ∷ bs) s)

  round-made : (i : ℕ) (go : Ours → Decision) → ((z : Ours) → Made c width root z (go z)) → (s : Ours) → Made c width root s (round_of go c width i (walk_at width root s) s)
  unfolding round_of outcome_ours
  round-made i go h s = by (whole (walk_at width root s)) (closing-made i go h s (listed (walk_at width root s)) refl)
    where
      by : (t : Bool) → Made c width root s (closing go c width i (walk_at width root s) s (listed (walk_at width root s)))
          → Made c width root s (cond t (closing go c width i (walk_at width root s) s (listed (walk_at width root s))) (refused (not_whole (walk_at width root s)) s))
      by true m = m
      by false m = asked s (refused (not_whole (walk_at width root s)) s) refl (λ t z y. absurd (apart-refused (not_whole (walk_at width root s)) s t z y))

  none_made : (s : Ours) → Made c width root s (plan_from c width root 0 s)
  unfolding rounds_then outcome_ours after_calls
  none_made s = record { items = []; given = none; left = refl; none = λ t z y. absurd (apart-refused 15 s t z y) }

  step-made : (k : ℕ) (s : Ours) → Made c width root s (round_of (plan_from c width root k) c width (swept_from k (book_of s)) (walk_at width root s) s) → Made c width root s (plan_from c width root (suc k) s)
  unfolding rounds_then
  step-made k s m = m

  rounds-made : (k : ℕ) (s : Ours) → Made c width root s (plan_from c width root k s)
  rounds-made zero s = none_made s
  rounds-made (suc k) s = step-made k s (round-made (swept_from k (book_of s)) (plan_from c width root k) (λ z. rounds-made k z) s)

pub plan-made : PlanMade
unfolding PlanMade
plan-made c width root k s ix sc list i p q = rounds-made c width root ix sc list i p q k s

-- ---- our book stays valid

pub extends_same : (s : Ours) → check_book s.buffer s.len ≡ Valid → Extends s s
extends_same s v = record { valid = v; more = []; grows = sym (append-nil (book_of s)) }

pub extends_then : (s y z : Ours) → Extends s y → Extends y z → Extends s z
extends_then s y z a b =
    record {
      valid = b.valid;
      more = a.more ++ b.more;
      grows = b.grows ∙ ap (λ (l : List ℕ). l ++ b.more) a.grows ∙ append_assoc (book_of s) a.more b.more;
    }

-- appending leaves the book as it was, or with the addition after it
module _ (s : Ours) (d : List ℕ) (v : check_book s.buffer s.len ≡ Valid) where
  appended_extends : Extends s (appended s d)
  appended_extends = by (eqb (append_refusal s.buffer s.len d) 0) refl
    where
      by : (g : Bool) → eqb (append_refusal s.buffer s.len d) 0 ≡ g → Extends s (appended s d)
      by true e =
          let h : append_refusal s.buffer s.len d ≡ 0 = eqb-true _ _ e in
          let g : Grown s.buffer s.len d = grown s.buffer s.len d h in
          record { valid = rw (call_done s.buffer s.len d h) g.check; more = d; grows = rw (call_done s.buffer s.len d h) g.book }
      by false e =
          let h : append_refusal s.buffer s.len d ≡ 0 → ⊥ = eqb-false _ _ e in
          rw (buffer-kept s.buffer s.len d h, call_refused s.buffer s.len d h) (extends_same s v)

pub extends_next : (c : List ℕ) (s : Ours) (i : Call) → check_book s.buffer s.len ≡ Valid → Extends s (next c i s)
extends_next c s (ask ix sc ls) v = extends_same s v
extends_next c s (add n) v = appended_extends s (definition_of c n) v
extends_next c s (Call.bytes m) v = appended_extends s m v

extends_after : (c : List ℕ) (is : List Call) (s : Ours) → check_book s.buffer s.len ≡ Valid → Extends s (after_calls c is s)
unfolding after_calls
extends_after c [] s v = extends_same s v
extends_after c (i ∷ is) s v =
    let a : Extends s (next c i s) = extends_next c s i v in
    extends_then s (next c i s) (after_calls c is (next c i s)) a (extends_after c is (next c i s) a.valid)

pub plan-keeps : PlanKeeps
unfolding PlanKeeps
plan-keeps c width root k s v =
    let m : Made c width root s (plan_from c width root k s) =
    rounds-made c width root (replicate 16384 0) (replicate 8192 0) (replicate 4096 0) refl refl refl k s in
    subst (λ (z : Ours). Extends s z) m.left (extends_after c m.items s v)
