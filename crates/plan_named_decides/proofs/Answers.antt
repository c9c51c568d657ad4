-- On the premises of demand 3 from nothing the call answers, and rightly: the root, where our book lacks it, is one add more. Assumes nothing.
use Rattle.std.specs.Prelude.{Option, Some, None}
use mathlib.Core.Path.{◌≡◌, refl, sym, ap, ◌∙◌, subst}
use mathlib.Core.Bool.{Bool, true, false}
use mathlib.Core.List.{List, []}
use Prim.Native.Nat.{ℕ}
use lib.ListN.{length}
use lib.Seq.{take-length}
use lib.Dec.{eqb}
use Rattle.type_book.specs.Book.{blocks, is_type, name_of}
use Rattle.type_provider.specs.Find.{find}
use Rattle.type_provider.proofs.Finds.{find-named, named-name}
use Rattle.type_book_check.specs.declared.BookCheck.TheVariants.{Valid}
use Rattle.type_book_check.specs.declared.GivenRoot.TheVariants.{Block}
use Rattle.type_book_check.specs.Check.{check_book, book_numbers}
use Rattle.type_book_check.specs.Given.{lacking_root, is_root_name, at_given}
use Rattle.type_book_check.specs.Given as given
use Rattle.type_book_check.proofs.Numbers.{valid-number}
use Rattle.type_book_check.proofs.Valid.{valid-book}
use Rattle.type_book_check.proofs.Givens.{named-found, given-answer}
use Rattle.type_cache.specs.Append.{or_next, append_refusal}
use Rattle.type_cache.specs.Same.{definition_of}
use Rattle.type_cache.proofs.Joins.{find-kept}
use Rattle.resolvers.proofs.Chains.{found_type}
use Rattle.resolve_walk.specs.Scratch.{scratch_fits}
use Rattle.resolve_walk.specs.Reached.{reached, start}
use Rattle.resolve_missing_types.specs.Needs.{Defined}
use Rattle.closure.specs.Calls.{Ours, book_of, add, next}
use Rattle.closure.proofs.Bases.{Base, base-add, add_none, add-longer, add-added}
use Rattle.closure.proofs.Asks.{Theirs}
use Rattle.closure_named.specs.Named.{NamedPremises, NamedClosed}
use Rattle.closure_named.proofs.Lacks.{given-found, given-lacks, sound-at}
use Rattle.closure_named.proofs.Nothing.{name-formed}
use Rattle.plan_adds.specs.Adds.{on, append_of, fetch_by}
use Rattle.plan_save.specs.Rounds.{next_round, plan_from}
use Rattle.plan_save.specs.Call.{outcome_ours}
use Rattle.plan_save.proofs.Ends.{or_next_lem}
use Rattle.plan_decides.specs.Made.{Extends, PlanKeeps}
use Rattle.plan_decides.proofs.Answers.{Answered, rounds}
use Rattle.plan_decides.proofs.Items.{extends_same, extends_then, extends_next, plan-keeps}
use Rattle.plan_named.specs.Named.{plan_by_name, named_refusal, plan_named_of}
use Rattle.plan_named_decides.specs.Decides.{NamedDecides, PlanNamedDecides, PlanNamedKeeps}

-- ---- our book stays valid

keeps : (c : List ℕ) (width root : ℕ) (s : Ours) → check_book s.buffer s.len ≡ Valid → Extends s (outcome_ours (plan_from c width root 18 s))
unfolding PlanKeeps
keeps c width root s v = plan-keeps c width root 18 s v

-- the root is added: our book as it was, or with the definition after it, and then the rounds
module _ (c : List ℕ) (width : ℕ) (s : Ours) (v : check_book s.buffer s.len ≡ Valid) where
  after-root : (f : Option ℕ) → Extends s (outcome_ours (next_round (plan_from c width (blocks (book_of s)) 18) (fetch_by c lacking_root s f)))
  unfolding next_round fetch_by append_of outcome_ours
  after-root None = extends_same s v
  after-root (Some n) = by (eqb (append_refusal s.buffer s.len (definition_of c n)) 15) refl
    where
      by : (t : Bool) → eqb (append_refusal s.buffer s.len (definition_of c n)) 15 ≡ t
          → Extends s (outcome_ours (next_round (plan_from c width (blocks (book_of s)) 18) (append_of c n s)))
      by true e = rw e (extends_same s v)
      by false e =
          let a : Extends s (next c (add n) s) = extends_next c s (add n) v in
          rw e (extends_then s (next c (add n) s) _ a (keeps c width (blocks (book_of s)) (next c (add n) s) a.valid))

pub plan-named-keeps : PlanNamedKeeps
unfolding PlanNamedKeeps plan_by_name
plan-named-keeps c width name s (Some t) v = keeps c width t s v
plan-named-keeps c width name s None v = after-root c width s v (find c name)

-- ---- the answer

module _ (c : List ℕ) (width : ℕ) (name : List ℕ) (formed : is_root_name name ≡ true) where
  -- a book that has the root's name at block t, and what the rounds for t leave of it
  answered : (t : ℕ) (y : Ours) → check_book y.buffer y.len ≡ Valid → find (book_of y) name ≡ Some t
      → (a : Answered c width t name (plan_from c width t 18 y)) → NamedClosed c width name a.final
  unfolding outcome_ours
  answered t y v e a =
      let z : Ours = a.final in
      let x : Extends y z = rw a.is at (keeps c width t y v) in
      let f : find (book_of z) name ≡ Some t = rw x.grows (find-kept (book_of y) x.more (valid-book y.buffer y.len v) name t e) in
      record {
        at = t;
        found = f;
        given = sym (given-answer z.buffer z.len (check_book z.buffer z.len) refl 0 (valid-number _ x.valid) refl (given.name name) (Block t)
            (named-found (book_of z) name true (sym formed) refl (find (book_of z) name) refl t f));
        closed = a.closed;
      }

module _ (c : List ℕ) (width : ℕ) (name : List ℕ) (s : Ours) (sc : List ℕ) (p : NamedPremises c width name s []) (h : scratch_fits sc ≡ true) where
  w : Theirs c width name
  w = record { valid = p.theirs-valid; few = p.few; short = p.short }

  o : Base c s
  o = record { valid = p.ours-valid; room = p.room; covers = p.covers }

  root : Defined c name
  root = p.defines name (reached (start refl))

  formed : is_root_name name ≡ true
  formed = name-formed c p.theirs-valid name root

  unrefused : (f : Option ℕ) → find (book_of s) name ≡ f → named_refusal s.buffer s.len c (length c) name sc ≡ 0
  unfolding named_refusal at_given book_numbers
  unrefused (Some t) e = rw (given-found c name formed s o t e, w.valid, h) (or_next_lem 0 (or_next 0 0) refl ∙ or_next_lem 0 0 refl)
  unrefused None e = rw (given-lacks c name formed s o e, w.valid, h) (or_next_lem 0 (or_next 0 0) refl ∙ or_next_lem 0 0 refl)

  from : (n : ℕ) → n ≡ 0 → plan_named_of n s.buffer s.len c (length c) width name ≡ plan_by_name c width name s (find (book_of s) name)
  unfolding plan_named_of
  from n e = rw (e, take-length c)

  -- the rounds for the root's block in book y, of our book or of the one with the root after it
  decides : (t : ℕ) (y : Ours) → Base c y → (e : find (book_of y) name ≡ Some t) (f : Option ℕ) → find (book_of s) name ≡ f
      → plan_by_name c width name s f ≡ plan_from c width t 18 y → NamedDecides c width name s sc
  decides t y b e f q g =
      let a : Answered c width t name (plan_from c width t 18 y) = rounds c width t name w p.defines sc h 16 y (sound-at c name y b t e) in
      record {
        answer = a.answer;
        final = a.final;
        is = from (named_refusal s.buffer s.len c (length c) name sc) (unrefused f q) ∙ ap (plan_by_name c width name s) q ∙ g ∙ a.is;
        right = a.right;
        closed = answered c width name formed t y b.valid e a;
      }

  -- our book lacks the root: its definition is added, and nothing refuses it
  module _ (e : find (book_of s) name ≡ None) where
    abbrev n : ℕ
    n = root.at

    type : is_type c n ≡ true
    type = found_type c name n root.found

    named : name_of c n ≡ name
    named = named-name c name n (find-named c name n root.found).named

    lacking : find (book_of s) (name_of c n) ≡ None
    lacking = rw named e

    taken : append_of c n s ≡ on (next c (add n) s)
    unfolding append_of
    taken = rw (add_none c w.valid s o n type lacking)

    found : find (book_of (next c (add n) s)) name ≡ Some (blocks (book_of s))
    found =
        let q : find (book_of (next c (add n) s)) (name_of c n) ≡ Some (blocks (book_of s)) =
        rw (add-longer c w.valid s o n type lacking) (add-added c w.valid s o n type lacking).found in
        subst (λ (x : List ℕ). find (book_of (next c (add n) s)) x ≡ Some (blocks (book_of s))) named q

    goes_on : plan_by_name c width name s None ≡ plan_from c width (blocks (book_of s)) 18 (next c (add n) s)
    unfolding plan_by_name next_round fetch_by
    goes_on = rw (root.found, taken)

  pub is-decided : (f : Option ℕ) → find (book_of s) name ≡ f → NamedDecides c width name s sc
  unfolding plan_by_name
  is-decided (Some t) e = decides t s o e (Some t) e refl
  is-decided None e =
      decides (blocks (book_of s)) (next c (add root.at) s) (base-add c w.valid s o root.at (type e)) (found e) None e (goes_on e)

pub plan-named-decides : PlanNamedDecides
unfolding PlanNamedDecides
plan-named-decides c width name s sc p h = is-decided c width name s sc p h (find (book_of s) name) refl
