-- A plan by a name is a list of asks and adds: the root's add, if our book lacks it, and then the rounds. Assumes nothing.
use Rattle.std.specs.Prelude.{Option, Some, None}
use mathlib.Core.Path.{◌≡◌, refl, sym, subst}
use mathlib.Core.Bool.{Bool, true, false}
use mathlib.Core.List.{List, [], ◌∷◌}
use Prim.Native.Nat.{ℕ}
use native.Mathlib.Omega.{arith}
use lib.ListN.{length}
use Rattle.type_book.specs.Book.{blocks, is_type, name_of}
use Rattle.type_provider.specs.Find.{find}
use Rattle.type_provider.proofs.Finds.{find-named, named-name}
use Rattle.type_book_check.specs.declared.BookCheck.TheVariants.{Valid}
use Rattle.type_book_check.specs.Check.{check_book, ValidBook}
use Rattle.type_book_check.specs.Given.{lacking_root}
use Rattle.type_book_check.proofs.Numbers.{valid-number}
use Rattle.type_book_check.proofs.Valid.{valid-book}
use Rattle.type_index.specs.Index.{index_fits}
use Rattle.type_cache.specs.Append.{append_refusal, has_room}
use Rattle.type_cache.specs.Same.{definition_of}
use Rattle.type_cache.proofs.Appends.{refused-room, known-not, call_done}
use Rattle.type_cache.proofs.Adds.{definition_size, definition_name, definition_whole, add-lacking, Grown, grown, added}
use Rattle.type_cache.proofs.Joins.{find-kept}
use Rattle.resolvers.proofs.Chains.{found_type}
use Rattle.resolve_walk.specs.Scratch.{scratch_fits, list_fits}
use Rattle.closure.specs.Calls.{Ours, book_of, Call, add, next, after_calls, none, more}
use Rattle.closure.specs.Demand.{Lent, ListedNone}
use Rattle.closure.specs.Demand as demand
use Rattle.closure_named.specs.Named.{NamedNone, here, later}
use Rattle.plan_adds.specs.Adds.{append_of, fetch_by}
use Rattle.plan_save.specs.Rounds.{Decision, decided, lacking, refused, next_round, plan_from}
use Rattle.plan_save.specs.Call.{outcome_ours}
use Rattle.plan_decides.specs.Made.{Made, PlanMade, Extends}
use Rattle.plan_decides.proofs.Items.{extends_next, plan-made}
use Rattle.plan_named.specs.Named.{plan_by_name}
use Rattle.plan_named_decides.specs.Made.{NamedMade, PlanNamedMade}

rounds-made : (c : List ℕ) (width root : ℕ) (s : Ours) (ix sc list : List ℕ) → index_fits ix ≡ true → scratch_fits sc ≡ true → list_fits list ≡ true
    → Made c width root s (plan_from c width root 18 s)
unfolding PlanMade
rounds-made c width root s ix sc list i p q = plan-made c width root 18 s ix sc list i p q

-- what our book has stays at its block, so an ask by the block is one by the name
named_none : (c : List ℕ) (width t : ℕ) (name : List ℕ) {s : Ours} {is : List Call} → ListedNone c width t s is → check_book s.buffer s.len ≡ Valid
    → find (book_of s) name ≡ Some t → NamedNone c width name s is
named_none c width t name (demand.here h) v e = here e h
named_none c width t name (demand.later {s} {i} {is} r) v e =
    let x : Extends s (next c i s) = extends_next c s i v in
    later (named_none c width t name r x.valid (rw x.grows (find-kept (book_of s) x.more (valid-book s.buffer s.len v) name t e)))

lacking-apart : (b : ℕ) (s : Ours) (t : Bool) (z : Ours) → lacking b s ≡ decided t z → ⊥
lacking-apart b s t z e = let y : ◌≡◌ {A = ℕ} 0 1 = cc in omega arith

refused-apart : (n : ℕ) (s : Ours) (t : Bool) (z : Ours) → refused n s ≡ decided t z → ⊥
refused-apart n s t z e = let y : ◌≡◌ {A = ℕ} 0 1 = cc in omega arith

module _ (c : List ℕ) (width : ℕ) (name : List ℕ) (s : Ours) (ix sc list : List ℕ) (i : index_fits ix ≡ true) (p : scratch_fits sc ≡ true) (q : list_fits list ≡ true)
    (w : ValidBook c) (v : check_book s.buffer s.len ≡ Valid) where
  abbrev go : Ours → Decision
  go = plan_from c width (blocks (book_of s)) 18

  has : (t : ℕ) → find (book_of s) name ≡ Some t → NamedMade c width name s (plan_from c width t 18 s)
  has t e =
      let m : Made c width t s (plan_from c width t 18 s) = rounds-made c width t s ix sc list i p q in
      record { items = m.items; given = m.given; left = m.left; none = λ b z h. named_none c width t name (m.none b z h) v e }

  module _ (e : find (book_of s) name ≡ None) (n : ℕ) (f : find c name ≡ Some n) where
    abbrev d : List ℕ
    d = definition_of c n

    type : is_type c n ≡ true
    type = found_type c name n f

    named : name_of c n ≡ name
    named = named-name c name n (find-named c name n f).named

    new : find (book_of s) (name_of c n) ≡ None
    new = rw named e

    -- there is room for the root's definition: its add, and the rounds for its block
    module _ (r : has_room (length s.buffer) s.len (length d) ≡ true) where
      accepted : append_refusal s.buffer s.len d ≡ 0
      accepted = add-lacking c w n type s.buffer s.len v new r

      grows : Grown s.buffer s.len d
      grows = grown s.buffer s.len d accepted

      after : Extends s (next c (add n) s)
      after = extends_next c s (add n) v

      found : find (book_of (next c (add n) s)) name ≡ Some (blocks (book_of s))
      found =
          let y : find (book_of (next c (add n) s)) (name_of c n) ≡ Some (blocks (book_of s)) =
          rw (call_done s.buffer s.len d accepted, grows.book)
          (added (book_of s) c n (valid-book s.buffer s.len v) w type new (omega (arith, grows.few, definition_size c w n type))).found in
          subst (λ (x : List ℕ). find (book_of (next c (add n) s)) x ≡ Some (blocks (book_of s))) named y

      adds : NamedMade c width name s (go (next c (add n) s))
      unfolding after_calls
      adds =
          let m : Made c width (blocks (book_of s)) (next c (add n) s) (go (next c (add n) s)) =
          rounds-made c width (blocks (book_of s)) (next c (add n) s) ix sc list i p q in
          record {
            items = add n ∷ m.items;
            given = more type m.given;
            left = m.left;
            none = λ b z h. later (named_none c width (blocks (book_of s)) name (m.none b z h) after.valid found);
          }

    full : has_room (length s.buffer) s.len (length d) ≡ false → append_refusal s.buffer s.len d ≡ 15
    full r =
        sym (refused-room s.buffer s.len d (check_book s.buffer s.len) refl 0 (valid-number _ v) refl 0 (sym (definition_whole c w n type)) refl
        (name_of d 0) refl false (known-not (book_of s) (name_of d 0) (find (book_of s) (name_of d 0)) refl (rw (definition_name c w n type) new)) refl false (sym r) refl)

    fetches : (t : Bool) → has_room (length s.buffer) s.len (length d) ≡ t → NamedMade c width name s (next_round go (append_of c n s))
    unfolding append_of next_round outcome_ours after_calls
    fetches true r = rw (accepted r) (adds r)
    fetches false r = rw (full r) (record { items = []; given = none; left = refl; none = λ b z h. absurd (refused-apart 15 s b z h) })

  lacks : find (book_of s) name ≡ None → (f : Option ℕ) → find c name ≡ f → NamedMade c width name s (next_round go (fetch_by c lacking_root s f))
  unfolding fetch_by next_round outcome_ours after_calls
  lacks e (Some n) f = fetches e n f (has_room (length s.buffer) s.len (length (definition_of c n))) refl
  lacks e None f = record { items = []; given = none; left = refl; none = λ b z h. absurd (lacking-apart lacking_root s b z h) }

  pub is_made : (f : Option ℕ) → find (book_of s) name ≡ f → NamedMade c width name s (plan_by_name c width name s f)
  unfolding plan_by_name
  is_made (Some t) e = has t e
  is_made None e = lacks e (find c name) refl

pub plan-named-made : PlanNamedMade
unfolding PlanNamedMade
plan-named-made c width name s ix sc list i p q w v = is_made c width name s ix sc list i p q w v (find (book_of s) name) refl
