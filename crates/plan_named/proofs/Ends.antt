-- The plan for a root by its name: one law for each way out. Assumes nothing.
use Rattle.std.specs.Prelude.{Option, Some, None}
use mathlib.Core.Path.{◌≡◌, refl, sym, ap, ◌∙◌}
use mathlib.Core.Bool.{Bool, true, false, cond, not}
use mathlib.Core.List.{List}
use Prim.Native.Nat.{ℕ, ◌+◌, ◌/◌, ◌<◌}
use native.Mathlib.Omega.{arith}
use borrow.Author.Tests.{ne_eqb, eqb-true, eqb-false, lt-ltb, not-true, not-false}
use lib.ListN.{length, take, replicate}
use lib.Dec.{eqb}
use Rattle.enc_number.specs.Answer.{refusal_of}
use Rattle.type_book.specs.Book.{blocks, is_type, name_of}
use Rattle.type_provider.specs.Find.{find, found_numbers}
use Rattle.type_provider.proofs.Numbers.{found-is}
use Rattle.type_provider.proofs.Finds.{find-named, named-kind, named-name}
use Rattle.type_book_check.specs.declared.BookCheck.TheVariants.{Valid}
use Rattle.type_book_check.specs.declared.RootCheck.TheVariants.{Root}
use Rattle.type_book_check.specs.declared.GivenRoot.{GivenRoot}
use Rattle.type_book_check.specs.declared.GivenRoot.TheVariants as root
use Rattle.type_book_check.specs.Check.{check_book, book_numbers, check_root, root_of, root_numbers, ValidBook}
use Rattle.type_book_check.specs.Given.{lacking_root, check_given, given_root, found_root, is_root_name, at_given}
use Rattle.type_book_check.specs.Given as given
use Rattle.type_book_check.proofs.Numbers.{zero-valid, valid-number}
use Rattle.type_book_check.proofs.Valid.{valid-book, valid_in, valid-below, valid-size}
use Rattle.type_book_check.proofs.Givens.{named-valid, lacking-valid}
use Rattle.type_cache.specs.declared.Appended.{Appended}
use Rattle.type_cache.specs.declared.Appended.TheVariants.{Done, Refused}
use Rattle.type_cache.specs.Append.{or_next, has_room, append_refusal, append_call, append_buffer, AppendIs}
use Rattle.type_cache.specs.Same.{definition_of}
use Rattle.type_cache.proofs.Numbers.{appended-is}
use Rattle.type_cache.proofs.Appends.{refused-room, call_done, buffer-kept, done_none, known-not}
use Rattle.type_cache.proofs.Adds.{definition_size, definition_name, definition_whole, add-lacking, Grown, grown, Added, added}
use Rattle.resolve_walk.specs.Scratch.{scratch_fits}
use Rattle.plan_adds.specs.declared.Added.{Added as Answer}
use Rattle.plan_adds.specs.declared.Added.TheVariants.{More, NotFound, Full}
use Rattle.plan_adds.specs.Adds.{ours, on, room, lacks, append_of, fetch_by}
use Rattle.plan_adds.specs.State.{added_said}
use Rattle.plan_save.specs.declared.Plan.{Plan}
use Rattle.plan_save.specs.declared.Plan.TheVariants as plan
use Rattle.plan_save.specs.Rounds.{Decision, next_round, plan_from}
use Rattle.plan_save.specs.Call.{outcome_numbers, outcome_ours, plan_refusal, plan_of, PlanDone, PlanIs}
use Rattle.plan_save.proofs.Turns.{book-cut}
use Rattle.plan_save.proofs.Ends.{or_here, or_next_lem}
use Rattle.plan_named.specs.Named.{plan_by_name, named_refusal, plan_named_of, PlanNamedIs}
use Rattle.plan_named.specs.State.{RootAdded, EndedIs}

found-apart : (n : ℕ) → Some n ≡ None → ⊥
found-apart n e = let z : ◌≡◌ {A = ℕ} 0 1 = cc in omega arith

-- ---- adding the root
module _ (c : List ℕ) (v : ValidBook c) (name buffer : List ℕ) (len : ℕ) (b : check_book buffer len ≡ Valid) (new : find (take len buffer) name ≡ None)
    (f : Option ℕ) (ef : found_numbers f ≡ found_numbers (find c name)) where
  is-find : f ≡ find c name
  is-find = found-is _ _ ef

  pub root-nowhere : f ≡ None → RootAdded c name buffer len (NotFound lacking_root len) buffer
  unfolding added_said fetch_by
  root-nowhere h = record { is = rw (← is-find, h); valid = b; holds = λ l e. let z : ◌≡◌ {A = ℕ} 0 1 = cc in absurd (omega arith) }

  module _ (n : ℕ) (h : f ≡ Some n) where
    at : find c name ≡ Some n
    at = sym is-find ∙ h

    pub root-type : is_type c n ≡ true
    root-type = named-kind c name n (find-named c name n at).named

    named : name_of c n ≡ name
    named = named-name c name n (find-named c name n at).named

    lacking : find (take len buffer) (name_of c n) ≡ None
    lacking = rw named new

    fetched : fetch_by c lacking_root (ours buffer len) (find c name) ≡ append_of c n (ours buffer len)
    unfolding fetch_by
    fetched = rw at

    module _ (d : List ℕ) (ed : d ≡ definition_of c n) (r : Appended) (after : List ℕ) (a : AppendIs buffer len d r after) where
      is : r ≡ append_call buffer len (definition_of c n)
      is = rw ed at (appended-is r _ a.answer)

      bytes : after ≡ append_buffer buffer len (definition_of c n)
      bytes = rw ed at a.bytes

      module _ (l : ℕ) (q : r ≡ Done l) where
        none : append_refusal buffer len (definition_of c n) ≡ 0
        none = done_none buffer len (definition_of c n) l (sym is ∙ q)

        grows : Grown buffer len (definition_of c n)
        grows = grown buffer len (definition_of c n) none

        long : l ≡ len + length (definition_of c n)
        long = let z : Done l ≡ Done (len + length (definition_of c n)) = sym q ∙ is ∙ call_done buffer len (definition_of c n) none in cc

        longer : Added (take len buffer) c n (take l after)
        longer =
            rw (long, bytes, grows.book)
            (added (take len buffer) c n (valid-book buffer len b) v root-type lacking (omega (arith, grows.few, definition_size c v n root-type)))

        said : on (ours after l) ≡ append_of c n (ours buffer len)
        unfolding append_of
        said = rw (none, call_done buffer len (definition_of c n) none, long, bytes)

        pub root-added : RootAdded c name buffer len (More l) after
        unfolding added_said
        root-added =
            record {
              is = said ∙ sym fetched;
              valid = rw (long, bytes) grows.check;
              holds = λ m e. let z : l ≡ m = cc in rw (← z) longer.type;
            }

      module _ (k : ℕ) (q : r ≡ Refused k) where
        some : append_refusal buffer len (definition_of c n) ≡ 0 → ⊥
        some z = let y : Refused k ≡ Done (len + length (definition_of c n)) = sym q ∙ is ∙ call_done buffer len (definition_of c n) z in let x : ◌≡◌ {A = ℕ} 0 1 = cc in omega arith

        -- a definition of a lacking name is refused for want of room alone
        full : append_refusal buffer len (definition_of c n) ≡ 15
        full = by (has_room (length buffer) len (length (definition_of c n))) refl
          where
            by : (t : Bool) → has_room (length buffer) len (length (definition_of c n)) ≡ t → append_refusal buffer len (definition_of c n) ≡ 15
            by true e = absurd (some (add-lacking c v n root-type buffer len b lacking e))
            by false e =
                sym (refused-room buffer len (definition_of c n) (check_book buffer len) refl 0 (valid-number _ b) refl 0 (sym (definition_whole c v n root-type)) refl
                (name_of (definition_of c n) 0) refl false
                (known-not (take len buffer) (name_of (definition_of c n) 0) (find (take len buffer) (name_of (definition_of c n) 0)) refl (rw (definition_name c v n root-type) lacking)) refl
                false (sym e) refl)

        same : after ≡ buffer
        same = bytes ∙ buffer-kept buffer len (definition_of c n) some

        pub root-full : RootAdded c name buffer len (Full len) after
        unfolding added_said append_of
        root-full =
            record {
              is = rw same (sym (fetched ∙ rw full));
              valid = rw same b;
              holds = λ m e. let z : ◌≡◌ {A = ℕ} 0 1 = cc in absurd (omega arith);
            }

-- ---- an answer without rounds
pub ended_is : (p : Plan) (sc sc' hints hints' : List ℕ) → sc' ≡ replicate (length sc) 0 → hints' ≡ replicate (length hints) 0 → EndedIs p sc hints p sc' hints'
ended_is p sc sc' hints hints' e h = record { same = refl; scratch = e; index = h }

-- ---- where all was checked
module _ (buffer : List ℕ) (len : ℕ) (b : check_book buffer len ≡ Valid) where
  first-after : len / 512 ≡ blocks (take len buffer)
  first-after = omega (arith, book-cut buffer len b)

  pub first_fits : len / 512 < 4294967296
  first_fits = omega (arith, first-after, (valid-size (take len buffer) (valid-book buffer len b)).few)

  module _ (c : List ℕ) (width : ℕ) (name : List ℕ) (a : Answer) (after : List ℕ) (o : RootAdded c name buffer len a after) where
    module _ (l : ℕ) (e : a ≡ More l) where
      pub added-valid : check_book after l ≡ Valid
      added-valid = rw e at o.valid

      pub added-holds : is_type (take l after) (len / 512) ≡ true
      added-holds = rw first-after (o.holds l e)

    module _ (sc hints : List ℕ) (r : Plan) (after' sc' hints' : List ℕ) where
      pub lacking-more : (l : ℕ) → a ≡ More l → PlanDone (plan_from c width (len / 512) 18 (ours after l)) sc hints r after' sc' hints'
          → PlanDone (plan_by_name c width name (ours buffer len) None) sc hints r after' sc' hints'
      unfolding plan_by_name next_round added_said
      lacking-more l e p =
          let q : fetch_by c lacking_root (ours buffer len) (find c name) ≡ on (ours after l) = sym o.is ∙ rw e in
          rw (q, ← first-after) p

    module _ (sc hints : List ℕ) (r : Plan) (sc' hints' : List ℕ) where
      pub lacking-nowhere : (k l : ℕ) → a ≡ NotFound k l → EndedIs (plan.NotFound k l) sc hints r sc' hints'
          → PlanDone (plan_by_name c width name (ours buffer len) None) sc hints r after sc' hints'
      unfolding plan_by_name next_round added_said outcome_numbers outcome_ours
      lacking-nowhere k l e p =
          let q : fetch_by c lacking_root (ours buffer len) (find c name) ≡ lacks k (ours after l) = sym o.is ∙ rw e in
          record { answer = rw (p.same, q); bytes = rw q; scratch = p.scratch; index = p.index }

      pub lacking-full : (l : ℕ) → a ≡ Full l → EndedIs (plan.Refused 15 l) sc hints r sc' hints'
          → PlanDone (plan_by_name c width name (ours buffer len) None) sc hints r after sc' hints'
      unfolding plan_by_name next_round added_said outcome_numbers outcome_ours
      lacking-full l e p =
          let q : fetch_by c lacking_root (ours buffer len) (find c name) ≡ room (ours after l) = sym o.is ∙ rw e in
          record { answer = rw (p.same, q); bytes = rw q; scratch = p.scratch; index = p.index }

-- ---- the refusals before the asks and adds

-- one leaves all as it was
refused_all : (n : ℕ) (buffer : List ℕ) (len : ℕ) (controller : List ℕ) (theirs width : ℕ) (name sc hints : List ℕ) → (n ≡ 0 → ⊥)
    → PlanNamedIs n buffer len controller theirs width name sc hints (plan.Refused n len) buffer sc hints
unfolding plan_named_of outcome_numbers outcome_ours
refused_all n buffer len controller theirs width name sc hints h =
    record { answer = rw (ne_eqb n 0 h); bytes = rw (ne_eqb n 0 h); scratch = rw (ne_eqb n 0 h); index = rw (ne_eqb n 0 h) }

-- a name that our book lacks
module _ (buffer : List ℕ) (len : ℕ) (name : List ℕ) (g : check_given buffer len (given.name name) ≡ root.Lacking) where
  pub lacking-checked : check_book buffer len ≡ Valid
  lacking-checked = let l = lacking-valid buffer len name g in valid_in buffer len l.fits l.valid

  pub lacking-new : find (take len buffer) name ≡ None
  lacking-new = (lacking-valid buffer len name g).nothing

  module _ (controller : List ℕ) (theirs width : ℕ) (sc hints : List ℕ) (k : ℕ) (ek : k ≡ refusal_of (book_numbers (check_book controller theirs))) where
    after-name : named_refusal buffer len controller theirs name sc ≡ or_next k (cond (scratch_fits sc) 0 6)
    unfolding named_refusal at_given
    after-name = rw (g, ← ek) (or_next_lem 0 _ refl)

    lacking_outcome : plan_named_of 0 buffer len controller theirs width name ≡ plan_by_name (take theirs controller) width name (ours buffer len) None
    unfolding plan_named_of
    lacking_outcome = rw lacking-new

    pub lacking-theirs : (k ≡ 0 → ⊥)
        → PlanNamedIs (named_refusal buffer len controller theirs name sc) buffer len controller theirs width name sc hints (plan.Refused k len) buffer sc hints
    lacking-theirs h = rw (after-name, or_here k (cond (scratch_fits sc) 0 6) h) (refused_all k buffer len controller theirs width name sc hints h)

    module _ (z : k ≡ 0) where
      pub theirs-book : ValidBook (take theirs controller)
      theirs-book = valid-book controller theirs (zero-valid (check_book controller theirs) (sym ek ∙ z))

      pub theirs-cut : theirs ≡ length (take theirs controller)
      theirs-cut = book-cut controller theirs (zero-valid (check_book controller theirs) (sym ek ∙ z))

      pub lacking-short : (t : Bool) → t ≡ scratch_fits sc → not t ≡ true
          → PlanNamedIs (named_refusal buffer len controller theirs name sc) buffer len controller theirs width name sc hints (plan.Refused 6 len) buffer sc hints
      lacking-short t e h =
          rw (after-name, or_next_lem k (cond (scratch_fits sc) 0 6) z, sym e ∙ not-true t h)
          (refused_all 6 buffer len controller theirs width name sc hints (λ q. omega arith))

      pub lacking-done : (t : Bool) → t ≡ scratch_fits sc → not t ≡ false → (r : Plan) (after sc' hints' : List ℕ)
          → PlanDone (plan_by_name (take theirs controller) width name (ours buffer len) None) sc hints r after sc' hints'
          → PlanNamedIs (named_refusal buffer len controller theirs name sc) buffer len controller theirs width name sc hints r after sc' hints'
      lacking-done t e h r after sc' hints' p =
          rw (after-name, or_next_lem k (cond (scratch_fits sc) 0 6) z, sym e ∙ not-false t h)
          (record {
            answer = p.answer ∙ ap outcome_numbers (sym lacking_outcome);
            bytes = p.bytes ∙ ap (λ (o : Decision). (outcome_ours o).buffer) (sym lacking_outcome);
            scratch = p.scratch;
            index = p.index;
          })

-- ---- the call
module _ (buffer : List ℕ) (len : ℕ) (name : List ℕ) (k : GivenRoot) (e : k ≡ check_given buffer len (given.name name)) where
  pub named-given : k ≡ root.Lacking → check_given buffer len (given.name name) ≡ root.Lacking
  named-given h = sym e ∙ h

  some-refusal : (n : ℕ) → k ≡ root.Refused n → n ≡ 0 → ⊥
  unfolding check_given given_root found_root
  some-refusal n h z = by (eqb (refusal_of (book_numbers (check_book buffer len))) 0) refl (is_root_name name) (find (take len buffer) name) (sym e ∙ h)
    where
      by : (t : Bool) → eqb (refusal_of (book_numbers (check_book buffer len))) 0 ≡ t → (u : Bool) (f : Option ℕ)
          → cond t (cond u (found_root f) (root.Refused 23)) (root.Refused (refusal_of (book_numbers (check_book buffer len)))) ≡ root.Refused n → ⊥
      by true q true (Some m) y = let x : ◌≡◌ {A = ℕ} 0 1 = cc in omega arith
      by true q true None y = let x : ◌≡◌ {A = ℕ} 0 1 = cc in omega arith
      by true q false f y = let x : 23 ≡ n = cc in omega arith
      by false q u f y = let x : refusal_of (book_numbers (check_book buffer len)) ≡ n = cc in eqb-false _ _ q (x ∙ z)

  module _ (controller : List ℕ) (theirs width : ℕ) (sc hints : List ℕ) where
    pub named-refused : (n : ℕ) → k ≡ root.Refused n
        → PlanNamedIs (named_refusal buffer len controller theirs name sc) buffer len controller theirs width name sc hints (plan.Refused n len) buffer sc hints
    unfolding named_refusal at_given
    named-refused n h =
        rw (← e, h, or_here n (or_next (refusal_of (book_numbers (check_book controller theirs))) (cond (scratch_fits sc) 0 6)) (some-refusal n h))
        (refused_all n buffer len controller theirs width name sc hints (some-refusal n h))

    module _ (t : ℕ) (h : k ≡ root.Block t) where
      found : find (take len buffer) name ≡ Some t
      found = (named-valid buffer len name t (sym e ∙ h)).found

      pub named-checked : check_root buffer len t ≡ Root t
      unfolding check_root root_of book_numbers
      named-checked =
          let q = named-valid buffer len name t (sym e ∙ h) in
          let l : t < blocks (take len buffer) = valid-below (take len buffer) q.valid t 0 (eqb-true _ _ q.kind) in
          rw (valid_in buffer len q.fits q.valid, lt-ltb t (blocks (take len buffer)) l, q.kind)

      same-refusal : plan_refusal buffer len controller theirs t sc ≡ named_refusal buffer len controller theirs name sc
      unfolding plan_refusal named_refusal root_numbers at_given
      same-refusal = rw (named-checked, ← e, h)

      same_outcome : (n : ℕ) → plan_of n buffer len controller theirs width t ≡ plan_named_of n buffer len controller theirs width name
      unfolding plan_of plan_named_of plan_by_name
      same_outcome n = rw found

      pub named-block : (r : Plan) (after sc' hints' : List ℕ)
          → PlanIs (plan_refusal buffer len controller theirs t sc) buffer len controller theirs width t sc hints r after sc' hints'
          → PlanNamedIs (named_refusal buffer len controller theirs name sc) buffer len controller theirs width name sc hints r after sc' hints'
      named-block r after sc' hints' p =
          rw (← same-refusal)
          (record {
            answer = p.answer ∙ ap outcome_numbers (same_outcome _);
            bytes = p.bytes ∙ ap (λ (o : Decision). (outcome_ours o).buffer) (same_outcome _);
            scratch = p.scratch;
            index = p.index;
          })
