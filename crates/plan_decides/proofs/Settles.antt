-- After a sweep from block 0 nothing is left to add: what a type of our book is made of is in our book, or not in the controller's, or has no
-- room. Assumes nothing.
use Rattle.std.specs.Prelude.{Option, Some, None}
use mathlib.Core.Path.{◌≡◌, refl, sym, ap, ◌∙◌, subst}
use mathlib.Core.Bool.{Bool, true, false, cond}
use mathlib.Core.List.{List, [], ◌++◌, append-nil, append_assoc}
use Prim.Native.Nat.{ℕ, zero, suc, ◌+◌, ◌-◌, ◌≤◌, ◌<◌}
use native.Mathlib.Omega.{arith}
use native.Mathlib.Numerals.{add-one}
use borrow.Author.Tests.{eqb-true, eqb-false, ltb-true, ltb-false}
use lib.ListN.{length, length-append, length-take, length-drop}
use lib.Dec.{eqb, ltb}
use Rattle.type_book.specs.Book.{blocks, is_type, name_of, type_name_of}
use Rattle.type_provider.specs.Find.{find}
use Rattle.type_provider.proofs.Finds.{find-named, named-name}
use Rattle.type_book_check.specs.declared.BookCheck.TheVariants.{Valid}
use Rattle.type_book_check.specs.Check.{check_book, ValidBook}
use Rattle.type_book_check.proofs.Valid.{valid-book, valid-size, valid-names}
use Rattle.type_cache.specs.Append.{has_room, append_refusal, append_buffer}
use Rattle.type_cache.specs.Same.{definition_of}
use Rattle.type_cache.proofs.Appends.{accepted, room-is, room_fits, room-few, call_done, call_refused, buffer-done, buffer-kept}
use Rattle.type_cache.proofs.Definitions.{type-names-same}
use Rattle.type_cache.proofs.Adds.{definition_name, add-lacking, Grown, grown}
use Rattle.type_cache.proofs.Joins.{join-old, find-kept, find-new}
use Rattle.resolvers.proofs.Chains.{found_type}
use Rattle.closure.specs.Calls.{Ours, book_of, add, next}
use Rattle.plan_adds.specs.declared.Due.{Due}
use Rattle.plan_adds.specs.declared.Due.TheVariants.{Names, Rest}
use Rattle.plan_adds.specs.Adds.{lacks, append_of, fetch_by, fetch_of, passing, due_of, sweep_by, sweep_from, sweep}
use Rattle.plan_save.proofs.Turns.{book-cut}
use Rattle.plan_decides.proofs.Taken.{rest_of, due_at, Taken, due-stays, next-due, first-due}

-- a name is settled: our book has it, or the controller's lacks it, or its definition has no room
pub record Settled (c : List ℕ) (z : Ours) (x : List ℕ) : Type 0 where
  pub full : find (book_of z) x ≡ None → (n : ℕ) → find c x ≡ Some n → has_room (length z.buffer) z.len (length (definition_of c n)) ≡ false

-- our buffer later: our book is valid, and the old one with more after it
pub record Later (s z : Ours) : Type 0 where
  pub valid : check_book z.buffer z.len ≡ Valid
  pub more : List ℕ
  pub grows : book_of z ≡ book_of s ++ more
  pub long : length z.buffer ≡ length s.buffer

found-apart : {X : Type 0} (n : ℕ) → Some n ≡ None → X
found-apart n e = let z : ◌≡◌ {A = ℕ} 0 1 = cc in absurd (omega arith)

at_same : (m n : ℕ) → Some m ≡ Some n → m ≡ n
at_same m n e = cc

due-apart : {X : Type 0} (m n : ℕ) → Rest m ≡ Names n → X
due-apart m n e = let z : ◌≡◌ {A = ℕ} 0 1 = cc in absurd (omega arith)

true-apart : {X : Type 0} → true ≡ false → X
true-apart e = let z : ◌≡◌ {A = ℕ} 0 1 = cc in absurd (omega arith)

-- what has no room in a book has none in a longer one
room-less : (size len len' more : ℕ) → len ≤ len' → has_room size len more ≡ false → has_room size len' more ≡ false
room-less size len len' more l h = by (has_room size len' more) refl
  where
    by : (t : Bool) → has_room size len' more ≡ t → has_room size len' more ≡ false
    by true e = true-apart (sym (room-is size len more (omega (arith, room_fits size len' more e)) (omega (arith, room-few size len' more e))) ∙ h)
    by false e = e

pub later_same : (s : Ours) → check_book s.buffer s.len ≡ Valid → Later s s
later_same s v = record { valid = v; more = []; grows = sym (append-nil (book_of s)); long = refl }

pub later-then : (s y z : Ours) → Later s y → Later y z → Later s z
later-then s y z a b =
    record {
      valid = b.valid;
      more = a.more ++ b.more;
      grows = b.grows ∙ ap (λ (l : List ℕ). l ++ b.more) a.grows ∙ append_assoc (book_of s) a.more b.more;
      long = b.long ∙ a.long;
    }

module _ (s z : Ours) (v : check_book s.buffer s.len ≡ Valid) (a : Later s z) where
  longer : s.len ≤ z.len
  longer =
      omega (
        arith,
        book-cut s.buffer s.len v,
        book-cut z.buffer z.len a.valid,
        ap (λ (l : List ℕ). length l) a.grows,
        length-append (book_of s) a.more,
      )

  ours-valid : ValidBook (book_of s)
  ours-valid = valid-book s.buffer s.len v

  pub name-stays : (b : ℕ) → b < blocks (book_of s) → type_name_of (book_of z) b ≡ type_name_of (book_of s) b
  name-stays b l =
      ap (λ (x : List ℕ). type_name_of x b) a.grows
      ∙ sym (type-names-same (book_of s) (book_of s ++ a.more) b b (sym (join-old (book_of s) a.more ours-valid b l)) (valid-names (book_of s) ours-valid b l))

  pub due-later : (width i due : ℕ) → i < blocks (book_of s) → due_of (book_of s) width i due ≡ due_of (book_of z) width i due
  due-later width i due l = sym (ap (λ (x : List ℕ). due_of x width i due) a.grows ∙ due-stays (book_of s) a.more width ours-valid i l due)

  pub settled-later : (c x : List ℕ) → Settled c s x → Settled c z x
  settled-later c x o = record { full = λ e n q. by e n q (find (book_of s) x) refl }
    where
      by : find (book_of z) x ≡ None → (n : ℕ) → find c x ≡ Some n → (f : Option ℕ) → find (book_of s) x ≡ f
          → has_room (length z.buffer) z.len (length (definition_of c n)) ≡ false
      by e n q (Some k) h =
          let y : find (book_of z) x ≡ Some k = ap (λ (l : List ℕ). find l x) a.grows ∙ find-kept (book_of s) a.more ours-valid x k h in
          found-apart k (sym y ∙ e)
      by e n q None h =
          room-less (length z.buffer) s.len z.len (length (definition_of c n)) longer
          (ap (λ (r : ℕ). has_room r s.len (length (definition_of c n))) a.long ∙ o.full h n q)

-- ---- adding one type
pub record Settles (c : List ℕ) (s : Ours) (x : List ℕ) (y : Ours) : Type 0 where
  pub later : Later s y
  pub settled : Settled c y x

module _ (c : List ℕ) (w : ValidBook c) (s : Ours) (v : check_book s.buffer s.len ≡ Valid) where
  module _ (n : ℕ) where
    abbrev d : List ℕ
    d = definition_of c n

    refused-same : (append_refusal s.buffer s.len (definition_of c n) ≡ 0 → ⊥) → next c (add n) s ≡ s
    refused-same h = rw (buffer-kept s.buffer s.len d h, call_refused s.buffer s.len d h)

    pass_append : passing (append_of c n s) ≡ next c (add n) s
    unfolding passing append_of
    pass_append = by (eqb (append_refusal s.buffer s.len d) 15) refl
      where
        by : (g : Bool) → eqb (append_refusal s.buffer s.len d) 15 ≡ g → passing (append_of c n s) ≡ next c (add n) s
        by true e =
            let q : append_refusal s.buffer s.len d ≡ 15 = eqb-true _ _ e in
            rw e (sym (refused-same (λ z. omega (arith, q, z))))
        by false e = rw e

  module _ (x : List ℕ) (n : ℕ) (e : find c x ≡ Some n) where
    typed : is_type c n ≡ true
    typed = found_type c x n e

    named : name_of c n ≡ x
    named = named-name c x n (find-named c x n e).named

    -- the definition was added
    done : append_refusal s.buffer s.len (definition_of c n) ≡ 0 → Settles c s x (next c (add n) s)
    done h =
        let g : Grown s.buffer s.len (definition_of c n) = grown s.buffer s.len (definition_of c n) h in
        let r : s.len + length (definition_of c n) ≤ length s.buffer = room_fits _ _ _ (accepted s.buffer s.len (definition_of c n) h).room in
        let b : book_of (next c (add n) s) ≡ book_of s ++ definition_of c n = rw (call_done s.buffer s.len (definition_of c n) h) g.book in
        let f : find (book_of (next c (add n) s)) x ≡ Some (blocks (book_of s)) =
        ap (find (book_of (next c (add n) s))) (sym (definition_name c w n typed ∙ named)) ∙ ap (λ (l : List ℕ). find l (name_of (definition_of c n) 0)) b
        ∙ find-new (book_of s) (definition_of c n) g.old g.valid g.one g.new g.few in
        let k : length (append_buffer s.buffer s.len (definition_of c n)) ≡ length s.buffer =
        rw (buffer-done s.buffer s.len (definition_of c n) h) (simp (length-append, length-take, length-drop) (omega (arith, r))) in
        record {
          later = record { valid = rw (call_done s.buffer s.len (definition_of c n) h) g.check; more = definition_of c n; grows = b; long = k };
          settled = record { full = λ z m q. found-apart (blocks (book_of s)) (sym f ∙ z) };
        }

    -- it was not
    left : (append_refusal s.buffer s.len (definition_of c n) ≡ 0 → ⊥) → Settles c s x s
    left h = record { later = later_same s v; settled = record { full = λ z m q. by z m (at_same n m (sym e ∙ q)) (has_room (length s.buffer) s.len (length (definition_of c n))) refl } }
      where
        by : find (book_of s) x ≡ None → (m : ℕ) → n ≡ m → (t : Bool) → has_room (length s.buffer) s.len (length (definition_of c n)) ≡ t
            → has_room (length s.buffer) s.len (length (definition_of c m)) ≡ false
        by z m q true r = absurd (h (add-lacking c w n typed s.buffer s.len v (ap (find (book_of s)) named ∙ z) r))
        by z m q false r = rw (← q) r

    added_settles : Settles c s x (passing (append_of c n s))
    added_settles = rw (pass_append n) (by (eqb (append_refusal s.buffer s.len (definition_of c n)) 0) refl)
      where
        by : (g : Bool) → eqb (append_refusal s.buffer s.len (definition_of c n)) 0 ≡ g → Settles c s x (next c (add n) s)
        by true g = done (eqb-true _ _ g)
        by false g = let h = eqb-false _ _ g in rw (refused-same n h) (left h)

  pub fetch_settles : (i : ℕ) → Settles c s (type_name_of (book_of s) i) (passing (fetch_of c i s))
  unfolding fetch_by passing
  fetch_settles i = by (find c (type_name_of (book_of s) i)) refl
    where
      none : find c (type_name_of (book_of s) i) ≡ None → Settles c s (type_name_of (book_of s) i) (passing (lacks i s))
      none e = record { later = later_same s v; settled = record { full = λ z n q. found-apart n (sym q ∙ e) } }

      by : (f : Option ℕ) → find c (type_name_of (book_of s) i) ≡ f → Settles c s (type_name_of (book_of s) i) (passing (fetch_by c i s f))
      by (Some n) e = added_settles (type_name_of (book_of s) i) n e
      by None e = none e

-- ---- the sweep
module _ (c : List ℕ) (w : ValidBook c) (width : ℕ) where
  sweep-names : (go : ℕ → Ours → Ours) (i m : ℕ) (s : Ours) (d : Due) → d ≡ Names m → sweep_by go c i s d ≡ go m (passing (fetch_of c i s))
  unfolding sweep_by
  sweep-names go i m s d e = rw e

  sweep-rest : (go : ℕ → Ours → Ours) (i m : ℕ) (s : Ours) (d : Due) → d ≡ Rest m → sweep_by go c i s d ≡ go m s
  unfolding sweep_by
  sweep-rest go i m s d e = rw e

  -- a turn of the sweep ends it, or leaves it to go on from a later buffer
  data Turn (k i due : ℕ) (s : Ours) : Type 0 where
    ends : blocks (book_of s) ≤ i → sweep_from c width (suc k) i due s ≡ s → Turn k i due s
    takes : i < blocks (book_of s) → (m : ℕ) → due_of (book_of s) width i due ≡ Names m
        → sweep_from c width (suc k) i due s ≡ sweep_from c width k (i + 1) m (passing (fetch_of c i s)) → Turn k i due s
    skips : i < blocks (book_of s) → (m : ℕ) → due_of (book_of s) width i due ≡ Rest m
        → sweep_from c width (suc k) i due s ≡ sweep_from c width k (i + 1) m s → Turn k i due s

  unroll : (k i due : ℕ) (s : Ours) (t : Bool) → ltb i (blocks (book_of s)) ≡ t
      → sweep_from c width (suc k) i due s ≡ cond t (sweep_by (sweep_from c width k (i + 1)) c i s (due_of (book_of s) width i due)) s
  unfolding sweep_from
  unroll k i due s t e = rw e

  turn : (k i due : ℕ) (s : Ours) → Turn k i due s
  turn k i due s = by (ltb i (blocks (book_of s))) refl (due_of (book_of s) width i due) refl
    where
      by : (t : Bool) → ltb i (blocks (book_of s)) ≡ t → (d : Due) → due_of (book_of s) width i due ≡ d → Turn k i due s
      by false e d h = ends (ltb-false _ _ e) (unroll k i due s false e)
      by true e (Names m) h =
          takes (ltb-true _ _ e) m h (unroll k i due s true e ∙ sweep-names (sweep_from c width k (i + 1)) i m s (due_of (book_of s) width i due) h)
      by true e (Rest m) h =
          skips (ltb-true _ _ e) m h (unroll k i due s true e ∙ sweep-rest (sweep_from c width k (i + 1)) i m s (due_of (book_of s) width i due) h)

  sweep-none : (i due : ℕ) (s : Ours) → sweep_from c width 0 i due s ≡ s
  unfolding sweep_from
  sweep-none i due s = refl

  pub sweep-later : (k i due : ℕ) (s : Ours) → check_book s.buffer s.len ≡ Valid → Later s (sweep_from c width k i due s)
  sweep-later zero i due s v = subst (λ (z : Ours). Later s z) (sym (sweep-none i due s)) (later_same s v)
  sweep-later (suc k) i due s v = by (turn k i due s) (λ m z y. sweep-later k (i + 1) m z y)
    where
      by : Turn k i due s → ((m : ℕ) (z : Ours) → check_book z.buffer z.len ≡ Valid → Later z (sweep_from c width k (i + 1) m z))
          → Later s (sweep_from c width (suc k) i due s)
      by (Turn.ends l e) ih = subst (λ (z : Ours). Later s z) (sym e) (later_same s v)
      by (Turn.takes l m h e) ih =
          let y : Ours = passing (fetch_of c i s) in
          let a : Later s y = (fetch_settles c w s v i).later in
          subst (λ (z : Ours). Later s z) (sym e) (later-then s y (sweep_from c width k (i + 1) m y) a (ih m y a.valid))
      by (Turn.skips l m h e) ih = subst (λ (z : Ours). Later s z) (sym e) (ih m s v)

  -- each block that the sweep takes is settled at its end
  module _ (z : Ours) (j : ℕ) (t : Taken (book_of z) width j) (b : j < blocks (book_of z)) where
    abbrev due : ℕ → ℕ
    due i = due_at (book_of z) width i

    abbrev Goal : Type 0
    Goal = Settled c z (type_name_of (book_of z) j)

    abbrev Rests : ℕ → Type 0
    Rests k = (i : ℕ) (s : Ours) → check_book s.buffer s.len ≡ Valid → z ≡ sweep_from c width k i (due i) s → blocks (book_of z) ≤ i + k → i ≤ j → Goal

    module _ (k i : ℕ) (ih : Rests k) (s : Ours) (v : check_book s.buffer s.len ≡ Valid) (e : z ≡ sweep_from c width (suc k) i (due i) s)
        (l : blocks (book_of z) ≤ i + suc k) (h : i ≤ j) where
      later : Later s z
      later = subst (λ (y : Ours). Later s y) (sym e) (sweep-later (suc k) i (due i) s v)

      -- the sweep goes on from buffer y with m fields due
      goes : (m : ℕ) (y : Ours) → check_book y.buffer y.len ≡ Valid → (d : Due) → due_of (book_of z) width i (due i) ≡ d → rest_of d ≡ m
          → sweep_from c width (suc k) i (due i) s ≡ sweep_from c width k (i + 1) m y → i < j → Goal
      goes m y u d q r o g =
          let n : due (suc i) ≡ m = next-due (book_of z) width i (due i) refl ∙ ap rest_of q ∙ r in
          let p : due (i + 1) ≡ m = rw add-one n in
          ih (i + 1) y u (e ∙ o ∙ ap (λ (x : ℕ). sweep_from c width k (i + 1) x y) (sym p)) (omega (arith, l)) (omega (arith, g))

      by : Turn k i (due i) s → (t : Bool) → ltb i j ≡ t → Goal
      by (Turn.ends o q) g p = let x : z ≡ s = e ∙ q in let r : blocks (book_of z) ≤ i = rw x o in absurd (omega (arith, r, h, b))
      by (Turn.takes o m q r) true p =
          let x = fetch_settles c w s v i in
          goes m (passing (fetch_of c i s)) x.later.valid (Names m) (sym (due-later s z v later width i (due i) o) ∙ q) refl r (ltb-true _ _ p)
      by (Turn.takes o m q r) false p =
          let x = fetch_settles c w s v i in
          let y : Ours = passing (fetch_of c i s) in
          let a : Later y z = subst (λ (u : Ours). Later y u) (sym (e ∙ r)) (sweep-later k (i + 1) m y x.later.valid) in
          let n : i ≡ j = omega (arith, h, ltb-false i j p) in
          let g : Settled c z (type_name_of (book_of z) i) = rw (name-stays s z v later i o) (settled-later y z x.later.valid a c (type_name_of (book_of s) i) x.settled) in
          subst (λ (u : ℕ). Settled c z (type_name_of (book_of z) u)) n g
      by (Turn.skips o m q r) true p = goes m s v (Rest m) (sym (due-later s z v later width i (due i) o) ∙ q) refl r (ltb-true _ _ p)
      by (Turn.skips o m q r) false p =
          let n : i ≡ j = omega (arith, h, ltb-false i j p) in
          let y : due_of (book_of z) width j (due j) ≡ Rest m = subst (λ (u : ℕ). due_of (book_of z) width u (due u) ≡ Rest m) n (sym (due-later s z v later width i (due i) o) ∙ q) in
          due-apart m t.due (sym y ∙ t.names)

    rests : (k : ℕ) → Rests k
    rests zero i s v e l h = absurd (omega (arith, l, h, b))
    rests (suc k) i s v e l h = by k i (rests k) s v e l h (turn k i (due i) s) (ltb i j) refl

    pub sweep_settles : (s : Ours) → check_book s.buffer s.len ≡ Valid → z ≡ sweep c width 0 s → Goal
    sweep_settles s v e =
        let q : 65536 - 0 ≡ 65536 = omega arith in
        let a : Later s z = subst (λ (y : Ours). Later s y) (sym e) (sweep-later (65536 - 0) 0 0 s v) in
        let o : z ≡ sweep_from c width 65536 0 (due 0) s = e ∙ rw (q, first-due (book_of z) width) in
        rests 65536 0 s v o (omega (arith, (valid-size (book_of z) (valid-book z.buffer z.len a.valid)).few)) (omega arith)
