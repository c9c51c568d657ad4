-- The form of a tape does not depend on byte 1 of its texts, as long as that is 0 or 1. Assumes nothing.
use Rattle.std.specs.Prelude.{Option, Some, None}
use mathlib.Core.Path.{◌≡◌, refl, sym, ap, ◌∙◌}
use mathlib.Core.Bool.{Bool, true, false, cond}
use mathlib.Core.List.{List}
use Prim.Native.Nat.{ℕ, zero, suc, ◌+◌, ◌%◌}
use native.Mathlib.Omega.{arith}
use borrow.Author.Tests.{eqb-true, eqb-false, ne_eqb, leb-true, le-leb}
use lib.ListN.{length, drop}
use lib.Dec.{leb, eqb}
use Rattle.tape.specs.Record.{record_of, step_at}
use Rattle.tape.specs.declared.record.Record.{Record}
use Rattle.tape.specs.declared.cursor.Cursor.{Cursor}
use Rattle.tape_form.specs.Ranges.{unused, undeclared, declares, block_is, only_a, empty, names_block, opens, closes, is_key, textual, leaf_ranges, leaf_fine}
use Rattle.tape_form.specs.Form.{FormCtx, form_ctx, ChildForm, with_record, form_onward, closing_record, several, member_at, FormShape, elements, members, alone, wrong, record_shape, body_by, value_at, formed}
use Rattle.ser_laws.specs.Alike.{Records, SameButEnd}

-- ---- a record

only-not : (k : ℕ) → (k ≡ 11 → ⊥) → (x : Record) → x.kind ≡ 11 → only_a k x ≡ false
unfolding only_a
only-not k n x e = rw (ne_eqb x.kind k (λ q. n (sym q ∙ e)))

module _ (r s : Record) (w : SameButEnd r s) where
  equal : (r.kind ≡ 11 → ⊥) → r ≡ s
  equal n = made r.kind r.width r.spare r.declared r.a r.b w.kind (w.width n) w.spare w.declared w.a w.b
    where
      made : (kind width spare declared a b : ℕ) → kind ≡ s.kind → width ≡ s.width → spare ≡ s.spare → declared ≡ s.declared → a ≡ s.a → b ≡ s.b
          → ◌≡◌ {A = Record} (record { kind = kind; width = width; spare = spare; declared = declared; a = a; b = b }) s
      made kind width spare declared a b e1 e2 e3 e4 e5 e6 = rw (e1, e2, e3, e4, e5, e6)

  -- a test that texts fail says the same of both
  module _ (test : Record → Bool) (never : (x : Record) → x.kind ≡ 11 → test x ≡ false) where
    test-same : test r ≡ test s
    test-same = by (eqb r.kind 11) refl
      where
        by : (t : Bool) → eqb r.kind 11 ≡ t → test r ≡ test s
        by true q = let e : r.kind ≡ 11 = eqb-true r.kind 11 q in never r e ∙ sym (never s (sym w.kind ∙ e))
        by false q = ap test (equal (eqb-false r.kind 11 q))

  textual-same : (text : List ℕ) → r.kind ≡ 11 → textual text r ≡ textual text s
  unfolding textual unused
  textual-same text e =
      let b = w.ended e in
      rw (le-leb r.width 1 b.0, le-leb s.width 1 b.1, w.spare, w.a, w.b)

  declares-same : (book : List ℕ) → declares book r ≡ declares book s
  unfolding declares
  declares-same book = ap (block_is book 1) w.declared

  ranged-same : (book text : List ℕ) → leaf_ranges book text r r.kind ≡ leaf_ranges book text s s.kind
  unfolding leaf_ranges
  ranged-same book text = by (eqb r.kind 11) refl
    where
      by : (t : Bool) → eqb r.kind 11 ≡ t → leaf_ranges book text r r.kind ≡ leaf_ranges book text s s.kind
      by true q =
          let e : r.kind ≡ 11 = eqb-true r.kind 11 q in
          let f : s.kind ≡ 11 = sym w.kind ∙ e in
          ap (leaf_ranges book text r) e ∙ textual-same text e ∙ sym (ap (leaf_ranges book text s) f)
      by false q = ap (λ (x : Record). leaf_ranges book text x x.kind) (equal (eqb-false r.kind 11 q))

  leaf-same : (book text : List ℕ) → leaf_fine book text r ≡ leaf_fine book text s
  unfolding leaf_fine
  leaf-same book text = rw (declares-same book, ranged-same book text)

  only_same : (k : ℕ) → (k ≡ 11 → ⊥) → only_a k r ≡ only_a k s
  only_same k n = test-same (only_a k) (only-not k n)

  empty-same : (k : ℕ) → (k ≡ 11 → ⊥) → empty k r ≡ empty k s
  unfolding empty
  empty-same k n = rw (only_same k n, w.a)

  names_same : (book : List ℕ) (k kind : ℕ) → (k ≡ 11 → ⊥) → names_block book k kind r ≡ names_block book k kind s
  unfolding names_block
  names_same book k kind n = rw (only_same k n, w.a)

  opens-same : (book : List ℕ) (k : ℕ) → (k ≡ 11 → ⊥) → opens book k r ≡ opens book k s
  unfolding opens
  opens-same book k n = rw (only_same k n, declares-same book)

  closes-same : (k : ℕ) → (k ≡ 11 → ⊥) → closes k r ≡ closes k s
  unfolding closes undeclared
  closes-same k n = rw (empty-same k n, w.declared)

  key-same : (book : List ℕ) → is_key book r ≡ is_key book s
  unfolding is_key undeclared
  key-same book = rw (names_same book 4 2 (λ e. omega arith), w.declared)

  shape_same : (c : FormCtx) → record_shape c r ≡ record_shape c s
  unfolding record_shape
  shape_same c = rw (opens-same c.book 1 (λ e. omega arith), opens-same c.book 3 (λ e. omega arith), leaf-same c.book c.text, w.a)

-- ---- two walks over the form that come to the same place, the end of a record

abbrev WholePlace : Option Cursor → Type 0
WholePlace (Some next) = next.at % 24 ≡ 0
WholePlace None = Unit {0}

record SamePlace (p q : Option Cursor) : Type 0 where
  is : p ≡ q
  whole-end : WholePlace p

same_broken : SamePlace None None
same_broken = record { is = refl; whole-end = tt }

same_at : (next : Cursor) → next.at % 24 ≡ 0 → SamePlace (Some next) (Some next)
same_at next h = record { is = refl; whole-end = h }

same_cond : (t : Bool) {p q : Option Cursor} → SamePlace p q → SamePlace (cond t p None) (cond t q None)
same_cond true h = h
same_cond false h = same_broken

same-onward : (p q : Option Cursor) (f g : ChildForm) → SamePlace p q → ((next : Cursor) → next.at % 24 ≡ 0 → SamePlace (f next) (g next)) → SamePlace (form_onward p f) (form_onward q g)
unfolding form_onward
same-onward (Some next) q f g h k = rw (← h.is) (k next h.whole-end)
same-onward None q f g h k = rw (← h.is) same_broken

module _ (book text tape tape' : List ℕ) (alike : Records SameButEnd tape tape') where
  abbrev c : FormCtx
  c = form_ctx book tape text

  abbrev c' : FormCtx
  c' = form_ctx book tape' text

  same_taken : (here : Cursor) (f f' : Record → Cursor → Option Cursor) → here.at % 24 ≡ 0
      → ((r s : Record) (next : Cursor) → SameButEnd r s → next.at % 24 ≡ 0 → SamePlace (f r next) (f' s next))
      → SamePlace (with_record (step_at tape here.at) f) (with_record (step_at tape' here.at) f')
  unfolding with_record step_at
  same_taken here f f' h g = rw (← alike.same_length) (by (leb (here.at + 24) (length tape)) refl)
    where
      by : (t : Bool) → leb (here.at + 24) (length tape) ≡ t
          → SamePlace (with_record (cond t (Some (record_of (drop here.at tape), record { at = here.at + 24 })) None) f)
          (with_record (cond t (Some (record_of (drop here.at tape'), record { at = here.at + 24 })) None) f')
      by true q = g _ _ _ (alike.each here.at h (leb-true (here.at + 24) (length tape) q)) (omega arith)
      by false q = same_broken

  closing_same : (k : ℕ) → (k ≡ 11 → ⊥) → (here : Cursor) → here.at % 24 ≡ 0 → SamePlace (closing_record c k here) (closing_record c' k here)
  unfolding closing_record
  closing_same k x here h = same_taken here _ _ h (λ r s next w n. rw (← closes-same r s w k x) (same_cond (closes k r) (same_at next n)))

  module _ (item item' : ChildForm) (ih : (here : Cursor) → here.at % 24 ≡ 0 → SamePlace (item here) (item' here)) where
    several-same : (k : ℕ) → (k ≡ 11 → ⊥) → (n : ℕ) (here : Cursor) → here.at % 24 ≡ 0 → SamePlace (several c item k n here) (several c' item' k n here)
    unfolding several
    several-same k x zero here h = closing_same k x here h
    several-same k x (suc n) here h = same-onward _ _ _ _ (ih here h) (λ next m. several-same k x n next m)

    member-same : (here : Cursor) → here.at % 24 ≡ 0 → SamePlace (member_at c item here) (member_at c' item' here)
    unfolding member_at
    member-same here h = same_taken here _ _ h (λ r s next w n. rw (← key-same r s w book) (same_cond (is_key book r) (ih next n)))

  body_same : (item item' : ChildForm) → ((here : Cursor) → here.at % 24 ≡ 0 → SamePlace (item here) (item' here)) → (x : FormShape) (next : Cursor) → next.at % 24 ≡ 0
      → SamePlace (body_by c item x next) (body_by c' item' x next)
  unfolding body_by
  body_same item item' ih (elements n) next h = several-same item item' ih 2 (λ e. omega arith) n next h
  body_same item item' ih (members n) next h = several-same (member_at c item) (member_at c' item') (member-same item item' ih) 5 (λ e. omega arith) n next h
  body_same item item' ih alone next h = same_at next h
  body_same item item' ih wrong next h = same_broken

  value_same : (left : ℕ) (here : Cursor) → here.at % 24 ≡ 0 → SamePlace (value_at c left here) (value_at c' left here)
  unfolding value_at record_shape
  value_same zero here h = same_broken
  value_same (suc left) here h =
      same_taken here _ _ h
      (λ r s next w n.
      let e : record_shape c' s ≡ record_shape c r = sym (shape_same r s w c) in
      rw e (body_same (value_at c left) (value_at c' left) (value_same left) (record_shape c r) next n))

  pub formed-same : formed book tape text ≡ formed book tape' text
  unfolding formed
  formed-same = rw (← alike.same_length, ← (value_same 64 (record { at = 0 }) refl).is)
