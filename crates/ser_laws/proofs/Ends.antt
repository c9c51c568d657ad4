-- The walk of a write follows the walk over the form of its tape: it never meets 16, and ends where that ends. Assumes nothing.
use Rattle.std.specs.Prelude.{Option, Some, None}
use mathlib.Core.Path.{◌≡◌, refl, ap, ◌∙◌}
use mathlib.Core.Bool.{Bool, true, false, cond, ◌&&◌}
use mathlib.Core.List.{List}
use Prim.Native.Nat.{ℕ, zero, suc, ◌+◌}
use native.Mathlib.Omega.{arith}
use borrow.Author.Tests.{eqb-true, eqb-false, eq-eqb, ne_eqb}
use lib.ListN.{length}
use lib.Dec.{leb, ltb, eqb}
use Rattle.type_book.specs.Book.{size_of, count_of}
use Rattle.type_category.specs.Category.{category_of}
use Rattle.resolvers.specs.Resolve.{look_up, resolve_alias, resolved_numbers}
use Rattle.resolvers.specs.declared.Resolved.{Resolved}
use Rattle.resolvers.specs.declared.Resolved.TheVariants as resolved
use Rattle.resolve_field_types.specs.Fields.{resolve_field, fields_check, field_numbers, check_numbers}
use Rattle.resolve_field_types.specs.declared.FieldAnswer.{FieldAnswer}
use Rattle.resolve_field_types.specs.declared.FieldAnswer.TheVariants as answer
use Rattle.resolve_field_types.specs.declared.FieldsCheck.{FieldsCheck}
use Rattle.resolve_field_types.specs.declared.FieldsCheck.TheVariants as check
use Rattle.tape_shape.specs.declared.Shape.{Shape}
use Rattle.tape_shape.specs.declared.Shape.TheVariants as shape
use Rattle.tape_shape.specs.Value.{shape_of}
use Rattle.tape_shape.specs.Array.{stride_of, array_bytes}
use Rattle.ser_named_blocks.specs.Named.{field_named}
use Rattle.tape.specs.Record.{step_at}
use Rattle.tape.specs.Text.{record_text}
use Rattle.tape.specs.declared.record.Record.{Record}
use Rattle.tape.specs.declared.cursor.Cursor.{Cursor}
use Rattle.tape_form.specs.Ranges.{declares, only_a, empty, names_block, opens, closes, is_key, leaf_fine}
use Rattle.tape_form.specs.Ranges as ranges
use Rattle.tape_form.specs.Form.{formed, with_record, form_onward, closing_record, several, member_at, value_at, at_tape_end}
use Rattle.tape_form.specs.Form as form
use Rattle.ser_leaf.specs.Leaf.{Leaf, holds, leaf_for}
use Rattle.ser_leaf.specs.Leaf as leaf
use Rattle.ser.specs.declared.array_writer.Entered.{Entered}
use Rattle.ser.specs.declared.array_writer.Entered.TheVariants as entered
use Rattle.ser.specs.declared.WriteAnswer.TheVariants.{NotFound, Refused}
use Rattle.tape_array_elements.specs.Element.{Content, whole, further, shape_at, element_item, element_check}
use Rattle.ser.specs.Write.{WriteCtx, Outcome, went, refused, ◌then_writes◌, ChildWrite, placed, taken_by, taken, end_record_by, leaf_end, leaf_write, checked_write, field_write, found_value, key_by, key_of, keys_from, map_by, map_write, elements_write, elements_by, dimension_write, element_type, entered_by, entered_at, array_write_by, array_write, value_by, item_write, write_walk}
use Rattle.ser.specs.Call.{type_write, root_write_by, root_write, book_write, write_answer_of}
use Rattle.ser_laws.specs.Laws.{EndsAt, FormedEnds, SixteenIsForm}
use Rattle.ser_laws.proofs.LeafForm.{Mild, mild_leaf}
use Rattle.ser_laws.proofs.Plain.{different}
use Rattle.std.proofs.lemmas.Bool.{and_parts}

-- ---- a walk that ends at a place and is not refused with 16

ends-refused : (n k b : ℕ) (bytes : List ℕ) → (k ≡ 16 → ⊥) → EndsAt n (refused k b bytes)
ends-refused n k b bytes h = record { ends = h }

ends-went : (n : ℕ) (at : Cursor) (bytes : List ℕ) → at.at ≡ n → EndsAt n (went at bytes)
ends-went n at bytes h = record { ends = h }

ends-cond : (n : ℕ) (b : Bool) (o u : Outcome) → EndsAt n o → EndsAt n u → EndsAt n (cond b o u)
ends-cond n true o u p q = p
ends-cond n false o u p q = q

-- a test that leads on, else another refusal
ends_if : (n : ℕ) (b : Bool) (o : Outcome) (k m : ℕ) (bytes : List ℕ) → (k ≡ 16 → ⊥) → EndsAt n o → EndsAt n (cond b o (refused k m bytes))
ends_if n b o k m bytes h p = ends-cond n b o (refused k m bytes) p (ends-refused n k m bytes h)

ends-then : (n : ℕ) (mid : Cursor) (o : Outcome) (f : Cursor → List ℕ → Outcome) → EndsAt mid.at o → ((bytes : List ℕ) → EndsAt n (f mid bytes)) → EndsAt n (o then_writes f)
unfolding ◌then_writes◌
ends-then n mid (went at bytes) f p q =
    let e : at ≡ mid = ap (λ (i : ℕ). record { at = i }) p.ends in
    rw e (q bytes)
ends-then n mid (refused k b bytes) f p q = ends-refused n k b bytes p.ends

ends-placed : (n from size : ℕ) (bytes : List ℕ) (o : Outcome) → EndsAt n o → EndsAt n (placed from size bytes o)
unfolding placed
ends-placed n from size bytes (went at part) p = ends-went n at _ p.ends
ends-placed n from size bytes (refused k b part) p = ends-refused n k b _ p.ends

-- ---- the walk over the form, taken apart

broken_at : {X : Type 0} {next : Cursor} → None ≡ Some next → X
broken_at h = different cc

record Took (s : Option (Record × Cursor)) (f : Record → Cursor → Option Cursor) (next : Cursor) : Type 0 where
  r : Record
  mid : Cursor
  is : s ≡ Some (r, mid)
  goes : f r mid ≡ Some next

took : (s : Option (Record × Cursor)) (f : Record → Cursor → Option Cursor) (next : Cursor) → with_record s f ≡ Some next → Took s f next
unfolding with_record
took (Some (r, mid)) f next h = record { r = r; mid = mid; is = refl; goes = h }
took None f next h = broken_at h

record Went (p : Option Cursor) (f : form.ChildForm) (next : Cursor) : Type 0 where
  mid : Cursor
  is : p ≡ Some mid
  goes : f mid ≡ Some next

went_on : (p : Option Cursor) (f : form.ChildForm) (next : Cursor) → form_onward p f ≡ Some next → Went p f next
unfolding form_onward
went_on (Some mid) f next h = record { mid = mid; is = refl; goes = h }
went_on None f next h = broken_at h

record Passed (b : Bool) (p : Option Cursor) (next : Cursor) : Type 0 where
  test : b ≡ true
  goes : p ≡ Some next

passed : (b : Bool) (p : Option Cursor) (next : Cursor) → cond b p None ≡ Some next → Passed b p next
passed true p next h = record { test = refl; goes = h }
passed false p next h = broken_at h

-- ---- what a record's form says of its kind

only-kind : (k : ℕ) (r : Record) → only_a k r ≡ true → r.kind ≡ k
unfolding only_a
only-kind k r h = eqb-true r.kind k (and_parts (eqb r.kind k) _ h).0

empty-kind : (k : ℕ) (r : Record) → empty k r ≡ true → r.kind ≡ k
unfolding empty
empty-kind k r h = only-kind k r (and_parts (only_a k r) _ h).0

closes-kind : (k : ℕ) (r : Record) → closes k r ≡ true → r.kind ≡ k
unfolding closes
closes-kind k r h = empty-kind k r (and_parts (empty k r) _ h).0

names-kind : (book : List ℕ) (k kind : ℕ) (r : Record) → names_block book k kind r ≡ true → r.kind ≡ k
unfolding names_block
names-kind book k kind r h = only-kind k r (and_parts (only_a k r) _ h).0

key-kind : (book : List ℕ) (r : Record) → is_key book r ≡ true → r.kind ≡ 4
unfolding is_key
key-kind book r h = names-kind book 4 2 r (and_parts (names_block book 4 2 r) _ h).0

opens-other : (book : List ℕ) (k : ℕ) (r : Record) → (r.kind ≡ k → ⊥) → opens book k r ≡ false
unfolding opens only_a
opens-other book k r h = rw (ne_eqb r.kind k h)

and-never : (b : Bool) → (b && false) ≡ false
and-never true = refl
and-never false = refl

no-leaf : (book text : List ℕ) (r : Record) (k : ℕ) → r.kind ≡ k → ranges.leaf_ranges book text r k ≡ false → leaf_fine book text r ≡ false
unfolding leaf_fine
no-leaf book text r k e h =
    let z : ranges.leaf_ranges book text r r.kind ≡ false = ap (ranges.leaf_ranges book text r) e ∙ h in
    rw z (and-never (declares book r))

one-no-leaf : (book text : List ℕ) (r : Record) → ranges.leaf_ranges book text r 1 ≡ false
unfolding ranges.leaf_ranges
one-no-leaf book text r = refl

three-no-leaf : (book text : List ℕ) (r : Record) → ranges.leaf_ranges book text r 3 ≡ false
unfolding ranges.leaf_ranges
three-no-leaf book text r = refl

-- what follows a value's record in the form, by its kind
module _ (c : form.FormCtx) (child : form.ChildForm) (r : Record) (mid next : Cursor) (h : form.body_by c child (form.record_shape c r) mid ≡ Some next) where
  array_form : r.kind ≡ 1 → several c child 2 r.a mid ≡ Some next
  unfolding form.record_shape form.body_by
  array_form e = by (opens c.book 1 r) refl
    where
      by : (b : Bool) → opens c.book 1 r ≡ b → several c child 2 r.a mid ≡ Some next
      by true q = rw q at h
      by false q =
          let o : opens c.book 3 r ≡ false = opens-other c.book 3 r (λ z. omega (arith, z, e)) in
          let l : leaf_fine c.book c.text r ≡ false = no-leaf c.book c.text r 1 e (one-no-leaf c.book c.text r) in
          broken_at (rw (q, o, l) at h)

  map_form : r.kind ≡ 3 → several c (member_at c child) 5 r.a mid ≡ Some next
  unfolding form.record_shape form.body_by
  map_form e = by (opens c.book 3 r) refl
    where
      o : opens c.book 1 r ≡ false
      o = opens-other c.book 1 r (λ z. omega (arith, z, e))

      by : (b : Bool) → opens c.book 3 r ≡ b → several c (member_at c child) 5 r.a mid ≡ Some next
      by true q = rw (o, q) at h
      by false q =
          let l : leaf_fine c.book c.text r ≡ false = no-leaf c.book c.text r 3 e (three-no-leaf c.book c.text r) in
          broken_at (rw (o, q, l) at h)

  record LeafForm : Type 0 where
    fine : leaf_fine c.book c.text r ≡ true
    same : mid.at ≡ next.at

  leaf_form : (r.kind ≡ 1 → ⊥) → (r.kind ≡ 3 → ⊥) → LeafForm
  unfolding form.record_shape form.body_by
  leaf_form a b = by (leaf_fine c.book c.text r) refl
    where
      o : opens c.book 1 r ≡ false
      o = opens-other c.book 1 r a

      u : opens c.book 3 r ≡ false
      u = opens-other c.book 3 r b

      by : (b : Bool) → leaf_fine c.book c.text r ≡ b → LeafForm
      by true q = let z : Some mid ≡ Some next = rw (o, u, q) at h in record { fine = q; same = let y : mid ≡ next = cc in ap (λ (i : Cursor). i.at) y }
      by false q = broken_at (rw (o, u, q) at h)

-- ---- a leaf

mild_ends : (n : ℕ) (next : Cursor) (bytes : List ℕ) (l : Leaf) → next.at ≡ n → Mild l → EndsAt n (leaf_end next bytes l)
unfolding leaf_end
mild_ends n next bytes (holds new) e p = ends-went n next new e
mild_ends n next bytes (leaf.refused k) e p = ends-refused n k 0 bytes (λ h. p.never (ap leaf.refused h))

-- ---- what an array is entered with is not 16

abbrev stop_of : Entered → ℕ
stop_of (entered.Element e) = 0
stop_of (entered.Stop n b) = n

record EnteredMild (x : Entered) : Type 0 where
  never : stop_of x ≡ 16 → ⊥

entered_if : (b : Bool) (x : Entered) → EnteredMild x → EnteredMild (cond b x (entered.Stop 10 0))
entered_if true x m = m
entered_if false x m = record { never = λ e. omega arith }

element_mild : (book : List ℕ) (t len : ℕ) (r : Resolved) → EnteredMild (element_type book t len r)
unfolding element_type resolved_numbers
element_mild book t len (resolved.Base e) = entered_if (eqb (array_bytes book t e) len) (entered.Element e) (record { never = λ e. omega arith })
element_mild book t len (resolved.NotFound b) = record { never = λ e. omega arith }
element_mild book t len resolved.TooLong = record { never = λ e. omega arith }

entered_mild : (book : List ℕ) (width t len : ℕ) (s : Shape) → EnteredMild (entered_by book width t len s)
unfolding entered_by
entered_mild book width t len shape.Array = entered_if (eqb len (size_of book t)) _ (element_mild book t len (look_up book width t))
entered_mild book width t len shape.Map = record { never = λ e. omega arith }
entered_mild book width t len shape.Leaf = record { never = λ e. omega arith }

-- ---- the walk

-- the three lists that the form is about
abbrev form_ctx : WriteCtx → form.FormCtx
form_ctx c = form.form_ctx c.book c.tape c.text

-- where the form's walk of a value ends, a child ends
abbrev Follows : WriteCtx → ℕ → ChildWrite → Type 0
Follows c left child =
    (i : Content ℕ) (at next : Cursor) (bytes : List ℕ) → value_at (form_ctx c) left at ≡ Some next → EndsAt next.at (child i at bytes)

ends-taken : (tape : List ℕ) (n : ℕ) (at : Cursor) (bytes : List ℕ) (f : Record → Cursor → Outcome) (r : Record) (mid : Cursor)
    → step_at tape at.at ≡ Some (r, mid) → EndsAt n (f r mid) → EndsAt n (taken tape at bytes f)
unfolding taken taken_by
ends-taken tape n at bytes f r mid e p = rw e p

ends-closing : (c : WriteCtx) (k : ℕ) (at next : Cursor) (bytes : List ℕ) → closing_record (form_ctx c) k at ≡ Some next → EndsAt next.at (taken c.tape at bytes (end_record_by k bytes))
unfolding closing_record end_record_by
ends-closing c k at next bytes h =
    let t = took (step_at c.tape at.at) _ next h in
    let p = passed (closes k t.r) (Some t.mid) next t.goes in
    let q : t.r.kind ≡ k = closes-kind k t.r p.test in
    let e : Some t.mid ≡ Some next = p.goes in
    let m : t.mid ≡ next = cc in
    ends-taken c.tape next.at at bytes _ t.r t.mid t.is (rw (eq-eqb t.r.kind k q) (ends-went next.at t.mid bytes (ap (λ (i : Cursor). i.at) m)))

ends-checked : (n : ℕ) (bytes : List ℕ) (f : FieldsCheck) (o : Outcome) → EndsAt n o → EndsAt n (checked_write f bytes o)
unfolding checked_write check_numbers
ends-checked n bytes check.Fine o p = p
ends-checked n bytes (check.NotFound b) o p = ends-refused n 7 b bytes (λ e. omega arith)
ends-checked n bytes check.TooLong o p = ends-refused n 8 0 bytes (λ e. omega arith)

module _ (c : WriteCtx) (left : ℕ) (child : ChildWrite) (ih : Follows c left child) where
  -- ---- a map

  field-ends : (at next : Cursor) (bytes : List ℕ) → value_at (form_ctx c) left at ≡ Some next → (a : FieldAnswer) → EndsAt next.at (field_write child at bytes a)
  unfolding field_write field_numbers
  field-ends at next bytes h (answer.Field f) =
      ends_if next.at (leb (f.offset + f.size) (length bytes)) _ 10 0 bytes (λ e. omega arith)
      (ends-placed next.at _ _ bytes _ (ih (whole f.resolved) at next _ h))
  field-ends at next bytes h (answer.NotFound b) = ends-refused next.at 7 b bytes (λ e. omega arith)
  field-ends at next bytes h answer.TooLong = ends-refused next.at 8 0 bytes (λ e. omega arith)

  found-ends : (at next : Cursor) (bytes : List ℕ) → value_at (form_ctx c) left at ≡ Some next → (f : Option ℕ) → EndsAt next.at (found_value child c at bytes f)
  unfolding found_value
  found-ends at next bytes h (Some f) = field-ends at next bytes h (resolve_field c.book c.width f)
  found-ends at next bytes h None = ends-refused next.at 18 0 bytes (λ e. omega arith)

  key-ends : (t : ℕ) (at next : Cursor) (bytes : List ℕ) → member_at (form_ctx c) (value_at (form_ctx c) left) at ≡ Some next → EndsAt next.at (key_of child c t at bytes)
  unfolding member_at key_of key_by
  key-ends t at next bytes h =
      let k = took (step_at c.tape at.at) _ next h in
      let p = passed (is_key c.book k.r) _ next k.goes in
      let q : k.r.kind ≡ 4 = key-kind c.book k.r p.test in
      ends-taken c.tape next.at at bytes _ k.r k.mid k.is
      (rw (eq-eqb k.r.kind 4 q) (found-ends k.mid next bytes p.goes (field_named c.book t (record_text c.book c.text k.r))))

  keys-end : (t k : ℕ) (at next : Cursor) (bytes : List ℕ) → several (form_ctx c) (member_at (form_ctx c) (value_at (form_ctx c) left)) 5 k at ≡ Some next
      → EndsAt next.at (keys_from child c t k at bytes)
  unfolding several keys_from
  keys-end t zero at next bytes h = ends-closing c 5 at next bytes h
  keys-end t (suc k) at next bytes h =
      let w = went_on (member_at (form_ctx c) (value_at (form_ctx c) left) at) _ next h in
      ends-then next.at w.mid _ _ (key-ends t at w.mid bytes w.is) (λ mid. keys-end t k w.mid next mid w.goes)

  map-ends : (t k : ℕ) (at next : Cursor) (bytes : List ℕ) → several (form_ctx c) (member_at (form_ctx c) (value_at (form_ctx c) left)) 5 k at ≡ Some next → (s : Shape)
      → EndsAt next.at (map_by child c t k at bytes s)
  unfolding map_by
  map-ends t k at next bytes h shape.Map =
      ends_if next.at (eqb (length bytes) (size_of c.book t)) _ 10 0 bytes (λ e. omega arith)
      (ends-checked next.at bytes (fields_check c.book c.width t) _ (keys-end t k at next bytes h))
  map-ends t k at next bytes h shape.Array = ends-refused next.at 17 0 bytes (λ e. omega arith)
  map-ends t k at next bytes h shape.Leaf = ends-refused next.at 17 0 bytes (λ e. omega arith)

  -- ---- an array

  elements-end : (item : Content ℕ) (stride n i from k : ℕ) (at next : Cursor) (bytes : List ℕ) → several (form_ctx c) (value_at (form_ctx c) left) 2 k at ≡ Some next
      → EndsAt next.at (elements_write child c item stride n i from k at bytes)
  unfolding several elements_write
  elements-end item stride n i from zero at next bytes h =
      ends-cond next.at (ltb i n) _ _ (ends-refused next.at 17 0 bytes (λ e. omega arith)) (ends-closing c 2 at next bytes h)
  elements-end item stride n i from (suc k) at next bytes h =
      let w = went_on (value_at (form_ctx c) left at) _ next h in
      ends_if next.at (ltb i n) _ 17 0 bytes (λ e. omega arith)
      (ends-then next.at w.mid _ _ (ends-placed w.mid.at from stride bytes _ (ih item at w.mid _ w.is))
      (λ mid. elements-end item stride n (i + 1) (from + stride) k w.mid next mid w.goes))

  -- a value's record, where the form has one
  module _ (at next : Cursor) (r : Record) (mid : Cursor) (s : step_at c.tape at.at ≡ Some (r, mid))
      (h : form.body_by (form_ctx c) (value_at (form_ctx c) left) (form.record_shape (form_ctx c) r) mid ≡ Some next) where
    dimension_ends : (d t e : ℕ) (bytes : List ℕ) → EndsAt next.at (dimension_write child c d t e at bytes)
    unfolding dimension_write elements_by
    dimension_ends d t e bytes =
        ends-checked next.at bytes (element_check c.book c.width d t e) _
        (ends-taken c.tape next.at at bytes _ r mid s (by (eqb r.kind 1) refl))
      where
        by : (b : Bool) → eqb r.kind 1 ≡ b
            → EndsAt next.at (cond b (elements_write child c (element_item c.book d t e) (stride_of c.book d t e) (count_of c.book t d) 0 0 r.a mid bytes) (refused 17 0 bytes))
        by true q =
            elements-end (element_item c.book d t e) (stride_of c.book d t e) (count_of c.book t d) 0 0 r.a mid next bytes
            (array_form (form_ctx c) (value_at (form_ctx c) left) r mid next h (eqb-true r.kind 1 q))
        by false q = ends-refused next.at 17 0 bytes (λ e. omega arith)

    entered-ends : (t : ℕ) (bytes : List ℕ) (x : Entered) → EnteredMild x → EndsAt next.at (array_write_by child c t at bytes x)
    unfolding array_write_by
    entered-ends t bytes (entered.Element e) m = dimension_ends 0 t e bytes
    entered-ends t bytes (entered.Stop n b) m = ends-refused next.at n b bytes m.never

    array-ends : (t : ℕ) (bytes : List ℕ) → EndsAt next.at (array_write child c t at bytes)
    unfolding array_write entered_at
    array-ends t bytes = entered-ends t bytes _ (entered_mild c.book c.width t (length bytes) (shape_of (category_of c.book c.width t)))

    value-ends : (t : ℕ) (bytes : List ℕ) → EndsAt next.at (value_by child c t at bytes r mid)
    unfolding value_by map_write leaf_write
    value-ends t bytes = one (eqb r.kind 1) refl
      where
        leaf-ends : (r.kind ≡ 1 → ⊥) → (r.kind ≡ 3 → ⊥)
            → EndsAt next.at (leaf_end mid bytes (leaf_for c.book c.width t (category_of c.book c.width t) r c.text bytes))
        leaf-ends n m =
            let l = leaf_form (form_ctx c) (value_at (form_ctx c) left) r mid next h n m in
            mild_ends next.at mid bytes _ l.same (mild_leaf c.book c.width t bytes (category_of c.book c.width t) r c.text l.fine)

        three : (b : Bool) → eqb r.kind 3 ≡ b → (r.kind ≡ 1 → ⊥)
            → EndsAt next.at (cond b (map_by child c t r.a mid bytes (shape_at c.book c.width t)) (leaf_end mid bytes (leaf_for c.book c.width t (category_of c.book c.width t) r c.text bytes)))
        three true q n = map-ends t r.a mid next bytes (map_form (form_ctx c) (value_at (form_ctx c) left) r mid next h (eqb-true r.kind 3 q)) (shape_at c.book c.width t)
        three false q n = leaf-ends n (eqb-false r.kind 3 q)

        one : (b : Bool) → eqb r.kind 1 ≡ b
            → EndsAt next.at (cond b (array_write child c t at bytes) (cond (eqb r.kind 3) (map_by child c t r.a mid bytes (shape_at c.book c.width t)) (leaf_end mid bytes (leaf_for c.book c.width t (category_of c.book c.width t) r c.text bytes))))
        one true q = array-ends t bytes
        one false q = three (eqb r.kind 3) refl (eqb-false r.kind 1 q)

  item_ends : Follows c (suc left) (item_write child c)
  unfolding value_at item_write
  item_ends (whole t) at next bytes h =
      let k = took (step_at c.tape at.at) _ next h in
      ends-taken c.tape next.at at bytes _ k.r k.mid k.is (value-ends at next k.r k.mid k.is k.goes t bytes)
  item_ends (further d t e) at next bytes h =
      let k = took (step_at c.tape at.at) _ next h in
      dimension_ends at next k.r k.mid k.is k.goes d t e bytes

pub walk-follows : (c : WriteCtx) (left : ℕ) → Follows c left (write_walk c left)
unfolding write_walk value_at
walk-follows c zero i at next bytes h = broken_at h
walk-follows c (suc left) i at next bytes h = item_ends c left (write_walk c left) (walk-follows c left) i at next bytes h

-- ---- the laws

ends-formed : (c : WriteCtx) (t : ℕ) (image : List ℕ) (p : Option Cursor) → value_at (form_ctx c) 64 (record { at = 0 }) ≡ p → at_tape_end (length c.tape) p ≡ true
    → EndsAt (length c.tape) (type_write c t image)
unfolding at_tape_end type_write
ends-formed c t image (Some next) e h =
    let q : next.at ≡ length c.tape = eqb-true next.at (length c.tape) h in
    rw q at (walk-follows c 64 (whole t) (record { at = 0 }) next image e)
ends-formed c t image None e h = different cc

pub formed-ends : FormedEnds
unfolding formed
formed-ends c t image h = ends-formed c t image (value_at (form_ctx c) 64 (record { at = 0 })) refl h

-- the answer of a walk that is not refused with 16
not_sixteen : (n : ℕ) (o : Outcome) → EndsAt n o → write_answer_of o ≡ Refused 16 → ⊥
not_sixteen n (went at bytes) p e = different cc
not_sixteen n (refused k b bytes) p e = by (eqb k 7) e
  where
    by : (t : Bool) → cond t (NotFound b) (Refused k) ≡ Refused 16 → ⊥
    by true q = different cc
    by false q = p.ends (let z : k ≡ 16 = cc in z)

root_sixteen : (c : WriteCtx) (image : List ℕ) (r : Resolved) → formed c.book c.tape c.text ≡ true → write_answer_of (root_write_by c image r) ≡ Refused 16 → ⊥
unfolding root_write_by resolved_numbers
root_sixteen c image (resolved.Base t) f e = not_sixteen (length c.tape) (type_write c t image) (formed-ends c t image f) e
root_sixteen c image (resolved.NotFound b) f e = different cc
root_sixteen c image resolved.TooLong f e = different cc

pub sixteen_is_form : SixteenIsForm
unfolding book_write root_write
sixteen_is_form c n image = (λ e. by (formed c.book c.tape c.text) refl e, λ f. rw (same, f))
  where
    same : eqb (length image) (length image) ≡ true
    same = eq-eqb (length image) (length image) refl

    by : (t : Bool) → formed c.book c.tape c.text ≡ t → write_answer_of (book_write c n (length image) image) ≡ Refused 16 → formed c.book c.tape c.text ≡ false
    by true q e = absurd (root_sixteen c image (resolve_alias c.book c.width n) q (rw (same, q) at e))
    by false q e = q
