-- The walk of a write looks at a record's kind, A and B, and at byte 1 of no text: over two tapes that agree there it comes to the same. Assumes
-- nothing.
use Rattle.std.specs.Prelude.{Option, Some, None}
use mathlib.Core.Path.{◌≡◌, refl, sym, ◌∙◌}
use mathlib.Core.Bool.{Bool, true, false, cond}
use mathlib.Core.List.{List}
use Prim.Native.Nat.{ℕ, zero, suc, ◌+◌, ◌%◌}
use native.Mathlib.Omega.{arith}
use borrow.Author.Tests.{eqb-true, eqb-false, leb-true}
use lib.ListN.{length, drop}
use lib.Dec.{leb, ltb, eqb}
use Rattle.type_book.specs.Book.{size_of, count_of}
use Rattle.type_category.specs.Category.{category_of}
use Rattle.resolvers.specs.Resolve.{resolve_alias}
use Rattle.resolvers.specs.declared.Resolved.{Resolved}
use Rattle.resolvers.specs.declared.Resolved.TheVariants as resolved
use Rattle.resolve_field_types.specs.Fields.{resolve_field, fields_check}
use Rattle.resolve_field_types.specs.declared.FieldAnswer.{FieldAnswer}
use Rattle.resolve_field_types.specs.declared.FieldAnswer.TheVariants as answer
use Rattle.resolve_field_types.specs.declared.FieldsCheck.{FieldsCheck}
use Rattle.resolve_field_types.specs.declared.FieldsCheck.TheVariants as check
use Rattle.tape_shape.specs.declared.Shape.{Shape}
use Rattle.tape_shape.specs.declared.Shape.TheVariants as shape
use Rattle.tape_shape.specs.Array.{stride_of}
use Rattle.ser_named_blocks.specs.Named.{field_named}
use Rattle.tape.specs.Record.{record_of, step_at}
use Rattle.tape.specs.Text.{record_text}
use Rattle.tape.specs.declared.record.Record.{Record}
use Rattle.tape.specs.declared.cursor.Cursor.{Cursor}
use Rattle.ser_leaf.specs.declared.Target.{Target}
use Rattle.type_category.specs.declared.type_category.AdsTypeCategory.{AdsTypeCategory}
use Rattle.ser_leaf.specs.Leaf.{Leaf, holds, target_of, leaf_write_by, count_leaf, leaf_for}
use Rattle.time_types.specs.Counts.{count_width}
use Rattle.ser_leaf.specs.Leaf as leaf
use Rattle.ser.specs.declared.array_writer.Entered.{Entered}
use Rattle.ser.specs.declared.array_writer.Entered.TheVariants as entered
use Rattle.tape_array_elements.specs.Element.{Content, whole, further, shape_at, element_item, element_check}
use Rattle.ser.specs.Write.{WriteCtx, write_ctx, Outcome, went, refused, ◌then_writes◌, ChildWrite, placed, taken_by, taken, end_record_by, leaf_end, leaf_write, checked_write, field_write, found_value, key_by, key_of, keys_from, map_by, map_write, elements_write, elements_by, dimension_write, entered_at, array_write_by, array_write, value_by, item_write, write_walk}
use Rattle.ser.specs.Call.{type_write, root_write_by, root_write}
use Rattle.ser_laws.specs.Alike.{Records}

-- two records that are written alike
pub record WrittenAlike (r s : Record) : Type 0 where
  pub kind : r.kind ≡ s.kind
  pub width : (r.kind ≡ 11 → ⊥) → r.width ≡ s.width
  pub a : r.a ≡ s.a
  pub b : r.b ≡ s.b

-- ---- two walks that come to the same, at the end of a record

abbrev WholeEnd : Outcome → Type 0
WholeEnd (went at bytes) = at.at % 24 ≡ 0
WholeEnd (refused k b bytes) = Unit {0}

pub record Same (o u : Outcome) : Type 0 where
  pub is : o ≡ u
  pub whole-end : WholeEnd o

same-refused : (k b : ℕ) (bytes : List ℕ) → Same (refused k b bytes) (refused k b bytes)
same-refused k b bytes = record { is = refl; whole-end = tt }

same-went : (at : Cursor) (bytes : List ℕ) → at.at % 24 ≡ 0 → Same (went at bytes) (went at bytes)
same-went at bytes h = record { is = refl; whole-end = h }

same_cond : (t : Bool) {o u o' u' : Outcome} → Same o o' → Same u u' → Same (cond t o u) (cond t o' u')
same_cond true p q = p
same_cond false p q = q

same_then : (o o' : Outcome) (f f' : Cursor → List ℕ → Outcome) → Same o o' → ((at : Cursor) (bytes : List ℕ) → at.at % 24 ≡ 0 → Same (f at bytes) (f' at bytes)) → Same (o then_writes f) (o' then_writes f')
unfolding ◌then_writes◌
same_then (went at bytes) o' f f' p q = rw (sym p.is) (q at bytes p.whole-end)
same_then (refused k b bytes) o' f f' p q = rw (sym p.is) (same-refused k b bytes)

same-placed : (from size : ℕ) (bytes : List ℕ) (o o' : Outcome) → Same o o' → Same (placed from size bytes o) (placed from size bytes o')
unfolding placed
same-placed from size bytes (went at part) o' p = rw (sym p.is) (same-went at _ p.whole-end)
same-placed from size bytes (refused k b part) o' p = rw (sym p.is) (same-refused k b _)

same-checked : (f : FieldsCheck) (bytes : List ℕ) (o o' : Outcome) → Same o o' → Same (checked_write f bytes o) (checked_write f bytes o')
unfolding checked_write
same-checked check.Fine bytes o o' p = p
same-checked (check.NotFound b) bytes o o' p = same-refused _ _ bytes
same-checked check.TooLong bytes o o' p = same-refused _ _ bytes

-- ---- a record

module _ (book text : List ℕ) (r s : Record) (w : WrittenAlike r s) where
  text-alike : record_text book text r ≡ record_text book text s
  unfolding record_text
  text-alike = rw (w.kind, w.a, w.b)

  leaf-alike : (width t : ℕ) (k : Target) (old : List ℕ) → leaf_write_by book width t k r text old ≡ leaf_write_by book width t k s text old
  unfolding leaf_write_by
  leaf-alike width t k old = by (eqb r.kind 11) refl
    where
      by : (x : Bool) → eqb r.kind 11 ≡ x → leaf_write_by book width t k r text old ≡ leaf_write_by book width t k s text old
      by true q =
          let e : r.kind ≡ 11 = eqb-true r.kind 11 q in
          let f : s.kind ≡ 11 = sym w.kind ∙ e in
          rw (text-alike, e, f)
      by false q = rw (text-alike, w.kind, w.b, w.width (eqb-false r.kind 11 q))

  count-alike : (n : ℕ) (old : List ℕ) → count_leaf n r old ≡ count_leaf n s old
  unfolding count_leaf
  count-alike n old = by (eqb r.kind 11) refl
    where
      by : (x : Bool) → eqb r.kind 11 ≡ x → count_leaf n r old ≡ count_leaf n s old
      by true q =
          let e : r.kind ≡ 11 = eqb-true r.kind 11 q in
          let f : s.kind ≡ 11 = sym w.kind ∙ e in
          rw (e, f)
      by false q = rw (w.kind, w.b, w.width (eqb-false r.kind 11 q))

  leaf_for_alike : (width t : ℕ) (k : AdsTypeCategory) (old : List ℕ) → leaf_for book width t k r text old ≡ leaf_for book width t k s text old
  unfolding leaf_for
  leaf_for_alike width t k old = rw (leaf-alike width t (target_of k) old, count-alike (count_width book t k) old)

-- ---- the walk

module _ (book : List ℕ) (width : ℕ) (text tape tape' : List ℕ) (alike : Records WrittenAlike tape tape') where
  abbrev c : WriteCtx
  c = write_ctx book width tape text

  abbrev c' : WriteCtx
  c' = write_ctx book width tape' text

  -- what follows by a record, where it follows alike by records that are alike
  same_taken : (at : Cursor) (bytes : List ℕ) (f f' : Record → Cursor → Outcome) → at.at % 24 ≡ 0
      → ((r s : Record) (next : Cursor) → WrittenAlike r s → next.at % 24 ≡ 0 → Same (f r next) (f' s next))
      → Same (taken tape at bytes f) (taken tape' at bytes f')
  unfolding taken taken_by step_at
  same_taken at bytes f f' h g = rw (← alike.same_length) (by (leb (at.at + 24) (length tape)) refl)
    where
      by : (t : Bool) → leb (at.at + 24) (length tape) ≡ t
          → Same (taken_by bytes f (cond t (Some (record_of (drop at.at tape), record { at = at.at + 24 })) None))
          (taken_by bytes f' (cond t (Some (record_of (drop at.at tape'), record { at = at.at + 24 })) None))
      by true q = g _ _ _ (alike.each at.at h (leb-true (at.at + 24) (length tape) q)) (omega arith)
      by false q = same-refused 16 0 bytes

  same_end : (kind : ℕ) (at : Cursor) (bytes : List ℕ) → at.at % 24 ≡ 0 → Same (taken tape at bytes (end_record_by kind bytes)) (taken tape' at bytes (end_record_by kind bytes))
  unfolding end_record_by
  same_end kind at bytes h =
      same_taken at bytes _ _ h (λ r s next w n. rw (← w.kind) (same_cond (eqb r.kind kind) (same-went next bytes n) (same-refused 16 0 bytes)))

  same-leaf : (next : Cursor) (bytes : List ℕ) → next.at % 24 ≡ 0 → (l : Leaf) → Same (leaf_end next bytes l) (leaf_end next bytes l)
  unfolding leaf_end
  same-leaf next bytes h (holds new) = same-went next new h
  same-leaf next bytes h (leaf.refused n) = same-refused n 0 bytes

  module _ (child child' : ChildWrite) (ih : (i : Content ℕ) (at : Cursor) (bytes : List ℕ) → at.at % 24 ≡ 0 → Same (child i at bytes) (child' i at bytes)) where
    -- ---- a map

    field-same : (at : Cursor) (bytes : List ℕ) → at.at % 24 ≡ 0 → (a : FieldAnswer) → Same (field_write child at bytes a) (field_write child' at bytes a)
    unfolding field_write
    field-same at bytes h (answer.Field f) =
        same_cond (leb (f.offset + f.size) (length bytes)) (same-placed _ _ bytes _ _ (ih (whole f.resolved) at _ h)) (same-refused 10 0 bytes)
    field-same at bytes h (answer.NotFound b) = same-refused _ _ bytes
    field-same at bytes h answer.TooLong = same-refused _ _ bytes

    found-same : (at : Cursor) (bytes : List ℕ) → at.at % 24 ≡ 0 → (f : Option ℕ) → Same (found_value child c at bytes f) (found_value child' c' at bytes f)
    unfolding found_value
    found-same at bytes h (Some f) = field-same at bytes h (resolve_field book width f)
    found-same at bytes h None = same-refused 18 0 bytes

    key-same : (t : ℕ) (at : Cursor) (bytes : List ℕ) → at.at % 24 ≡ 0 → Same (key_of child c t at bytes) (key_of child' c' t at bytes)
    unfolding key_of key_by
    key-same t at bytes h =
        same_taken at bytes _ _ h
        (λ r s next w n. rw (← text-alike book text r s w, ← w.kind) (same_cond (eqb r.kind 4) (found-same next bytes n (field_named book t (record_text book text r))) (same-refused 16 0 bytes)))

    keys-same : (t k : ℕ) (at : Cursor) (bytes : List ℕ) → at.at % 24 ≡ 0 → Same (keys_from child c t k at bytes) (keys_from child' c' t k at bytes)
    unfolding keys_from
    keys-same t zero at bytes h = same_end 5 at bytes h
    keys-same t (suc k) at bytes h = same_then _ _ _ _ (key-same t at bytes h) (λ next mid n. keys-same t k next mid n)

    map_same : (t k : ℕ) (at : Cursor) (bytes : List ℕ) → at.at % 24 ≡ 0 → (s : Shape) → Same (map_by child c t k at bytes s) (map_by child' c' t k at bytes s)
    unfolding map_by
    map_same t k at bytes h shape.Map =
        same_cond (eqb (length bytes) (size_of book t)) (same-checked (fields_check book width t) bytes _ _ (keys-same t k at bytes h)) (same-refused 10 0 bytes)
    map_same t k at bytes h shape.Array = same-refused 17 0 bytes
    map_same t k at bytes h shape.Leaf = same-refused 17 0 bytes

    -- ---- an array

    elements_same : (item : Content ℕ) (stride n i from k : ℕ) (at : Cursor) (bytes : List ℕ) → at.at % 24 ≡ 0
        → Same (elements_write child c item stride n i from k at bytes) (elements_write child' c' item stride n i from k at bytes)
    unfolding elements_write
    elements_same item stride n i from zero at bytes h = same_cond (ltb i n) (same-refused 17 0 bytes) (same_end 2 at bytes h)
    elements_same item stride n i from (suc k) at bytes h =
        same_cond (ltb i n)
        (same_then _ _ _ _ (same-placed from stride bytes _ _ (ih item at _ h)) (λ next mid m. elements_same item stride n (i + 1) (from + stride) k next mid m))
        (same-refused 17 0 bytes)

    dimension_same : (d t e : ℕ) (at : Cursor) (bytes : List ℕ) → at.at % 24 ≡ 0 → Same (dimension_write child c d t e at bytes) (dimension_write child' c' d t e at bytes)
    unfolding dimension_write elements_by
    dimension_same d t e at bytes h =
        same-checked (element_check book width d t e) bytes _ _
        (same_taken at bytes _ _ h
        (λ r s next w n.
        rw (← w.kind, ← w.a)
        (same_cond (eqb r.kind 1) (elements_same (element_item book d t e) (stride_of book d t e) (count_of book t d) 0 0 r.a next bytes n) (same-refused 17 0 bytes))))

    entered-same : (t : ℕ) (at : Cursor) (bytes : List ℕ) → at.at % 24 ≡ 0 → (x : Entered) → Same (array_write_by child c t at bytes x) (array_write_by child' c' t at bytes x)
    unfolding array_write_by
    entered-same t at bytes h (entered.Element e) = dimension_same 0 t e at bytes h
    entered-same t at bytes h (entered.Stop n b) = same-refused n b bytes

    array_same : (t : ℕ) (at : Cursor) (bytes : List ℕ) → at.at % 24 ≡ 0 → Same (array_write child c t at bytes) (array_write child' c' t at bytes)
    unfolding array_write
    array_same t at bytes h = entered-same t at bytes h (entered_at book width t (length bytes))

    -- ---- a value

    value_same : (t : ℕ) (at : Cursor) (bytes : List ℕ) → at.at % 24 ≡ 0 → (r s : Record) (next : Cursor) → WrittenAlike r s → next.at % 24 ≡ 0
        → Same (value_by child c t at bytes r next) (value_by child' c' t at bytes s next)
    unfolding value_by map_write leaf_write
    value_same t at bytes h r s next w n =
        rw (← leaf_for_alike book text r s w width t (category_of book width t) bytes, ← w.kind, ← w.a)
        (same_cond (eqb r.kind 1) (array_same t at bytes h)
        (same_cond (eqb r.kind 3) (map_same t r.a next bytes n (shape_at book width t)) (same-leaf next bytes n _)))

    item_same : (i : Content ℕ) (at : Cursor) (bytes : List ℕ) → at.at % 24 ≡ 0 → Same (item_write child c i at bytes) (item_write child' c' i at bytes)
    unfolding item_write
    item_same (whole t) at bytes h = same_taken at bytes _ _ h (value_same t at bytes h)
    item_same (further d t e) at bytes h = dimension_same d t e at bytes h

  pub walk_same : (left : ℕ) (i : Content ℕ) (at : Cursor) (bytes : List ℕ) → at.at % 24 ≡ 0 → Same (write_walk c left i at bytes) (write_walk c' left i at bytes)
  unfolding write_walk
  walk_same zero i at bytes h = same-refused 16 0 bytes
  walk_same (suc left) i at bytes h = item_same (write_walk c left) (write_walk c' left) (walk_same left) i at bytes h

  -- what is written of a resolved type
  pub type-same : (t : ℕ) (image : List ℕ) → type_write c t image ≡ type_write c' t image
  unfolding type_write
  type-same t image = (walk_same 64 (whole t) (record { at = 0 }) image refl).is

  root-by-same : (image : List ℕ) (r : Resolved) → root_write_by c image r ≡ root_write_by c' image r
  unfolding root_write_by
  root-by-same image (resolved.Base t) = type-same t image
  root-by-same image (resolved.NotFound b) = refl
  root-by-same image resolved.TooLong = refl

  -- and of a root
  pub root-same : (n : ℕ) (image : List ℕ) → root_write c n image ≡ root_write c' n image
  unfolding root_write
  root-same n image = root-by-same image (resolve_alias book width n)
