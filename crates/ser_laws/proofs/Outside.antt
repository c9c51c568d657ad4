-- A write changes no byte outside the ranges of its leaves, step by step along the walk. Assumes nothing.
use Rattle.std.specs.Prelude.{Option, Some, None}
use mathlib.Core.Path.{◌≡◌, refl, sym}
use mathlib.Core.Bool.{Bool, true, false, cond}
use mathlib.Core.List.{List, [], ◌∷◌, ◌++◌}
use Prim.Native.Nat.{ℕ, zero, suc, ◌+◌, ◌*◌, ◌-◌, ◌≤◌}
use native.Mathlib.Omega.{arith}
use borrow.Author.Tests.{leb-true, ltb-true}
use lib.ListN.{length}
use lib.Dec.{leb, ltb, eqb}
use Rattle.type_book.specs.Book.{size_of, count_of}
use Rattle.type_category.specs.Category.{category_of}
use Rattle.resolvers.specs.Resolve.{look_up, resolved_numbers}
use Rattle.resolvers.specs.declared.Resolved.{Resolved}
use Rattle.resolvers.specs.declared.Resolved.TheVariants as resolved
use Rattle.resolve_field_types.specs.Fields.{resolve_field, fields_check, field_numbers, check_numbers}
use Rattle.resolve_field_types.specs.declared.FieldAnswer.{FieldAnswer}
use Rattle.resolve_field_types.specs.declared.FieldAnswer.TheVariants as answer
use Rattle.resolve_field_types.specs.declared.FieldsCheck.{FieldsCheck}
use Rattle.resolve_field_types.specs.declared.FieldsCheck.TheVariants as check
use Rattle.tape_shape.specs.declared.Shape.{Shape}
use Rattle.tape_shape.specs.declared.Shape.TheVariants as shape
use Rattle.tape_shape.specs.Value.{shape_of}
use Rattle.tape_shape.specs.Array.{stride_of, is_last, array_bytes, Fills}
use Rattle.tape_shape.proofs.Strides.{Along, along-again, along-end, fills_first, fills-further}
use Rattle.ser_named_blocks.specs.Named.{field_named}
use Rattle.tape.specs.Record.{step_at}
use Rattle.tape.specs.Text.{record_text}
use Rattle.tape.specs.declared.record.Record.{Record}
use Rattle.tape.specs.declared.cursor.Cursor.{Cursor}
use Rattle.ser_leaf.specs.Leaf.{Leaf, holds}
use Rattle.ser_leaf.specs.Leaf as leaf
use Rattle.ser.specs.declared.array_writer.Entered.TheVariants as entered
use Rattle.tape_array_elements.specs.Element.{Content, whole, further, cut, shape_at, element_item, element_check}
use Rattle.ser.specs.Write.{WriteCtx, Outcome, went, refused, ◌then_writes◌, ChildWrite, placed, taken_by, taken, end_record_by, leaf_end, leaf_write, checked_write, field_write, found_value, key_by, key_of, keys_from, map_by, map_write, elements_write, elements_by, dimension_write, element_type, entered_by, entered_at, array_write_by, array_write, value_by, item_write, write_walk}
use Rattle.ser_laws.specs.Touched.{Range, Touched, upto, nowhere, ranges_then, ◌and◌, record_by, end_at, field_touched, found_touched, key_touched, keys_touched, elements_touched, dimension_touched, array_touched, value_touched, item_touched, walk_touched}
use Rattle.ser_laws.specs.Touched as touched
use Rattle.ser_laws.proofs.Sizes.{Sized, sized_for}
use Rattle.ser_laws.proofs.Ranges.{Kept, kept-none, kept-all, kept_then, kept-part, length_cut}

-- ---- a write and the ranges that it touches

-- an accepted write ends at the cursor of the ranges, and keeps what is outside them
pub record Keeps (from : ℕ) (old : List ℕ) (at : Cursor) (new : List ℕ) (t : Touched) : Type 0 where
  pub ranges : List Range
  pub is : t ≡ upto at ranges
  pub kept : Kept from old new ranges

abbrev AgreesBy : ℕ → List ℕ → Outcome → Touched → Type 0
AgreesBy from old (went at new) t = Keeps from old at new t
AgreesBy from old (refused n b new) t = Unit {0}

pub record Agrees (from : ℕ) (old : List ℕ) (o : Outcome) (t : Touched) : Type 0 where
  pub agrees : AgreesBy from old o t

agrees-refused : (from : ℕ) (old : List ℕ) (n b : ℕ) (bytes : List ℕ) (t : Touched) → Agrees from old (refused n b bytes) t
agrees-refused from old n b bytes t = record { agrees = tt }

-- a test, else a refusal
agrees_if : (from : ℕ) (old : List ℕ) (b : Bool) (o : Outcome) (n m : ℕ) (bytes : List ℕ) (t : Touched) → (b ≡ true → Agrees from old o t)
    → Agrees from old (cond b o (refused n m bytes)) t
agrees_if from old true o n m bytes t h = h refl
agrees_if from old false o n m bytes t h = agrees-refused from old n m bytes t

-- a refusal where a test holds
agrees_unless : (from : ℕ) (old : List ℕ) (b : Bool) (o : Outcome) (n m : ℕ) (bytes : List ℕ) (t : Touched) → Agrees from old o t
    → Agrees from old (cond b (refused n m bytes) o) t
agrees_unless from old true o n m bytes t h = agrees-refused from old n m bytes t
agrees_unless from old false o n m bytes t h = h

agrees-cond : (from : ℕ) (old : List ℕ) (b : Bool) (o u : Outcome) (t s : Touched) → Agrees from old o t → Agrees from old u s
    → Agrees from old (cond b o u) (cond b t s)
agrees-cond from old true o u t s p q = p
agrees-cond from old false o u t s p q = q

module _ (from : ℕ) (old : List ℕ) where
  -- one change after another
  agrees-next : (at : Cursor) (mid : List ℕ) (rs : List Range) → Kept from old mid rs → (o : Outcome) (t : Touched) → Agrees from mid o t
      → Agrees from old o (ranges_then rs t)
  unfolding ranges_then
  agrees-next at mid rs k (went next new) t a =
      let x = a.agrees in
      let z : ranges_then rs t ≡ upto next (rs ++ x.ranges) = rw x.is in
      record { agrees = record { ranges = rs ++ x.ranges; is = z; kept = kept_then k x.kept } }
  agrees-next at mid rs k (refused n b new) t a = agrees-refused from old n b new (ranges_then rs t)

  pub agrees-then : (o : Outcome) (t : Touched) (f : Cursor → List ℕ → Outcome) (g : Cursor → Touched) → Agrees from old o t
      → ((at : Cursor) (mid : List ℕ) → length mid ≡ length old → Agrees from mid (f at mid) (g at)) → Agrees from old (o then_writes f) (t and g)
  unfolding ◌then_writes◌ ◌and◌
  agrees-then (went at mid) t f g a h =
      let x = a.agrees in
      let z : (t and g) ≡ ranges_then x.ranges (g at) = rw x.is in
      rw z (agrees-next at mid x.ranges x.kept (f at mid) (g at) (h at mid x.kept.same_length))
  agrees-then (refused n b mid) t f g a h = agrees-refused from old n b mid (t and g)

-- a part of the bytes
agrees-placed : (from at size : ℕ) (bytes : List ℕ) → at + size ≤ length bytes → (o : Outcome) (t : Touched) → Agrees (from + at) (cut at size bytes) o t
    → Agrees from bytes (placed at size bytes o) t
unfolding placed
agrees-placed from at size bytes l (went next part) t a =
    let x = a.agrees in
    record { agrees = record { ranges = x.ranges; is = x.is; kept = kept-part from at size l x.kept } }
agrees-placed from at size bytes l (refused n b part) t a = agrees-refused from bytes n b _ t

-- ---- records

agrees-by : (from : ℕ) (bytes : List ℕ) (f : Record → Cursor → Outcome) (g : Record → Cursor → Touched)
    → ((r : Record) (next : Cursor) → Agrees from bytes (f r next) (g r next)) → (s : Option (Record × Cursor)) → Agrees from bytes (taken_by bytes f s) (record_by g s)
unfolding taken_by record_by
agrees-by from bytes f g h (Some (r, next)) = h r next
agrees-by from bytes f g h None = agrees-refused from bytes 16 0 bytes nowhere

module _ (c : WriteCtx) (from : ℕ) (bytes : List ℕ) where
  agrees-taken : (at : Cursor) (f : Record → Cursor → Outcome) (g : Record → Cursor → Touched)
      → ((r : Record) (next : Cursor) → Agrees from bytes (f r next) (g r next)) → Agrees from bytes (taken c.tape at bytes f) (record_by g (step_at c.tape at.at))
  unfolding taken
  agrees-taken at f g h = agrees-by from bytes f g h (step_at c.tape at.at)

  agrees-end : (at : Cursor) (kind : ℕ) → Agrees from bytes (taken c.tape at bytes (end_record_by kind bytes)) (end_at c at)
  unfolding end_at end_record_by
  agrees-end at kind =
      agrees-taken at _ _ (λ r next.
      agrees_if from bytes (eqb r.kind kind) _ 16 0 bytes _ (λ h. record { agrees = record { ranges = []; is = refl; kept = kept-none from bytes } }))

-- ---- a leaf

agrees-leaf-end : (from size : ℕ) (bytes : List ℕ) (next : Cursor) → size ≡ length bytes → (l : Leaf) → Sized bytes l
    → Agrees from bytes (leaf_end next bytes l) (upto next (record { from = from; size = size } ∷ []))
unfolding leaf_end
agrees-leaf-end from size bytes next e (holds new) s =
    record { agrees = record { ranges = record { from = from; size = size } ∷ []; is = refl; kept = kept-all from size bytes new e s.sized } }
agrees-leaf-end from size bytes next e (leaf.refused n) s = agrees-refused from bytes n 0 bytes _

-- ---- the walk

-- a further dimension fills its bytes
abbrev pub Good : WriteCtx → Content ℕ → ℕ → Type 0
Good c (whole t) size = Unit {0}
Good c (further d t e) size = Fills c.book d t e size

abbrev Children : WriteCtx → ChildWrite → touched.ChildTouched → Type 0
Children c child marks =
    (i : Content ℕ) (at : Cursor) (from size : ℕ) (bytes : List ℕ) → size ≡ length bytes → Good c i size → Agrees from bytes (child i at bytes) (marks i at from size)

module _ (c : WriteCtx) (child : ChildWrite) (marks : touched.ChildTouched) (ih : Children c child marks) where
  -- ---- a map

  field-agrees : (at : Cursor) (from : ℕ) (bytes : List ℕ) (a : FieldAnswer) → Agrees from bytes (field_write child at bytes a) (field_touched marks at from a)
  unfolding field_write field_touched field_numbers
  field-agrees at from bytes (answer.Field f) =
      agrees_if from bytes (leb (f.offset + f.size) (length bytes)) _ 10 0 bytes _ (λ h.
      let l = leb-true (f.offset + f.size) (length bytes) h in
      agrees-placed from f.offset f.size bytes l _ _
      (ih (whole f.resolved) at (from + f.offset) f.size _ (sym (length_cut f.offset f.size bytes l)) tt))
  field-agrees at from bytes (answer.NotFound b) = agrees-refused from bytes 7 b bytes nowhere
  field-agrees at from bytes answer.TooLong = agrees-refused from bytes 8 0 bytes nowhere

  found-agrees : (at : Cursor) (from : ℕ) (bytes : List ℕ) (f : Option ℕ) → Agrees from bytes (found_value child c at bytes f) (found_touched marks c at from f)
  unfolding found_value found_touched
  found-agrees at from bytes (Some f) = field-agrees at from bytes (resolve_field c.book c.width f)
  found-agrees at from bytes None = agrees-refused from bytes 18 0 bytes nowhere

  key-agrees : (t : ℕ) (at : Cursor) (from : ℕ) (bytes : List ℕ) → Agrees from bytes (key_of child c t at bytes) (key_touched marks c t at from)
  unfolding key_of key_by key_touched
  key-agrees t at from bytes =
      agrees-taken c from bytes at _ _ (λ r next.
      agrees_if from bytes (eqb r.kind 4) _ 16 0 bytes _ (λ h. found-agrees next from bytes (field_named c.book t (record_text c.book c.text r))))

  keys_agree : (t k : ℕ) (at : Cursor) (from : ℕ) (bytes : List ℕ) → Agrees from bytes (keys_from child c t k at bytes) (keys_touched marks c t k at from)
  unfolding keys_from keys_touched
  keys_agree t zero at from bytes = agrees-end c from bytes at 5
  keys_agree t (suc k) at from bytes =
      agrees-then from bytes _ _ _ _ (key-agrees t at from bytes) (λ next mid l. keys_agree t k next from mid)

  checked-agrees : (from : ℕ) (bytes : List ℕ) (f : FieldsCheck) (o : Outcome) (t : Touched) → Agrees from bytes o t → Agrees from bytes (checked_write f bytes o) t
  unfolding checked_write check_numbers
  checked-agrees from bytes check.Fine o t a = a
  checked-agrees from bytes (check.NotFound b) o t a = agrees-refused from bytes 7 b bytes t
  checked-agrees from bytes check.TooLong o t a = agrees-refused from bytes 8 0 bytes t

  map-agrees : (t n : ℕ) (at : Cursor) (from : ℕ) (bytes : List ℕ) (s : Shape) → Agrees from bytes (map_by child c t n at bytes s) (keys_touched marks c t n at from)
  unfolding map_by
  map-agrees t n at from bytes shape.Map =
      agrees_if from bytes (eqb (length bytes) (size_of c.book t)) _ 10 0 bytes _ (λ h.
      checked-agrees from bytes (fields_check c.book c.width t) _ _ (keys_agree t n at from bytes))
  map-agrees t n at from bytes shape.Array = agrees-refused from bytes 17 0 bytes _
  map-agrees t n at from bytes shape.Leaf = agrees-refused from bytes 17 0 bytes _

  -- ---- an array

  element_good : (d t e : ℕ) → Good c (element_item c.book d t e) (stride_of c.book d t e)
  unfolding element_item
  element_good d t e = by (is_last c.book d t) refl
    where
      by : (b : Bool) → b ≡ is_last c.book d t → Good c (cond b (whole e) (further (d + 1) t e)) (stride_of c.book d t e)
      by true q = tt
      by false q = fills-further c.book d t e (stride_of c.book d t e) false q refl (record { fills = refl })

  -- the elements from index i of n on, at byte `at` of the array's bytes
  module _ (d t e n stride : ℕ) (q : stride ≡ stride_of c.book d t e) (item : Content ℕ) (good : Good c item stride) where
    elements_agree : (k i at : ℕ) (cur : Cursor) (from place : ℕ) → place ≡ from + at → (bytes : List ℕ) → Along c.book d t e n stride at i (length bytes)
        → Agrees from bytes (elements_write child c item stride n i at k cur bytes) (elements_touched marks c item stride k cur place)
    unfolding elements_write elements_touched
    elements_agree zero i at cur from place p bytes a = agrees_unless from bytes (ltb i n) _ 17 0 bytes _ (agrees-end c from bytes cur 2)
    elements_agree (suc k) i at cur from place p bytes a =
        agrees_if from bytes (ltb i n) _ 17 0 bytes _ (λ h.
        let l = ltb-true i n h in
        let m = along-end c.book d t e n stride at i (length bytes) l a in
        agrees-then from bytes _ _ _ _
        (agrees-placed from at stride bytes m _ _ (rw p (ih item cur (from + at) stride (cut at stride bytes) (sym (length_cut at stride bytes m)) good)))
        (λ next mid s.
        elements_agree k (i + 1) (at + stride) next from (place + stride) (omega (arith, p)) mid
        (rw s (along-again {book = c.book} {d = d} {t = t} {e = e} {n = n} {stride = stride} {from = at} {i = i} l a))))

  dimension_agrees : (d t e : ℕ) (at : Cursor) (from : ℕ) (bytes : List ℕ) → Fills c.book d t e (length bytes)
      → Agrees from bytes (dimension_write child c d t e at bytes) (dimension_touched marks c d t e at from)
  unfolding dimension_write dimension_touched elements_by
  dimension_agrees d t e at from bytes f =
      checked-agrees from bytes (element_check c.book c.width d t e) _ _
      (agrees-taken c from bytes at _ _ (λ r next.
      agrees_if from bytes (eqb r.kind 1) _ 17 0 bytes _ (λ h.
      elements_agree d t e (count_of c.book t d) (stride_of c.book d t e) refl (element_item c.book d t e) (element_good d t e) r.a 0 0 next from from (omega arith) bytes
      (record { step = λ l. refl; upto = start }))))
    where
      start : 0 + (count_of c.book t d - 0) * stride_of c.book d t e ≡ length bytes
      start = let z : count_of c.book t d - 0 ≡ count_of c.book t d = omega arith in rw z (omega (arith, f.fills))

  sized-agrees : (t e : ℕ) (at : Cursor) (from : ℕ) (bytes : List ℕ) (b : Bool) → b ≡ eqb (array_bytes c.book t e) (length bytes)
      → Agrees from bytes (array_write_by child c t at bytes (cond b (entered.Element e) (entered.Stop 10 0))) (dimension_touched marks c 0 t e at from)
  unfolding array_write_by
  sized-agrees t e at from bytes true q = dimension_agrees 0 t e at from bytes (fills_first c.book t e (length bytes) true q refl)
  sized-agrees t e at from bytes false q = agrees-refused from bytes 10 0 bytes _

  element-agrees : (t : ℕ) (at : Cursor) (from : ℕ) (bytes : List ℕ) (r : Resolved)
      → Agrees from bytes (array_write_by child c t at bytes (element_type c.book t (length bytes) r)) (array_touched marks c t at from r)
  unfolding array_write_by element_type array_touched resolved_numbers
  element-agrees t at from bytes (resolved.Base e) = sized-agrees t e at from bytes (eqb (array_bytes c.book t e) (length bytes)) refl
  element-agrees t at from bytes (resolved.NotFound b) = agrees-refused from bytes 7 b bytes nowhere
  element-agrees t at from bytes resolved.TooLong = agrees-refused from bytes 8 0 bytes nowhere

  entered-agrees : (t : ℕ) (at : Cursor) (from : ℕ) (bytes : List ℕ) (b : Bool)
      → Agrees from bytes (array_write_by child c t at bytes (cond b (element_type c.book t (length bytes) (look_up c.book c.width t)) (entered.Stop 10 0)))
      (array_touched marks c t at from (look_up c.book c.width t))
  unfolding array_write_by
  entered-agrees t at from bytes true = element-agrees t at from bytes (look_up c.book c.width t)
  entered-agrees t at from bytes false = agrees-refused from bytes 10 0 bytes _

  array-agrees : (t : ℕ) (at : Cursor) (from : ℕ) (bytes : List ℕ) (s : Shape)
      → Agrees from bytes (array_write_by child c t at bytes (entered_by c.book c.width t (length bytes) s)) (array_touched marks c t at from (look_up c.book c.width t))
  unfolding array_write_by entered_by
  array-agrees t at from bytes shape.Array = entered-agrees t at from bytes (eqb (length bytes) (size_of c.book t))
  array-agrees t at from bytes shape.Map = agrees-refused from bytes 17 0 bytes _
  array-agrees t at from bytes shape.Leaf = agrees-refused from bytes 17 0 bytes _

  -- ---- a value

  value-agrees : (t : ℕ) (at : Cursor) (from size : ℕ) (bytes : List ℕ) → size ≡ length bytes → (r : Record) (next : Cursor)
      → Agrees from bytes (value_by child c t at bytes r next) (value_touched marks c t at from size r next)
  unfolding value_by value_touched array_write entered_at map_write leaf_write
  value-agrees t at from size bytes e r next =
      agrees-cond from bytes (eqb r.kind 1) _ _ _ _ (array-agrees t at from bytes (shape_of (category_of c.book c.width t)))
      (agrees-cond from bytes (eqb r.kind 3) _ _ _ _ (map-agrees t r.a next from bytes (shape_at c.book c.width t))
      (agrees-leaf-end from size bytes next e _ (sized_for bytes c.book c.width t (category_of c.book c.width t) r c.text)))

  item_agrees : Children c (item_write child c) (item_touched marks c)
  unfolding item_write item_touched
  item_agrees (whole t) at from size bytes e g = agrees-taken c from bytes at _ _ (value-agrees t at from size bytes e)
  item_agrees (further d t e') at from size bytes e g = dimension_agrees d t e' at from bytes (rw e at g)

pub walk-agrees : (c : WriteCtx) (left : ℕ) → Children c (write_walk c left) (walk_touched c left)
unfolding write_walk walk_touched
walk-agrees c zero i at from size bytes e g = agrees-refused from bytes 16 0 bytes nowhere
walk-agrees c (suc left) i at from size bytes e g = item_agrees c (write_walk c left) (walk_touched c left) (walk-agrees c left) i at from size bytes e g
