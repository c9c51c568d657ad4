-- Every refusal of a write has one of the numbers that document 01 has for it; so the number 0 says that something was written, whatever the bytes and
-- numbers of a call. Assumes nothing.
use Rattle.std.specs.Prelude.{Option, Some, None}
use mathlib.Core.Path.{◌≡◌, refl, sym}
use mathlib.Core.Bool.{Bool, true, false, cond, ◌&&◌}
use mathlib.Core.List.{List}
use Prim.Native.Nat.{ℕ, zero, suc, ◌+◌}
use native.Mathlib.Omega.{arith}
use lib.ListN.{length, take}
use lib.Dec.{eqb, leb, ltb}
use Rattle.enc_number.specs.Answer.{refusal_of}
use Rattle.type_book.specs.Book.{size_of, count_of, is_type, blocks}
use Rattle.type_category.specs.Category.{category_of}
use Rattle.type_book_check.specs.Check.{book_numbers, check_book, check_root, root_of}
use Rattle.type_book_check.specs.declared.BookCheck.{BookCheck}
use Rattle.type_book_check.specs.declared.BookCheck.TheVariants as checked-book
use Rattle.type_book_check.specs.declared.RootCheck.{RootCheck}
use Rattle.type_book_check.specs.declared.RootCheck.TheVariants.{Root, Refused}
use Rattle.type_book_check.proofs.Roots.{at_each}
use Rattle.resolvers.specs.Resolve.{resolve_alias, look_up, resolved_numbers}
use Rattle.resolvers.specs.declared.Resolved.{Resolved}
use Rattle.resolvers.specs.declared.Resolved.TheVariants as resolved
use Rattle.resolve_field_types.specs.declared.FieldsCheck.{FieldsCheck}
use Rattle.resolve_field_types.specs.declared.FieldsCheck.TheVariants as check
use Rattle.resolve_field_types.specs.declared.FieldAnswer.{FieldAnswer}
use Rattle.resolve_field_types.specs.declared.FieldAnswer.TheVariants as answer
use Rattle.resolve_field_types.specs.Fields.{fields_check, resolve_field, field_numbers, check_numbers}
use Rattle.tape_shape.specs.declared.Shape.{Shape}
use Rattle.tape_shape.specs.declared.Shape.TheVariants as shape
use Rattle.tape_shape.specs.Value.{shape_of}
use Rattle.tape_shape.specs.Array.{stride_of, array_bytes}
use Rattle.ser_named_blocks.specs.Named.{field_named}
use Rattle.tape.specs.Record.{step_at}
use Rattle.tape.specs.Text.{record_text}
use Rattle.tape.specs.declared.record.Record.{Record}
use Rattle.tape.specs.declared.cursor.Cursor.{Cursor}
use Rattle.type_category.specs.declared.type_category.AdsTypeCategory.{AdsTypeCategory}
use Rattle.ser_leaf.specs.Leaf.{Leaf, holds, leaf_for}
use Rattle.ser_leaf.proofs.Tells.{Tells, leaf_for_tells}
use Rattle.ser_leaf.specs.Leaf as leaf
use Rattle.ser.specs.declared.array_writer.Entered.{Entered}
use Rattle.ser.specs.declared.array_writer.Entered.TheVariants as entered
use Rattle.tape_array_elements.specs.Element.{Content, whole, further, shape_at, element_item, element_check}
use Rattle.ser.specs.Write.{WriteCtx, write_ctx, Outcome, went, refused, ◌then_writes◌, ChildWrite, placed, taken_by, taken, end_record_by, leaf_end, leaf_write, checked_write, field_write, found_value, key_by, key_of, keys_from, map_by, map_write, elements_write, elements_by, dimension_write, element_type, entered_by, entered_at, array_write_by, array_write, value_by, item_write, write_walk}
use Rattle.tape_form.specs.Form.{formed}
use Rattle.ser.specs.Call.{type_write, root_write_by, root_write, book_write, write_call, write_answer_of, write_numbers}
use Rattle.ser.specs.declared.WriteAnswer.TheVariants.{NotFound}
use Rattle.ser.specs.declared.WriteAnswer.TheVariants as writing
use Rattle.gateway_write_answers.specs.Answers.{among, refusals, Numbered}

-- ---- a write whose refusal has one of the numbers

abbrev listed : Outcome → Bool
listed (went at bytes) = true
listed (refused n b bytes) = among n refusals

record Fine (o : Outcome) : Type 0 where
  is : listed o ≡ true

fine-went : (at : Cursor) (bytes : List ℕ) → Fine (went at bytes)
fine-went at bytes = record { is = refl }

fine-refused : (n b : ℕ) (bytes : List ℕ) → among n refusals ≡ true → Fine (refused n b bytes)
fine-refused n b bytes h = record { is = h }

fine-then : (o : Outcome) (f : Cursor → List ℕ → Outcome) → Fine o → ((at : Cursor) (bytes : List ℕ) → Fine (f at bytes)) → Fine (o then_writes f)
unfolding ◌then_writes◌
fine-then (went at bytes) f p q = q at bytes
fine-then (refused n b bytes) f p q = fine-refused n b bytes p.is

fine-placed : (from size : ℕ) (bytes : List ℕ) (o : Outcome) → Fine o → Fine (placed from size bytes o)
unfolding placed
fine-placed from size bytes (went at part) p = fine-went _ _
fine-placed from size bytes (refused n b part) p = fine-refused n b _ p.is

fine-cond : (b : Bool) (o u : Outcome) → Fine o → Fine u → Fine (cond b o u)
fine-cond true o u p q = p
fine-cond false o u p q = q

is_1 : among 1 refusals ≡ true
unfolding among
is_1 = refl

is_2 : among 2 refusals ≡ true
unfolding among
is_2 = refl

is_3 : among 3 refusals ≡ true
unfolding among
is_3 = refl

is_4 : among 4 refusals ≡ true
unfolding among
is_4 = refl

is_5 : among 5 refusals ≡ true
unfolding among
is_5 = refl

is_7 : among 7 refusals ≡ true
unfolding among
is_7 = refl

is_8 : among 8 refusals ≡ true
unfolding among
is_8 = refl

is_10 : among 10 refusals ≡ true
unfolding among
is_10 = refl

is_13 : among 13 refusals ≡ true
unfolding among
is_13 = refl

is_16 : among 16 refusals ≡ true
unfolding among
is_16 = refl

is_17 : among 17 refusals ≡ true
unfolding among
is_17 = refl

is_18 : among 18 refusals ≡ true
unfolding among
is_18 = refl

is_19 : among 19 refusals ≡ true
unfolding among
is_19 = refl

-- ---- records

fine-by : (bytes : List ℕ) (f : Record → Cursor → Outcome) (s : Option (Record × Cursor)) → ((r : Record) (next : Cursor) → Fine (f r next)) → Fine (taken_by bytes f s)
unfolding taken_by
fine-by bytes f (Some (r, next)) h = h r next
fine-by bytes f None h = fine-refused 16 0 bytes is_16

fine-taken : (tape : List ℕ) (at : Cursor) (bytes : List ℕ) (f : Record → Cursor → Outcome) → ((r : Record) (next : Cursor) → Fine (f r next))
    → Fine (taken tape at bytes f)
unfolding taken
fine-taken tape at bytes f h = fine-by bytes f (step_at tape at.at) h

fine_end : (tape : List ℕ) (at : Cursor) (kind : ℕ) (bytes : List ℕ) → Fine (taken tape at bytes (end_record_by kind bytes))
unfolding end_record_by
fine_end tape at kind bytes =
    fine-taken tape at bytes _ (λ r next. fine-cond (eqb r.kind kind) _ _ (fine-went next bytes) (fine-refused 16 0 bytes is_16))

-- ---- a leaf

abbrev Mild : Leaf → Type 0
Mild l = Tells (λ (n : ℕ). among n refusals ≡ true) l

mild_leaf : (book : List ℕ) (width t : ℕ) (old : List ℕ) (k : AdsTypeCategory) (r : Record) (text : List ℕ) → Mild (leaf_for book width t k r text old)
mild_leaf book width t old k r text =
    leaf_for_tells (λ (n : ℕ). among n refusals ≡ true) is_10 is_13 is_17 is_18 is_19 book width t old k r text (λ n6 n7 n8 n9 n10 n11 n12 n13. is_16)

mild_fine : (next : Cursor) (bytes : List ℕ) (l : Leaf) → Mild l → Fine (leaf_end next bytes l)
unfolding leaf_end
mild_fine next bytes (holds new) p = fine-went next new
mild_fine next bytes (leaf.refused n) p = fine-refused n 0 bytes (p.each n refl)

-- ---- the walk

checked-fine : (f : FieldsCheck) (bytes : List ℕ) (o : Outcome) → Fine o → Fine (checked_write f bytes o)
unfolding checked_write check_numbers
checked-fine check.Fine bytes o p = p
checked-fine (check.NotFound b) bytes o p = fine-refused 7 b bytes is_7
checked-fine check.TooLong bytes o p = fine-refused 8 0 bytes is_8

module _ (book : List ℕ) (width : ℕ) (tape text : List ℕ) where
  abbrev c : WriteCtx
  c = write_ctx book width tape text

  -- ---- with what is written at one level less

  module _ (child : ChildWrite) (ih : (i : Content ℕ) (at : Cursor) (bytes : List ℕ) → Fine (child i at bytes)) where
    field-fine : (at : Cursor) (bytes : List ℕ) (f : FieldAnswer) → Fine (field_write child at bytes f)
    unfolding field_write field_numbers
    field-fine at bytes (answer.Field f) =
        fine-cond (leb (f.offset + f.size) (length bytes)) _ _ (fine-placed _ _ bytes _ (ih (whole f.resolved) at _)) (fine-refused 10 0 bytes is_10)
    field-fine at bytes (answer.NotFound b) = fine-refused 7 b bytes is_7
    field-fine at bytes answer.TooLong = fine-refused 8 0 bytes is_8

    found-fine : (at : Cursor) (bytes : List ℕ) (f : Option ℕ) → Fine (found_value child c at bytes f)
    unfolding found_value
    found-fine at bytes (Some f) = field-fine at bytes (resolve_field book width f)
    found-fine at bytes None = fine-refused 18 0 bytes is_18

    key-fine : (t : ℕ) (at : Cursor) (bytes : List ℕ) → Fine (key_of child c t at bytes)
    unfolding key_of key_by
    key-fine t at bytes =
        fine-taken tape at bytes _ (λ r next.
        fine-cond (eqb r.kind 4) _ _ (found-fine next bytes (field_named book t (record_text book text r))) (fine-refused 16 0 bytes is_16))

    keys-fine : (t k : ℕ) (at : Cursor) (bytes : List ℕ) → Fine (keys_from child c t k at bytes)
    unfolding keys_from
    keys-fine t zero at bytes = fine_end tape at 5 bytes
    keys-fine t (suc k) at bytes = fine-then _ _ (key-fine t at bytes) (keys-fine t k)

    map-by : (t n : ℕ) (at : Cursor) (bytes : List ℕ) (s : Shape) → Fine (map_by child c t n at bytes s)
    unfolding map_by
    map-by t n at bytes shape.Map =
        fine-cond (eqb (length bytes) (size_of book t)) _ _ (checked-fine (fields_check book width t) bytes _ (keys-fine t n at bytes)) (fine-refused 10 0 bytes is_10)
    map-by t n at bytes shape.Array = fine-refused 17 0 bytes is_17
    map-by t n at bytes shape.Leaf = fine-refused 17 0 bytes is_17

    map-fine : (t n : ℕ) (at : Cursor) (bytes : List ℕ) → Fine (map_write child c t n at bytes)
    unfolding map_write
    map-fine t n at bytes = map-by t n at bytes (shape_at c.book c.width t)

    elements-from : (i : Content ℕ) (stride n x from k : ℕ) (at : Cursor) (bytes : List ℕ) → Fine (elements_write child c i stride n x from k at bytes)
    unfolding elements_write
    elements-from i stride n x from zero at bytes = fine-cond (ltb x n) _ _ (fine-refused 17 0 bytes is_17) (fine_end tape at 2 bytes)
    elements-from i stride n x from (suc k) at bytes =
        fine-cond (ltb x n) _ _
        (fine-then _ _ (fine-placed from stride bytes _ (ih i at _)) (elements-from i stride n (x + 1) (from + stride) k))
        (fine-refused 17 0 bytes is_17)

    dimension_fine : (d t e : ℕ) (at : Cursor) (bytes : List ℕ) → Fine (dimension_write child c d t e at bytes)
    unfolding dimension_write elements_by
    dimension_fine d t e at bytes =
        checked-fine (element_check book width d t e) bytes _
        (fine-taken tape at bytes _ (λ r next.
        fine-cond (eqb r.kind 1) _ _
        (elements-from (element_item c.book d t e) (stride_of book d t e) (count_of book t d) 0 0 r.a next bytes)
        (fine-refused 17 0 bytes is_17)))

    -- what an array comes to before its first dimension
    entered-cond : (t : ℕ) (at : Cursor) (bytes : List ℕ) (b : Bool) (x : Entered) → Fine (array_write_by child c t at bytes x)
        → Fine (array_write_by child c t at bytes (cond b x (entered.Stop 10 0)))
    unfolding array_write_by
    entered-cond t at bytes true x p = p
    entered-cond t at bytes false x p = fine-refused 10 0 bytes is_10

    element-fine : (t : ℕ) (at : Cursor) (bytes : List ℕ) (r : Resolved) → Fine (array_write_by child c t at bytes (element_type book t (length bytes) r))
    unfolding element_type array_write_by resolved_numbers
    element-fine t at bytes (resolved.Base e) = entered-cond t at bytes (eqb (array_bytes book t e) (length bytes)) _ (dimension_fine 0 t e at bytes)
    element-fine t at bytes (resolved.NotFound b) = fine-refused 7 b bytes is_7
    element-fine t at bytes resolved.TooLong = fine-refused 8 0 bytes is_8

    array-by : (t : ℕ) (at : Cursor) (bytes : List ℕ) (s : Shape) → Fine (array_write_by child c t at bytes (entered_by book width t (length bytes) s))
    unfolding entered_by array_write_by
    array-by t at bytes shape.Array = entered-cond t at bytes (eqb (length bytes) (size_of book t)) _ (element-fine t at bytes (look_up book width t))
    array-by t at bytes shape.Map = fine-refused 17 0 bytes is_17
    array-by t at bytes shape.Leaf = fine-refused 17 0 bytes is_17

    array-fine : (t : ℕ) (at : Cursor) (bytes : List ℕ) → Fine (array_write child c t at bytes)
    unfolding array_write entered_at
    array-fine t at bytes = array-by t at bytes (shape_of (category_of book width t))

    leaf-fine : (t : ℕ) (r : Record) (next : Cursor) (bytes : List ℕ) → Fine (leaf_write book width text t r next bytes)
    unfolding leaf_write
    leaf-fine t r next bytes = mild_fine next bytes _ (mild_leaf book width t bytes (category_of book width t) r text)

    item_fine : (i : Content ℕ) (at : Cursor) (bytes : List ℕ) → Fine (item_write child c i at bytes)
    unfolding item_write value_by
    item_fine (whole t) at bytes =
        fine-taken tape at bytes _ (λ r next.
        fine-cond (eqb r.kind 1) _ _ (array-fine t at bytes)
        (fine-cond (eqb r.kind 3) _ _ (map-fine t r.a next bytes) (leaf-fine t r next bytes)))
    item_fine (further d t e) at bytes = dimension_fine d t e at bytes

  walk_fine : (left : ℕ) (i : Content ℕ) (at : Cursor) (bytes : List ℕ) → Fine (write_walk c left i at bytes)
  unfolding write_walk
  walk_fine zero i at bytes = fine-refused 16 0 bytes is_16
  walk_fine (suc left) i at bytes = item_fine (write_walk c left) (walk_fine left) i at bytes

  root_by_lem : (image : List ℕ) (r : Resolved) → Fine (root_write_by c image r)
  unfolding root_write_by type_write resolved_numbers
  root_by_lem image (resolved.Base t) = walk_fine 64 (whole t) (record { at = 0 }) image
  root_by_lem image (resolved.NotFound b) = fine-refused 7 b image is_7
  root_by_lem image resolved.TooLong = fine-refused 8 0 image is_8

  book-fine : (n room : ℕ) (image : List ℕ) → Fine (book_write c n room image)
  unfolding book_write root_write
  book-fine n room image =
      fine-cond (eqb room (length image)) _ _
      (fine-cond (formed book tape text) _ _ (root_by_lem image (resolve_alias book width n)) (fine-refused 16 0 image is_16))
      (fine-refused 10 0 image is_10)

-- ---- a call

-- a root is not refused, or by a number of the table
abbrev root_told : RootCheck → Bool
root_told (Root n) = true
root_told (Refused n) = among n refusals

root_told_lem : (b : Bool) (n : ℕ) → root_told (cond b (Root n) (Refused 5)) ≡ true
root_told_lem true n = refl
root_told_lem false n = is_5

check-told : (k : BookCheck) (b : Bool) (n : ℕ)
    → root_told (cond (eqb (refusal_of (book_numbers k)) 0) (cond b (Root n) (Refused 5)) (Refused (refusal_of (book_numbers k)))) ≡ true
unfolding book_numbers
check-told checked-book.Valid b n = root_told_lem b n
check-told checked-book.Size b n = is_1
check-told checked-book.Sum b n = is_2
check-told checked-book.Form b n = is_3
check-told checked-book.Doubled b n = is_4

call_told : (buffer : List ℕ) (len n : ℕ) → root_told (check_root buffer len n) ≡ true
unfolding check_root root_of
call_told buffer len n = check-told (check_book buffer len) (ltb n (blocks (take len buffer)) && is_type (take len buffer) n) n

call_fine : (buffer : List ℕ) (len width n : ℕ) (image : List ℕ) (room : ℕ) (tape text : List ℕ) → Fine (write_call buffer len width n image room tape text)
unfolding write_call
call_fine buffer len width n image room tape text =
    at_each Fine _ _ (check_root buffer len n)
    (λ k e. fine-refused k 0 image (rw e at (call_told buffer len n)))
    (λ t e. book-fine (take len buffer) width tape text t room image)

-- ---- its number

false-true : {X : Type 0} → false ≡ true → X
false-true e = absurd (let z : ◌≡◌ {A = ℕ} 0 1 = cc in omega arith)

none : among 0 refusals ≡ true → ⊥
unfolding among
none e = false-true e

refused-told : (n b : ℕ) (c : Bool) → among n refusals ≡ true → among (refusal_of (write_numbers (cond c (NotFound b) (writing.Refused n)))) refusals ≡ true
unfolding write_numbers
refused-told n b true h = is_7
refused-told n b false h = h

numbered : (o : Outcome) → Fine o → Numbered o
unfolding write_numbers
numbered (went at bytes) p = record { nought = λ e. refl; told = λ e. false-true (sym e) }
numbered (refused n b bytes) p =
    let t : among (refusal_of (write_numbers (write_answer_of (refused n b bytes)))) refusals ≡ true = refused-told n b (eqb n 7) p.is in
    record { nought = λ e. absurd (none (rw e at t)); told = λ e. t }

-- of any call
pub call_numbered : (buffer : List ℕ) (len width n : ℕ) (image : List ℕ) (room : ℕ) (tape text : List ℕ)
    → Numbered (write_call buffer len width n image room tape text)
call_numbered buffer len width n image room tape text = numbered _ (call_fine buffer len width n image room tape text)

-- of a call on a checked book
pub book-numbered : (book : List ℕ) (width : ℕ) (tape text : List ℕ) (n room : ℕ) (image : List ℕ)
    → Numbered (book_write (write_ctx book width tape text) n room image)
book-numbered book width tape text n room image = numbered _ (book-fine book width tape text n room image)
