-- A write of what was read of some bytes, over these bytes, gives them back, step by step along both walks. Assumes nothing.
use Rattle.std.specs.Prelude.{Option, Some, None}
use mathlib.Core.Path.{◌≡◌, refl, sym, ap, ◌∙◌}
use mathlib.Core.Bool.{Bool, true, false, cond}
use mathlib.Core.List.{List, [], ◌∷◌, ◌++◌, append_assoc, append-nil}
use Prim.Native.Nat.{ℕ, zero, suc, ◌+◌, ◌*◌, ◌-◌, ◌^◌, ◌≤◌, ◌<◌}
use native.Mathlib.Omega.{arith}
use borrow.Author.Tests.{eqb-true, eq-eqb, ne_eqb, le-leb, lt-ltb, le-ltb}
use lib.ListN.{length, take, drop, length-append, length-drop, take-append-drop}
use lib.Seq.{drop-drop, drop-append_seam}
use lib.Dec.{leb, eqb}
use Rattle.enc_number.specs.Le.{Bytes}
use Rattle.enc_number.proofs.ByteOrder.{bytes_drop}
use Rattle.type_book.specs.Book.{blocks, kind_of, is_type, size_of, fields_of, count_of, name_of, type_name_of}
use Rattle.type_provider.specs.Find.{find}
use Rattle.type_category.specs.Category.{category_of}
use Rattle.type_book_check.specs.Check.{ValidBook}
use Rattle.type_book_check.proofs.Valid.{valid-size, valid-below, valid-type}
use Rattle.resolvers.specs.Resolve.{resolve_alias, chain_onward, look_up, resolved_numbers}
use Rattle.resolvers.specs.declared.Resolved.{Resolved}
use Rattle.resolvers.specs.declared.Resolved.TheVariants as resolved
use Rattle.resolvers.proofs.Chains.{found_type, look-typed}
use Rattle.resolve_field_types.specs.Fields.{resolve_field, fields_check, check_numbers, field_numbers}
use Rattle.resolve_field_types.specs.declared.FieldAnswer.{FieldAnswer}
use Rattle.resolve_field_types.specs.declared.FieldAnswer.TheVariants as answer
use Rattle.resolve_field_types.specs.declared.FieldsCheck.{FieldsCheck}
use Rattle.resolve_field_types.specs.declared.FieldsCheck.TheVariants as check
use Rattle.tape_shape.specs.declared.Shape.{Shape}
use Rattle.tape_shape.specs.declared.Shape.TheVariants as shape
use Rattle.tape_shape.specs.Value.{shape_of}
use Rattle.tape_shape.specs.Array.{stride_of, is_last, array_bytes}
use Rattle.ser_named_blocks.specs.Named.{field_named}
use Rattle.tape.specs.declared.record.Record.{Record}
use Rattle.tape.specs.declared.cursor.Cursor.{Cursor}
use Rattle.tape.specs.Record.{record_bytes, step_at, Held}
use Rattle.tape.specs.Text.{name_in, record_text}
use Rattle.tape.proofs.Records.{record-back, length-record}
use Rattle.de_leaves.specs.Leaf.{leaf_at}
use Rattle.de_output.specs.Trace.{TapeEvent, rec, Trace, done, stop, text_bytes, tape_bytes, one, refuse}
use Rattle.de_output.proofs.Runs.{tape-then}
use Rattle.tape_array_elements.specs.Element.{Content, whole, further, cut, shape_at, element_item, element_check}
use Rattle.de_leaf_output.specs.declared.Typed.{Typed}
use Rattle.de.specs.Walk as de
use Rattle.ser_leaf.specs.Leaf.{leaf_for}
use Rattle.ser.specs.Write as ser
use Rattle.ser.specs.Write.{Outcome, went}
use Rattle.ser_laws.specs.Trip as trip
use Rattle.ser_laws.proofs.Plain.{different}
use Rattle.std.proofs.lemmas.Bool.{and_parts}
use Rattle.ser_laws.proofs.ReadTree.{Emits, emits-refused, emits_then, emits-after, GoodType, TypedField, field-typed, bytes_take, u32-small}
use Rattle.ser_laws.proofs.TripLeaf.{LeafBack, leaf-back, rec_of, held_of}

-- ---- the bytes of a part, put back

put_back : (from size : ℕ) (bytes : List ℕ) → ser.put_in from size bytes (cut from size bytes) ≡ bytes
put_back from size bytes = ap (λ (x : List ℕ). take from bytes ++ x) (take-append-drop size (drop from bytes)) ∙ take-append-drop from bytes

-- the same item for the writer and for what is kept, which know of a type its resolved block alone
abbrev pub plain_item : Content Typed → Content ℕ
plain_item (whole x) = whole x.resolved
plain_item (further d t e) = further d t e.resolved

abbrev pub place : ℕ → Cursor
place n = record { at = n }

module _ (book buffer tape : List ℕ) where
  -- ---- what is read from the tape

  step_is : (at : ℕ) (r : Record) (rest : List ℕ) → Held r → drop at tape ≡ record_bytes r ++ rest → step_at tape at ≡ Some (r, place (at + 24))
  unfolding step_at
  step_is at r rest g h =
      let n : length tape - at ≡ 24 + length rest = sym (length-drop at tape) ∙ ap length h ∙ length-append (record_bytes r) rest ∙ rw (length-record r) in
      let l : at + 24 ≤ length tape = omega arith in
      rw (le-leb (at + 24) (length tape) l, h, record-back r rest g)

  after-part : (at : ℕ) (xs ys : List ℕ) → drop at tape ≡ xs ++ ys → drop (at + length xs) tape ≡ ys
  after-part at xs ys h = sym (drop-drop (length xs) at tape) ∙ ap (drop (length xs)) h ∙ drop-append_seam xs ys

  -- where the records of some events stand, a write over some bytes takes them all and leaves the bytes as they are
  pub record Back (o : Cursor → List ℕ → Outcome) (mem : List ℕ) (from : ℕ) (es : List TapeEvent) : Type 0 where
    pub back : (at : ℕ) (rest : List ℕ) → drop at tape ≡ tape_bytes from es ++ rest → o (place at) mem ≡ went (place (at + length (tape_bytes from es))) mem

  back-then : (o p : Cursor → List ℕ → Outcome) (mem : List ℕ) (from : ℕ) (es fs : List TapeEvent) → Back o mem from es → Back p mem (from + length (text_bytes es)) fs
      → Back (λ at bytes. ser.◌then_writes◌ (o at bytes) p) mem from (es ++ fs)
  unfolding ser.◌then_writes◌
  back-then o p mem from es fs a b =
      let xs : List ℕ = tape_bytes from es in
      let ys : List ℕ = tape_bytes (from + length (text_bytes es)) fs in
      record {
        back = λ at rest h.
            let q : drop at tape ≡ xs ++ (ys ++ rest) = h ∙ ap (λ (x : List ℕ). x ++ rest) (tape-then from es fs) ∙ append_assoc xs ys rest in
            let l : at + length xs + length ys ≡ at + length (tape_bytes from (es ++ fs)) =
            let z = length-append xs ys in let y = ap length (tape-then from es fs) in omega (arith, z, y) in
            rw (a.back at (ys ++ rest) q) (b.back (at + length xs) rest (after-part at xs (ys ++ rest) q) ∙ ap (λ (n : ℕ). went (place n) mem) l);
      }

  -- a record before
  back-record : (r : Record) → Held r → (o p : Cursor → List ℕ → Outcome) (mem : List ℕ) → ((at : ℕ) → step_at tape at ≡ Some (r, place (at + 24)) → o (place at) mem ≡ p (place (at + 24)) mem)
      → (from : ℕ) (es fs : List TapeEvent) → tape_bytes from es ≡ record_bytes r ++ tape_bytes from fs → Back p mem from fs → Back o mem from es
  back-record r g o p mem f from es fs e b =
      record {
        back = λ at rest h.
            let q : drop at tape ≡ record_bytes r ++ (tape_bytes from fs ++ rest) = h ∙ ap (λ (x : List ℕ). x ++ rest) e ∙ append_assoc (record_bytes r) (tape_bytes from fs) rest in
            let n = length-record r in
            let z : drop (at + 24) tape ≡ tape_bytes from fs ++ rest = rw n at (after-part at (record_bytes r) (tape_bytes from fs ++ rest) q) in
            let l : at + 24 + length (tape_bytes from fs) ≡ at + length (tape_bytes from es) =
            let y = length-append (record_bytes r) (tape_bytes from fs) in let x = ap length e in omega (arith, n, y, x) in
            f at (step_is at r (tape_bytes from fs ++ rest) g q) ∙ b.back (at + 24) rest z ∙ ap (λ (m : ℕ). went (place m) mem) l;
      }

  -- the last record
  back_last : (r : Record) → Held r → (o : Cursor → List ℕ → Outcome) (mem : List ℕ) → ((at : ℕ) → step_at tape at ≡ Some (r, place (at + 24)) → o (place at) mem ≡ went (place (at + 24)) mem)
      → (from : ℕ) (es : List TapeEvent) → tape_bytes from es ≡ record_bytes r → Back o mem from es
  back_last r g o mem f from es e =
      record {
        back = λ at rest h.
            let n : length (tape_bytes from es) ≡ 24 = ap length e ∙ length-record r in
            f at (step_is at r rest g (h ∙ ap (λ (x : List ℕ). x ++ rest) e)) ∙ ap (λ (m : ℕ). went (place (at + m)) mem) (sym n);
      }

  back_as : (o p : Cursor → List ℕ → Outcome) (mem : List ℕ) → ((at : Cursor) → o at mem ≡ p at mem) → (from : ℕ) (es : List TapeEvent) → Back p mem from es → Back o mem from es
  back_as o p mem f from es b = record { back = λ at rest h. f (place at) ∙ b.back at rest h }

  back-placed : (o : Cursor → List ℕ → Outcome) (a size : ℕ) (mem : List ℕ) (from : ℕ) (es : List TapeEvent) → Back o (cut a size mem) from es
      → Back (λ at bytes. ser.placed a size bytes (o at (cut a size bytes))) mem from es
  unfolding ser.placed
  back-placed o a size mem from es b =
      record { back = λ at rest h. rw (b.back at rest h) (ap (went (place (at + length (tape_bytes from es)))) (put_back a size mem)) }

  -- ---- traces

  emits-map : (P Q : ℕ → List TapeEvent → Type 0) (t : Trace) → ((from : ℕ) (es : List TapeEvent) → P from es → Q from es) → Emits book buffer P t → Emits book buffer Q t
  emits-map P Q (done es) f p = record { emits = λ from s. f from es (p.emits from s) }
  emits-map P Q (stop es n b) f p = record { emits = tt }

  emits_where : (P : ℕ → List TapeEvent → Type 0) (x : Bool) (t : Trace) (n b : ℕ) → (x ≡ true → Emits book buffer P t) → Emits book buffer P (cond x t (refuse n b))
  emits_where P true t n b p = p refl
  emits_where P false t n b p = emits-refused book buffer P n b

  emits-fine : (P : ℕ → List TapeEvent → Type 0) (f : FieldsCheck) (t : Trace) → (f ≡ check.Fine → Emits book buffer P t) → Emits book buffer P (de.checked f t)
  unfolding de.checked check_numbers
  emits-fine P check.Fine t p = p refl
  emits-fine P (check.NotFound b) t p = emits-refused book buffer P 7 b
  emits-fine P check.TooLong t p = emits-refused book buffer P 8 0

  -- the end record of a kind
  end_back : (k : ℕ) → k < 256 → (mem : List ℕ) → Emits book buffer (Back (λ at bytes. ser.taken tape at bytes (ser.end_record_by k bytes)) mem) (one (rec (rec_of 0 k 0 0 0)))
  unfolding tape_bytes ser.taken ser.taken_by ser.end_record_by
  end_back k l mem =
      record {
        emits = λ from s.
            back_last (rec_of 0 k 0 0 0) (held_of 0 k 0 0 0 (omega arith) l (omega arith) (omega arith) (omega arith)) _ mem (λ at e. rw (e, eq-eqb k k refl)) from (rec (rec_of 0 k 0 0 0) ∷ [])
            (append-nil (record_bytes (rec_of 0 k 0 0 0)));
      }

  -- ---- the walks

  module _ (small : length buffer < 2 ^ 64) (valid : ValidBook book) (plain : Bytes book) (width : ℕ) where
    abbrev rc : de.Ctx
    rc = de.ctx book width

    abbrev sc : ser.WriteCtx
    sc = ser.write_ctx book width tape buffer

    few : blocks book ≤ 65536
    few = (valid-size book valid).few

    -- a value's type, and an array with its element's type, are type blocks, as they are named too
    abbrev Good : Content Typed → Type 0
    Good (whole x) = GoodType book x
    Good (further d t e) = GoodType book e × (is_type book t ≡ true)

    -- the number of a type block fits four bytes
    below : (n : ℕ) → is_type book n ≡ true → n < 2 ^ 32
    below n y = omega (arith, valid-below book valid n 0 (eqb-true (kind_of book n) 1 y), few)

    abbrev Children : de.Child → ser.ChildWrite → trip.ChildTrip → Type 0
    Children child write kept =
        (i : Content Typed) (mem : List ℕ) → Good i → Bytes mem → kept (plain_item i) mem ≡ true → Emits book buffer (Back (write (plain_item i)) mem) (child i mem)

    module _ (child : de.Child) (write : ser.ChildWrite) (kept : trip.ChildTrip) (ih : Children child write kept) where
      -- ---- a map

      field_back : (mem : List ℕ) → Bytes mem → (a : FieldAnswer) → TypedField book a → trip.field_kept kept mem a ≡ true
          → Emits book buffer (Back (λ at bytes. ser.field_write write at bytes a) mem) (de.field_value child rc mem a)
      unfolding de.field_value ser.field_write trip.field_kept field_numbers
      field_back mem b (answer.Field f) y h =
          emits_where _ (leb (f.offset + f.size) (length mem)) _ 10 0 (λ q.
          emits-map (Back (write (whole f.resolved)) (cut f.offset f.size mem)) _ _
          (λ from es x. back_as _ _ mem (λ at. rw q) from es (back-placed _ f.offset f.size mem from es x))
          (ih (whole (de.typed_of rc f.named f.resolved)) _ (record { resolved = y.typed.0; named = y.typed.1 }) (bytes_take f.size (drop f.offset mem) (bytes_drop f.offset mem b)) h))
      field_back mem b (answer.NotFound n) y h = emits-refused book buffer _ 7 n
      field_back mem b answer.TooLong y h = emits-refused book buffer _ 8 0

      finds-is : (f : ℕ) (x : Option ℕ) → trip.finds f x ≡ true → x ≡ Some f
      unfolding trip.finds
      finds-is f (Some m) h = ap Some (eqb-true m f h)
      finds-is f None h = different cc

      key-name : (f : ℕ) → f < blocks book → record_text book buffer (rec_of 0 4 0 f 0) ≡ name_of book f
      unfolding record_text name_in
      key-name f l = rw (lt-ltb f 65536 (omega (arith, l, few)))

      member_back : (t : ℕ) (mem : List ℕ) → Bytes mem → (f : ℕ) → f < blocks book → trip.finds f (field_named book t (name_of book f)) ≡ true
          → trip.field_kept kept mem (resolve_field book width f) ≡ true → Emits book buffer (Back (ser.key_of write sc t) mem) (de.member_of child rc mem f)
      unfolding de.member_of ser.key_of ser.key_by ser.taken ser.taken_by ser.found_value tape_bytes
      member_back t mem b f l h v =
          emits-after book buffer (Back (λ at bytes. ser.field_write write at bytes (resolve_field book width f)) mem) _ (rec_of 0 4 0 f 0) _
          (field_back mem b (resolve_field book width f) (field-typed book width f) v)
          (λ from fs x.
          back-record (rec_of 0 4 0 f 0) (held_of 0 4 0 f 0 (omega arith) (omega arith) (omega arith) (omega (arith, l, few)) (omega arith)) _ _ mem
          (λ at e. rw (e, key-name f l, finds-is f _ h)) from (rec (rec_of 0 4 0 f 0) ∷ fs) fs refl x)

      members-back : (t : ℕ) (mem : List ℕ) → Bytes mem → (f k : ℕ) → ((j : ℕ) → j < k → f + j < blocks book) → trip.fields_kept kept rc t mem f k ≡ true
          → Emits book buffer (Back (ser.keys_from write sc t k) mem) (de.members_from child rc mem f k)
      unfolding de.members_from ser.keys_from trip.fields_kept
      members-back t mem b f zero l h = end_back 5 (omega arith) mem
      members-back t mem b f (suc k) l h =
          let first : Bool = trip.finds f (field_named book t (name_of book f)) in
          let rest : Bool = trip.field_kept kept mem (resolve_field book width f) in
          let g = (and_parts first _ h).1 in
          let z : f + 0 ≡ f = omega arith in
          emits_then book buffer (Back (ser.key_of write sc t) mem) (Back (ser.keys_from write sc t k) mem) _ _ _
          (member_back t mem b f (rw z at (l 0 (omega arith))) (and_parts first _ h).0 (and_parts rest _ g).0)
          (members-back t mem b (f + 1) k (λ j m. let e : f + suc j ≡ f + 1 + j = omega arith in rw e at (l (suc j) (omega arith))) (and_parts rest _ g).1)
          (λ from es fs x y. back-then (ser.key_of write sc t) (ser.keys_from write sc t k) mem from es fs x y)

      map_back : (x : Typed) → GoodType book x → shape_of (category_of book width x.resolved) ≡ shape.Map → (mem : List ℕ) → Bytes mem
          → trip.fields_kept kept rc x.resolved mem (x.resolved + 1) (fields_of book x.resolved) ≡ true
          → Emits book buffer (Back (ser.item_write write sc (whole x.resolved)) mem) (de.map_of child rc x mem)
      unfolding de.map_of de.members_of ser.item_write ser.taken ser.taken_by ser.value_by ser.map_write ser.map_by shape_at ser.checked_write tape_bytes
      map_back x y s mem b h =
          let t : ℕ = x.resolved in
          let d = valid-type book valid t y.resolved in
          let small_count : fields_of book t < 2 ^ 32 = u32-small book plain t 12 in
          emits_where _ (eqb (length mem) (size_of book t)) _ 10 0 (λ q.
          emits-fine _ (fields_check book width t) _ (λ c.
          emits-after book buffer (Back (ser.keys_from write sc t (fields_of book t)) mem) _ (rec_of x.named 3 0 (fields_of book t) 0) _
          (members-back t mem b (t + 1) (fields_of book t) (λ j l. valid-below book valid (t + 1 + j) 1 (d.fields j l).kind) h)
          (λ from fs z.
          back-record (rec_of x.named 3 0 (fields_of book t) 0) (held_of x.named 3 0 (fields_of book t) 0 (below x.named y.named) (omega arith) (omega arith) (omega arith) (omega arith)) _ _ mem
          (λ at e. rw (e, s, q, c)) from (rec (rec_of x.named 3 0 (fields_of book t) 0) ∷ fs) fs refl z)))

      -- ---- an array

      elements-back : (i : Content Typed) → Good i → (stride n : ℕ) (mem : List ℕ) → Bytes mem → (index at k : ℕ) → index + k ≡ n → trip.elements_kept kept (plain_item i) stride mem at k ≡ true
          → Emits book buffer (Back (ser.elements_write write sc (plain_item i) stride n index at k) mem) (de.elements_from child i stride mem at k)
      unfolding de.elements_from ser.elements_write trip.elements_kept
      elements-back i g stride n mem b index at zero e h =
          emits-map (Back (λ cur bytes. ser.taken tape cur bytes (ser.end_record_by 2 bytes)) mem) _ _
          (λ from es x. back_as _ _ mem (λ cur. rw (le-ltb index n (omega (arith, e)))) from es x) (end_back 2 (omega arith) mem)
      elements-back i g stride n mem b index at (suc k) e h =
          let first : Bool = kept (plain_item i) (cut at stride mem) in
          emits_then book buffer (Back (λ cur bytes. ser.placed at stride bytes (write (plain_item i) cur (cut at stride bytes))) mem)
          (Back (ser.elements_write write sc (plain_item i) stride n (index + 1) (at + stride) k) mem) _ _ _
          (emits-map (Back (write (plain_item i)) (cut at stride mem)) _ _ (λ from es x. back-placed (write (plain_item i)) at stride mem from es x)
          (ih i _ g (bytes_take stride (drop at mem) (bytes_drop at mem b)) (and_parts first _ h).0))
          (elements-back i g stride n mem b (index + 1) (at + stride) k (omega (arith, e)) (and_parts first _ h).1)
          (λ from es fs x y. back_as _ _ mem (λ cur. rw (lt-ltb index n (omega (arith, e)))) from (es ++ fs) (back-then _ _ mem from es fs x y))

      element_good : (d t : ℕ) (e : Typed) → GoodType book e → is_type book t ≡ true → Good (element_item book d t e)
      unfolding element_item
      element_good d t e y z = by (is_last book d t)
        where
          by : (x : Bool) → Good (cond x (whole e) (further (d + 1) t e))
          by true = y
          by false = (y, z)

      same_item : (d t : ℕ) (e : Typed) → plain_item (element_item book d t e) ≡ element_item book d t e.resolved
      unfolding element_item
      same_item d t e = by (is_last book d t)
        where
          by : (x : Bool) → plain_item (cond x (whole e) (further (d + 1) t e)) ≡ cond x (whole e.resolved) (further (d + 1) t e.resolved)
          by true = refl
          by false = refl

      -- a dimension, for what is the same as its walk where there is an array's record
      dimension_back : (m d t : ℕ) (e : Typed) → is_type book m ≡ true → GoodType book e → is_type book t ≡ true → (mem : List ℕ) → Bytes mem → trip.dimension_kept kept rc d t e.resolved mem ≡ true → (o : Cursor → List ℕ → Outcome)
          → ((at : ℕ) → step_at tape at ≡ Some (rec_of m 1 0 (count_of book t d) 0, place (at + 24)) → o (place at) mem ≡ ser.dimension_write write sc d t e.resolved (place at) mem)
          → Emits book buffer (Back o mem) (de.dimension_of child rc m d t e mem)
      unfolding de.dimension_of de.elements_of ser.dimension_write ser.checked_write ser.taken ser.taken_by ser.elements_by trip.dimension_kept tape_bytes
      dimension_back m d t e g y w mem b h o same =
          let small_count : count_of book t d < 2 ^ 32 = u32-small book plain t (20 + 4 * d) in
          emits-fine _ (element_check book width d t e.resolved) _ (λ c.
          emits-after book buffer (Back (ser.elements_write write sc (plain_item (element_item book d t e)) (stride_of book d t e.resolved) (count_of book t d) 0 0 (count_of book t d)) mem) _
          (rec_of m 1 0 (count_of book t d) 0) _
          (elements-back (element_item book d t e) (element_good d t e y w) (stride_of book d t e.resolved) (count_of book t d) mem b 0 0 (count_of book t d) (omega arith) (rw (same_item d t e) h))
          (λ from fs x.
          back-record (rec_of m 1 0 (count_of book t d) 0) (held_of m 1 0 (count_of book t d) 0 (below m g) (omega arith) (omega arith) (omega arith) (omega arith)) _ _ mem
          (λ at q. same at q ∙ rw (c, q, same_item d t e)) from (rec (rec_of m 1 0 (count_of book t d) 0) ∷ fs) fs refl x))

      element-by : (x : Typed) → GoodType book x → shape_of (category_of book width x.resolved) ≡ shape.Array → (mem : List ℕ) → Bytes mem
          → eqb (length mem) (size_of book x.resolved) ≡ true → (n : ℕ) → is_type book n ≡ true → (r : Resolved) → look_up book width x.resolved ≡ r
          → trip.array_kept kept rc x.resolved mem r ≡ true → Emits book buffer (Back (ser.item_write write sc (whole x.resolved)) mem) (de.element_by child rc x n mem r)
      unfolding de.element_by trip.array_kept ser.item_write ser.taken ser.taken_by ser.value_by ser.array_write ser.entered_at ser.entered_by ser.element_type ser.array_write_by resolved_numbers
      element-by x g s mem b q n y (resolved.Base e) l h =
          emits_where _ (eqb (array_bytes book x.resolved e) (length mem)) _ 10 0 (λ z.
          dimension_back x.named 0 x.resolved (de.typed_of rc n e) g.named (record { resolved = look-typed book width x.resolved e l; named = y }) g.resolved mem b h
          (ser.item_write write sc (whole x.resolved)) (λ at i. rw (i, s, q, l, z)))
      element-by x g s mem b q n y (resolved.NotFound k) l h = emits-refused book buffer _ 7 k
      element-by x g s mem b q n y resolved.TooLong l h = emits-refused book buffer _ 8 0

      -- a name that is found leads where its aliases do
      look-found : (t n : ℕ) → find book (type_name_of book t) ≡ Some n → look_up book width t ≡ resolve_alias book width n
      unfolding look_up chain_onward
      look-found t n e = rw e

      array-by : (x : Typed) → GoodType book x → shape_of (category_of book width x.resolved) ≡ shape.Array → (mem : List ℕ) → Bytes mem
          → eqb (length mem) (size_of book x.resolved) ≡ true → trip.array_kept kept rc x.resolved mem (look_up book width x.resolved) ≡ true
          → (f : Option ℕ) → find book (type_name_of book x.resolved) ≡ f
          → Emits book buffer (Back (ser.item_write write sc (whole x.resolved)) mem) (de.array_by child rc x mem f)
      unfolding de.array_by resolved_numbers
      array-by x g s mem b q h (Some n) e =
          let l = look-found x.resolved n e in
          element-by x g s mem b q n (found_type book (type_name_of book x.resolved) n e) (resolve_alias book width n) l (rw l at h)
      array-by x g s mem b q h None e = emits-refused book buffer _ 7 x.resolved

      array_back : (x : Typed) → GoodType book x → shape_of (category_of book width x.resolved) ≡ shape.Array → (mem : List ℕ) → Bytes mem
          → trip.array_kept kept rc x.resolved mem (look_up book width x.resolved) ≡ true
          → Emits book buffer (Back (ser.item_write write sc (whole x.resolved)) mem) (de.array_of child rc x mem)
      unfolding de.array_of
      array_back x g s mem b h =
          emits_where _ (eqb (length mem) (size_of book x.resolved)) _ 10 0 (λ q. array-by x g s mem b q h (find book (type_name_of book x.resolved)) refl)

      -- ---- a leaf

      leaf_write_lem : (m : ℕ) (l : m < 2 ^ 32) (t : ℕ) (mem : List ℕ) (b : Bytes mem) (from : ℕ) (es : List TapeEvent) → LeafBack book buffer m l mem b (λ r. leaf_for book width t (category_of book width t) r buffer mem) from es
          → Back (ser.item_write write sc (whole t)) mem from es
      unfolding ser.item_write ser.taken ser.taken_by ser.value_by ser.leaf_write ser.leaf_end
      leaf_write_lem m l t mem b from es x =
          let one-no : eqb x.r.kind 1 ≡ false = ne_eqb x.r.kind 1 x.no-array in
          let three-no : eqb x.r.kind 3 ≡ false = ne_eqb x.r.kind 3 x.no-map in
          back_last x.r x.held _ mem (λ at e. rw (e, one-no, three-no, x.writes)) from es x.bytes

      leaf_item : (x : Typed) → GoodType book x → (mem : List ℕ) → Bytes mem → trip.leaf_kept book x.resolved mem (leaf_at book width x.resolved mem) ≡ true
          → Emits book buffer (Back (ser.item_write write sc (whole x.resolved)) mem) (de.leaf_of rc x mem)
      unfolding de.leaf_of
      leaf_item x y mem b h =
          let l = below x.named y.named in
          emits-map _ _ _ (leaf_write_lem x.named l x.resolved mem b) (leaf-back book buffer small valid x.named l width x.resolved y.resolved mem b h)

      -- ---- an item

      shape-back : (x : Typed) → GoodType book x → (mem : List ℕ) → Bytes mem → (s : Shape) → shape_of (category_of book width x.resolved) ≡ s
          → trip.shape_kept kept rc x.resolved mem s ≡ true
          → Emits book buffer (Back (ser.item_write write sc (whole x.resolved)) mem) (de.shape_walk child rc x mem s)
      unfolding de.shape_walk trip.shape_kept
      shape-back x y mem b shape.Map s h = map_back x y s mem b h
      shape-back x y mem b shape.Array s h = array_back x y s mem b h
      shape-back x y mem b shape.Leaf s h = leaf_item x y mem b h

      item_back : Children (de.item_walk child rc) (ser.item_write write sc) (trip.item_kept kept rc)
      unfolding de.item_walk shape_at trip.item_kept ser.item_write
      item_back (whole x) mem g b h = shape-back x g mem b (shape_of (category_of book width x.resolved)) refl h
      item_back (further d t e) mem g b h = dimension_back t d t e g.1 g.0 g.1 mem b h (ser.dimension_write write sc d t e.resolved) (λ at x. refl)

    pub walk-back : (left : ℕ) → Children (de.read_walk rc left) (ser.write_walk sc left) (trip.walk_kept rc left)
    unfolding de.read_walk ser.write_walk trip.walk_kept
    walk-back zero i mem g b h = emits-refused book buffer _ 14 0
    walk-back (suc left) i mem g b h = item_back (de.read_walk rc left) (ser.write_walk sc left) (trip.walk_kept rc left) (walk-back left) i mem g b h
