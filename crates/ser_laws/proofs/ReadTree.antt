-- What a read of a valid book emits are the records of a tree in its ranges and levels, where the text stands in the text buffer. Assumes nothing.
use Rattle.std.specs.Prelude.{Option, Some, None}
use mathlib.Core.Path.{◌≡◌, refl, sym, ap, ◌∙◌}
use mathlib.Core.Bool.{Bool, true, false, cond}
use mathlib.Core.List.{List, [], ◌∷◌, ◌++◌, append_assoc, append-nil}
use Prim.Native.Nat.{ℕ, zero, suc, ◌+◌, ◌*◌, ◌^◌, ◌≤◌, ◌<◌}
use native.Mathlib.Omega.{arith}
use lib.Pow.{pow_mono}
use borrow.Author.Tests.{leb-true, leb-false, eqb-true}
use lib.ListN.{length, get_or, take, drop, length-append, length-take, get_or-eq_default}
use lib.Seq.{get_or-take, drop-drop, take-append_seam, drop-append_seam}
use lib.Dec.{leb, eqb}
use Rattle.enc_number.specs.Le.{Bytes}
use Rattle.enc_number.proofs.ByteOrder.{le_value-below, bytes_drop}
use Rattle.enc_utf_8.specs.Utf8.{well_formed}
use Rattle.type_book.specs.Book.{blocks, kind_of, is_type, u32_at, size_of, fields_of, count_of, type_name_of}
use Rattle.type_provider.specs.Find.{find}
use Rattle.type_book_check.specs.Check.{ValidBook}
use Rattle.type_book_check.proofs.Valid.{valid-size, valid-below, valid-type}
use Rattle.resolvers.specs.Resolve.{resolve_alias, is_followed, resolved_numbers}
use Rattle.resolvers.specs.declared.Resolved.{Resolved}
use Rattle.resolvers.specs.declared.Resolved.TheVariants as resolved
use Rattle.resolvers.proofs.Chains.{found_type, follow-ends}
use Rattle.resolve_field_types.specs.Fields.{field_of, field_found, resolve_field, fields_check, check_numbers, field_numbers}
use Rattle.resolve_field_types.specs.declared.FieldAnswer.{FieldAnswer}
use Rattle.resolve_field_types.specs.declared.FieldAnswer.TheVariants as answer
use Rattle.resolve_field_types.specs.declared.FieldsCheck.{FieldsCheck}
use Rattle.resolve_field_types.specs.declared.FieldsCheck.TheVariants as check
use Rattle.tape_shape.specs.declared.Shape.{Shape}
use Rattle.tape_shape.specs.declared.Shape.TheVariants as shape
use Rattle.tape_shape.specs.Array.{stride_of, is_last, array_bytes}
use Rattle.tape.specs.declared.record.Record.{Record}
use Rattle.tape.specs.Record.{new_record, declaring, record_bytes}
use Rattle.de_leaves.specs.declared.leaf.LeafValue.{LeafValue}
use Rattle.de_leaves.specs.declared.leaf.LeafValue.TheVariants as value
use Rattle.de_leaves.specs.Leaf.{leaf_at}
use Rattle.de_leaf_output.specs.Leaves.{ends_at, end_byte, trace_of}
use Rattle.de_leaf_output.proofs.Ended.{end-small}
use Rattle.enc_text_decoder.specs.Text.{decoded_by}
use Rattle.de_output.specs.Trace.{TapeEvent, rec, text, Trace, done, stop, text_bytes, tape_bytes, one, refuse, ◌then◌}
use Rattle.de_output.proofs.Runs.{text-then, tape-then}
use Rattle.tape_array_elements.specs.Element.{Content, whole, further, shape_at, element_item, element_check}
use Rattle.de_leaf_output.specs.declared.Typed.{Typed}
use Rattle.de.specs.Walk.{Ctx, ctx, typed_of, Child, leaf_of, checked, field_value, member_of, members_from, members_of, map_of, elements_from, elements_of, dimension_of, element_by, array_by, array_of, shape_walk, item_walk, read_walk}
use Rattle.tape_form.specs.Tree.{Tree, leaf, array, map, Elements, none, element, Members, no_keys, member, element_count, keys, with_type, with_A, records, element_records, member_records, depth, elements_depth, members_depth, LeafRanges, FineType, FineLeaf, FineKey, Fine, FineElements, FineMembers}
use Rattle.tape_form.specs.Tree as trees
use Rattle.ser_laws.proofs.ReadLeaf.{FineValue, leaf-fine, bits_small, decoded_formed}

-- ---- bytes

pub bytes_take : (n : ℕ) (s : List ℕ) → Bytes s → Bytes (take n s)
bytes_take n s b i = by (leb n i) refl
  where
    by : (x : Bool) → leb n i ≡ x → get_or (take n s) i 0 < 256
    by true e =
        let l = leb-true n i e in
        let m : length (take n s) ≤ i = simp length-take (omega arith) in
        rw (get_or-eq_default (take n s) 0 m) (omega arith)
    by false e = rw (get_or-take n s i 0 (leb-false n i e)) (b i)

pub u32-small : (book : List ℕ) → Bytes book → (n k : ℕ) → u32_at book n k < 2 ^ 32
u32-small book b n k =
    le_value-below 4 (take 4 (drop (n * 512 + k) book)) (bytes_take 4 (drop (n * 512 + k) book) (bytes_drop (n * 512 + k) book b)) (simp length-take (omega arith))

-- numbers of at most eight bytes
pub pow_most : (w : ℕ) → w ≤ 8 → 2 ^ (8 * w) ≤ 2 ^ 64
pow_most w h = pow_mono {i = 8 * w} {j = 64} (omega arith)

-- ---- a field's type

abbrev TypedBy : List ℕ → FieldAnswer → Type 0
TypedBy book (answer.Field f) = (is_type book f.resolved ≡ true) × (is_type book f.named ≡ true)
TypedBy book (answer.NotFound b) = Unit {0}
TypedBy book answer.TooLong = Unit {0}

-- a type whose block is a type block, resolved and as it was named
pub record GoodType (book : List ℕ) (x : Typed) : Type 0 where
  pub resolved : is_type book x.resolved ≡ true
  pub named : is_type book x.named ≡ true

pub record TypedField (book : List ℕ) (a : FieldAnswer) : Type 0 where
  pub typed : TypedBy book a

of_typed : (book : List ℕ) (f n : ℕ) (r : Resolved) → is_type book n ≡ true → ((u : ℕ) → r ≡ resolved.Base u → is_type book u ≡ true) → TypedField book (field_of book f n r)
unfolding field_of
of_typed book f n (resolved.Base u) y h = record { typed = (h u refl, y) }
of_typed book f n (resolved.NotFound b) y h = record { typed = tt }
of_typed book f n resolved.TooLong y h = record { typed = tt }

-- where aliases lead from a type block
pub base-typed : (book : List ℕ) (width n : ℕ) → is_type book n ≡ true → (u : ℕ) → resolve_alias book width n ≡ resolved.Base u → is_type book u ≡ true
base-typed book width n y u e = (follow-ends (is_followed false book width) book 32 n u e).typed y

found-typed : (book : List ℕ) (width f : ℕ) (x : Option ℕ) → find book (type_name_of book f) ≡ x → TypedField book (field_found book width f x)
unfolding field_found
found-typed book width f (Some n) e =
    let y = found_type book (type_name_of book f) n e in
    of_typed book f n (resolve_alias book width n) y (base-typed book width n y)
found-typed book width f None e = record { typed = tt }

pub field-typed : (book : List ℕ) (width f : ℕ) → TypedField book (resolve_field book width f)
unfolding resolve_field
field-typed book width f = found-typed book width f (find book (type_name_of book f)) refl

-- ---- a text where it stands

pub record Stands (buffer : List ℕ) (from : ℕ) (xs : List ℕ) : Type 0 where
  pub rest : List ℕ
  pub is : drop from buffer ≡ xs ++ rest
  pub inside : from + length xs ≤ length buffer

stands_left : {buffer : List ℕ} {from : ℕ} (xs ys : List ℕ) → Stands buffer from (xs ++ ys) → Stands buffer from xs
stands_left xs ys s =
    record {
      rest = ys ++ s.rest;
      is = s.is ∙ append_assoc xs ys s.rest;
      inside = let l = s.inside in let z = length-append xs ys in omega (arith, l, z);
    }

stands_right : {buffer : List ℕ} (from : ℕ) (xs ys : List ℕ) → Stands buffer from (xs ++ ys) → Stands buffer (from + length xs) ys
stands_right {buffer} from xs ys s =
    record {
      rest = s.rest;
      is = sym (drop-drop (length xs) from buffer) ∙ ap (drop (length xs)) (s.is ∙ append_assoc xs ys s.rest) ∙ drop-append_seam xs (ys ++ s.rest);
      inside = let l = s.inside in let z = length-append xs ys in omega (arith, l, z);
    }

-- ---- the bytes of records

bytes_append : (xs ys : List Record) → trees.records_bytes (xs ++ ys) ≡ trees.records_bytes xs ++ trees.records_bytes ys
unfolding trees.records_bytes
bytes_append [] ys = refl
bytes_append (r ∷ xs) ys = rw (bytes_append xs ys) (sym (append_assoc (record_bytes r) (trees.records_bytes xs) (trees.records_bytes ys)))

-- ---- what events are

module _ (book buffer : List ℕ) where
  -- the records of a value, of elements and of members with their end, of one member
  pub record Value (left from : ℕ) (es : List TapeEvent) : Type 0 where
    pub tree : Tree
    pub levels : depth tree ≤ left
    pub fine : Fine book buffer tree
    pub bytes : tape_bytes from es ≡ trees.records_bytes (records tree)

  record Several (left n from : ℕ) (es : List TapeEvent) : Type 0 where
    all : Elements
    many : element_count all ≡ n
    levels : elements_depth all ≤ left
    fine : FineElements book buffer all
    bytes : tape_bytes from es ≡ trees.records_bytes (element_records all)

  record Keyed (left n from : ℕ) (es : List TapeEvent) : Type 0 where
    all : Members
    many : keys all ≡ n
    levels : members_depth all ≤ left
    fine : FineMembers book buffer all
    bytes : tape_bytes from es ≡ trees.records_bytes (member_records all)

  record OneKey (left f from : ℕ) (es : List TapeEvent) : Type 0 where
    tree : Tree
    levels : depth tree ≤ left
    fine : Fine book buffer tree
    bytes : tape_bytes from es ≡ record_bytes (with_A 4 f) ++ trees.records_bytes (records tree)

  -- a trace that is not refused emits events that are so, where their texts stand
  abbrev EmitsBy : (ℕ → List TapeEvent → Type 0) → Trace → Type 0
  EmitsBy P (done es) = (from : ℕ) → Stands buffer from (text_bytes es) → P from es
  EmitsBy P (stop es n b) = Unit {0}

  pub record Emits (P : ℕ → List TapeEvent → Type 0) (t : Trace) : Type 0 where
    pub emits : EmitsBy P t

  pub emits-refused : (P : ℕ → List TapeEvent → Type 0) (n b : ℕ) → Emits P (refuse n b)
  emits-refused P n b = record { emits = tt }

  emits_if : (P : ℕ → List TapeEvent → Type 0) (x : Bool) (t : Trace) (n b : ℕ) → Emits P t → Emits P (cond x t (refuse n b))
  emits_if P true t n b p = p
  emits_if P false t n b p = emits-refused P n b

  emits-checked : (P : ℕ → List TapeEvent → Type 0) (f : FieldsCheck) (t : Trace) → Emits P t → Emits P (checked f t)
  unfolding checked check_numbers
  emits-checked P check.Fine t p = p
  emits-checked P (check.NotFound b) t p = emits-refused P 7 b
  emits-checked P check.TooLong t p = emits-refused P 8 0

  -- one trace after another
  pub emits_then : (P Q R : ℕ → List TapeEvent → Type 0) (t u : Trace) → Emits P t → Emits Q u
      → ((from : ℕ) (es fs : List TapeEvent) → P from es → Q (from + length (text_bytes es)) fs → R from (es ++ fs)) → Emits R (t then u)
  unfolding ◌then◌
  emits_then P Q R (done xs) (done ys) p q f =
      record {
        emits = λ from s.
            let z : Stands buffer from (text_bytes xs ++ text_bytes ys) = rw (text-then xs ys) at s in
            f from xs ys (p.emits from (stands_left (text_bytes xs) (text_bytes ys) z))
            (q.emits (from + length (text_bytes xs)) (stands_right from (text_bytes xs) (text_bytes ys) z));
      }
  emits_then P Q R (done xs) (stop ys n b) p q f = record { emits = tt }
  emits_then P Q R (stop xs n b) u p q f = record { emits = tt }

  -- one record before a trace
  pub emits-after : (Q R : ℕ → List TapeEvent → Type 0) (r : Record) (u : Trace) → Emits Q u
      → ((from : ℕ) (fs : List TapeEvent) → Q from fs → R from (rec r ∷ fs)) → Emits R (one (rec r) then u)
  unfolding text_bytes
  emits-after Q R r u q f =
      emits_then (λ from es. es ≡ rec r ∷ []) Q R (one (rec r)) u (record { emits = λ from s. refl }) q
      (λ from es fs e x. rw e (f from fs (let z : length (text_bytes es) ≡ 0 = rw e in let y : from + length (text_bytes es) ≡ from = omega (arith, z) in rw y at x)))

  -- ---- leaves

  module _ (small : length buffer < 2 ^ 64) where
    -- a record that is a value by itself
    alone : (m left k w a b : ℕ) → FineLeaf book buffer (record { kind = k; width = w; spare = 0; declared = m; a = a; b = b })
        → Emits (Value (suc left)) (one (rec (declaring m (new_record k w a b))))
    unfolding text_bytes tape_bytes depth Fine records trees.records_bytes
    alone m left k w a b f =
        record {
          emits = λ from s. record {
            tree = leaf (record { kind = k; width = w; spare = 0; declared = m; a = a; b = b });
            levels = omega arith;
            fine = f;
            bytes = refl;
          };
        }

    fine-record : (m : ℕ) → FineType book m → (k w a b : ℕ) → k < 256 → w < 256 → a < 2 ^ 64 → b < 2 ^ 64
        → LeafRanges book buffer (record { kind = k; width = w; spare = 0; declared = m; a = a; b = b })
        → FineLeaf book buffer (record { kind = k; width = w; spare = 0; declared = m; a = a; b = b })
    fine-record m d k w a b hk hw ha hb l =
        record {
          held = record { kind = hk; width = hw; spare = omega arith; declared = d.held; a = ha; b = hb };
          spare = refl;
          declared = d;
          ranges = l;
        }

    text-leaf : (m : ℕ) → FineType book m → (w from : ℕ) (xs : List ℕ) → w ≤ 1 → well_formed xs ≡ true → Stands buffer from xs
        → FineLeaf book buffer (record { kind = 11; width = w; spare = 0; declared = m; a = from; b = length xs })
    text-leaf m d w from xs o h s =
        let e : take (length xs) (drop from buffer) ≡ xs = ap (take (length xs)) s.is ∙ take-append_seam xs s.rest in
        let l = s.inside in
        fine-record m d 11 w from (length xs) (omega arith) (omega arith) (omega arith) (omega arith) (trees.text refl o l (rw e h))

    text-alone : (m : ℕ) → FineType book m → (left w : ℕ) (xs : List ℕ) → w ≤ 1 → well_formed xs ≡ true → Emits (Value (suc left)) (one (text w m xs))
    unfolding text_bytes tape_bytes depth Fine records trees.records_bytes
    text-alone m d left w xs o h =
        record {
          emits = λ from s. record {
            tree = leaf (record { kind = 11; width = w; spare = 0; declared = m; a = from; b = length xs });
            levels = omega arith;
            fine = text-leaf m d w from xs o h (rw append-nil at s);
            bytes = refl;
          };
        }

    single-emits : (m : ℕ) → FineType book m → (left n : ℕ) → n < 2 ^ 32 → Emits (Value (suc left)) (one (rec (declaring m (new_record 9 0 0 n))))
    single-emits m d left n l = alone m left 9 0 0 n (fine-record m d 9 0 0 n (omega arith) (omega arith) (omega arith) (omega arith) (trees.real32 refl refl refl l))

    double-emits : (m : ℕ) → FineType book m → (left n : ℕ) → n < 2 ^ 64 → Emits (Value (suc left)) (one (rec (declaring m (new_record 10 0 0 n))))
    double-emits m d left n l = alone m left 10 0 0 n (fine-record m d 10 0 0 n (omega arith) (omega arith) (omega arith) (omega arith) (trees.real64 refl refl refl l))

    -- a leaf's value, by what it is
    value-emits : (n : ℕ) → FineType book n → (left : ℕ) (v : LeafValue) (mem : List ℕ) → blocks book ≤ 65536 → FineValue book v → Emits (Value (suc left)) (trace_of n v mem)
    value-emits at ok left (value.Signed w b) mem few f =
        let x = f.fine in
        let m = x.most in
        alone at left 7 w 0 b (fine-record at ok 7 w 0 b (omega arith) (omega arith) (omega arith) (rw x.is (bits_small x.number)) (trees.signed refl x.width refl x.number x.fits x.is))
    value-emits at ok left (value.Unsigned w n) mem few f =
        let x = f.fine in
        let m = x.most in
        let l = x.small in
        let o : 2 ^ (8 * w) ≤ 2 ^ 64 = pow_most w m in
        alone at left 8 w 0 n (fine-record at ok 8 w 0 n (omega arith) (omega arith) (omega arith) (omega arith) (trees.unsigned refl x.width refl l))
    value-emits at ok left (value.Bool true) mem few f = alone at left 6 0 0 1 (fine-record at ok 6 0 0 1 (omega arith) (omega arith) (omega arith) (omega arith) (trees.bool refl refl refl (omega arith)))
    value-emits at ok left (value.Bool false) mem few f = alone at left 6 0 0 0 (fine-record at ok 6 0 0 0 (omega arith) (omega arith) (omega arith) (omega arith) (trees.bool refl refl refl (omega arith)))
    value-emits at ok left (value.Single x) mem few f = single-emits at ok left _ f.fine
    value-emits at ok left (value.Double x) mem few f = double-emits at ok left _ f.fine
    value-emits at ok left (value.NanSingle n) mem few f = single-emits at ok left n f.fine
    value-emits at ok left (value.NanDouble n) mem few f = double-emits at ok left n f.fine
    value-emits at ok left (value.Text d e) mem few f = text-alone at ok left (end_byte e) (decoded_by d (take (ends_at e) mem)) (end-small e) (decoded_formed d (take (ends_at e) mem))
    value-emits at ok left (value.Entry n) mem few f =
        let x = f.fine in
        let l = x.inside in
        alone at left 12 0 n 0 (fine-record at ok 12 0 n 0 (omega arith) (omega arith) (omega (arith, l, few)) (omega arith) (trees.entry refl refl l x.entry refl))
    value-emits at ok left value.Unit mem few f = alone at left 13 0 0 0 (fine-record at ok 13 0 0 0 (omega arith) (omega arith) (omega arith) (omega arith) (trees.unit refl refl refl refl))
    value-emits at ok left (value.Refused k) mem few f = emits-refused (Value (suc left)) k 0

    -- ---- the walk

    module _ (valid : ValidBook book) (plain : Bytes book) (width : ℕ) where
      abbrev c : Ctx
      c = ctx book width

      few : blocks book ≤ 65536
      few = (valid-size book valid).few

      -- a value's type, and an array with its element's type, are type blocks, as they are named too
      abbrev Good : Content Typed → Type 0
      Good (whole x) = GoodType book x
      Good (further d t e) = GoodType book e × (is_type book t ≡ true)

      -- a type block may be declared
      fine-type : (n : ℕ) → is_type book n ≡ true → FineType book n
      fine-type n y =
          let e : kind_of book n ≡ 1 = eqb-true (kind_of book n) 1 y in
          let l = valid-below book valid n 0 e in
          record { held = omega (arith, l, few); inside = l; is-type = e }

      abbrev Children : ℕ → Child → Type 0
      Children left child = (i : Content Typed) (mem : List ℕ) → Good i → Bytes mem → Emits (Value left) (child i mem)

      module _ (left : ℕ) (child : Child) (ih : Children left child) where
        -- ---- a map

        field-emits : (mem : List ℕ) → Bytes mem → (a : FieldAnswer) → TypedField book a → Emits (Value left) (field_value child c mem a)
        unfolding field_value field_numbers
        field-emits mem b (answer.Field f) y =
            emits_if (Value left) (leb (f.offset + f.size) (length mem)) _ 10 0
            (ih (whole (typed_of c f.named f.resolved)) _ (record { resolved = y.typed.0; named = y.typed.1 }) (bytes_take f.size (drop f.offset mem) (bytes_drop f.offset mem b)))
        field-emits mem b (answer.NotFound n) y = emits-refused (Value left) 7 n
        field-emits mem b answer.TooLong y = emits-refused (Value left) 8 0

        member-emits : (mem : List ℕ) → Bytes mem → (f : ℕ) → Emits (OneKey left f) (member_of child c mem f)
        unfolding member_of tape_bytes
        member-emits mem b f =
            emits-after (Value left) (OneKey left f) (new_record 4 0 f 0) _ (field-emits mem b (resolve_field book width f) (field-typed book width f))
            (λ from fs v. record { tree = v.tree; levels = v.levels; fine = v.fine; bytes = ap (λ (x : List ℕ). record_bytes (with_A 4 f) ++ x) v.bytes })

        members_emit : (mem : List ℕ) → Bytes mem → (f k : ℕ) → ((j : ℕ) → j < k → FineKey book (f + j)) → Emits (Keyed left k) (members_from child c mem f k)
        unfolding members_from tape_bytes text_bytes keys members_depth FineMembers member_records trees.records_bytes
        members_emit mem b f zero h =
            record { emits = λ from s. record { all = no_keys; many = refl; levels = omega arith; fine = tt; bytes = refl } }
        members_emit mem b f (suc k) h =
            emits_then (OneKey left f) (Keyed left k) (Keyed left (suc k)) _ _ (member-emits mem b f)
            (members_emit mem b (f + 1) k (λ j l. let e : f + suc j ≡ f + 1 + j = omega arith in rw e at (h (suc j) (omega arith))))
            (λ from es fs v r.
            let m = v.levels in
            let n = r.levels in
            record {
              all = member f v.tree r.all;
              many = ap suc r.many;
              levels = omega arith;
              fine = (let e : f + 0 ≡ f = omega arith in rw e at (h 0 (omega arith)), v.fine, r.fine);
              bytes =
                  tape-then from es fs
                  ∙ rw (v.bytes, r.bytes, bytes_append (records v.tree) (member_records r.all))
                  (append_assoc (record_bytes (with_A 4 f)) (trees.records_bytes (records v.tree)) (trees.records_bytes (member_records r.all)));
            })

        map-emits : (x : Typed) → GoodType book x → (mem : List ℕ) → Bytes mem → Emits (Value (suc left)) (map_of child c x mem)
        unfolding map_of members_of tape_bytes depth Fine records trees.records_bytes
        map-emits x y mem b =
            let t : ℕ = x.resolved in
            let d = valid-type book valid t y.resolved in
            emits_if (Value (suc left)) (eqb (length mem) (size_of book t)) _ 10 0
            (emits-checked (Value (suc left)) (fields_check book width t) _
            (emits-after (Keyed left (fields_of book t)) (Value (suc left)) (declaring x.named (new_record 3 0 (fields_of book t) 0)) _
            (members_emit mem b (t + 1) (fields_of book t) (λ j l. let e = (d.fields j l).kind in key-fine (t + 1 + j) e))
            (λ from fs r.
            let n = r.levels in
            let q = r.many in
            let l : fields_of book t < 2 ^ 32 = u32-small book plain t 12 in
            record {
              tree = map x.named r.all;
              levels = omega arith;
              fine = (fine-type x.named y.named, omega (arith, q, l), r.fine);
              bytes = rw (← q) (ap (λ (z : List ℕ). record_bytes (with_type 3 x.named (keys r.all)) ++ z) r.bytes);
            })))
          where
            key-fine : (f : ℕ) → kind_of book f ≡ 2 → FineKey book f
            key-fine f e = let l = valid-below book valid f 1 e in record { held = omega (arith, l, few); inside = l; field = e }

        -- ---- an array

        elements_emit : (item : Content Typed) → Good item → (stride : ℕ) (mem : List ℕ) → Bytes mem → (from k : ℕ) → Emits (Several left k) (elements_from child item stride mem from k)
        unfolding elements_from tape_bytes text_bytes element_count elements_depth FineElements element_records trees.records_bytes
        elements_emit item g stride mem b at zero =
            record { emits = λ from s. record { all = none; many = refl; levels = omega arith; fine = tt; bytes = refl } }
        elements_emit item g stride mem b at (suc k) =
            emits_then (Value left) (Several left k) (Several left (suc k)) _ _
            (ih item _ g (bytes_take stride (drop at mem) (bytes_drop at mem b)))
            (elements_emit item g stride mem b (at + stride) k)
            (λ from es fs v r.
            let m = v.levels in
            let n = r.levels in
            record {
              all = element v.tree r.all;
              many = ap suc r.many;
              levels = omega arith;
              fine = (v.fine, r.fine);
              bytes = tape-then from es fs ∙ rw (v.bytes, r.bytes, bytes_append (records v.tree) (element_records r.all));
            })

        element_good : (d t : ℕ) (e : Typed) → GoodType book e → is_type book t ≡ true → Good (element_item book d t e)
        unfolding element_item
        element_good d t e y z = by (is_last book d t)
          where
            by : (x : Bool) → Good (cond x (whole e) (further (d + 1) t e))
            by true = y
            by false = (y, z)

        dimension_emits : (m d t : ℕ) (e : Typed) → is_type book m ≡ true → GoodType book e → is_type book t ≡ true → (mem : List ℕ) → Bytes mem
            → Emits (Value (suc left)) (dimension_of child c m d t e mem)
        unfolding dimension_of elements_of tape_bytes depth Fine records trees.records_bytes
        dimension_emits m d t e g y z mem b =
            emits-checked (Value (suc left)) (element_check book width d t e.resolved) _
            (emits-after (Several left (count_of book t d)) (Value (suc left)) (declaring m (new_record 1 0 (count_of book t d) 0)) _
            (elements_emit (element_item book d t e) (element_good d t e y z) (stride_of book d t e.resolved) mem b 0 (count_of book t d))
            (λ from fs r.
            let n = r.levels in
            let q = r.many in
            let l : count_of book t d < 2 ^ 32 = u32-small book plain t (20 + 4 * d) in
            record {
              tree = array m r.all;
              levels = omega arith;
              fine = (fine-type m g, omega (arith, q, l), r.fine);
              bytes = rw (← q) (ap (λ (x : List ℕ). record_bytes (with_type 1 m (element_count r.all)) ++ x) r.bytes);
            }))

        element-by : (x : Typed) → GoodType book x → (n : ℕ) → is_type book n ≡ true → (mem : List ℕ) → Bytes mem → (r : Resolved) → ((u : ℕ) → r ≡ resolved.Base u → is_type book u ≡ true)
            → Emits (Value (suc left)) (element_by child c x n mem r)
        unfolding element_by resolved_numbers
        element-by x g n y mem b (resolved.Base e) h =
            emits_if (Value (suc left)) (eqb (array_bytes book x.resolved e) (length mem)) _ 10 0
            (dimension_emits x.named 0 x.resolved (typed_of c n e) g.named (record { resolved = h e refl; named = y }) g.resolved mem b)
        element-by x g n y mem b (resolved.NotFound k) h = emits-refused (Value (suc left)) 7 k
        element-by x g n y mem b resolved.TooLong h = emits-refused (Value (suc left)) 8 0

        array-by : (x : Typed) → GoodType book x → (mem : List ℕ) → Bytes mem → (f : Option ℕ) → find book (type_name_of book x.resolved) ≡ f → Emits (Value (suc left)) (array_by child c x mem f)
        unfolding array_by resolved_numbers
        array-by x g mem b (Some n) e =
            let y = found_type book (type_name_of book x.resolved) n e in
            element-by x g n y mem b (resolve_alias book width n) (base-typed book width n y)
        array-by x g mem b None e = emits-refused (Value (suc left)) 7 x.resolved

        array-emits : (x : Typed) → GoodType book x → (mem : List ℕ) → Bytes mem → Emits (Value (suc left)) (array_of child c x mem)
        unfolding array_of
        array-emits x g mem b =
            emits_if (Value (suc left)) (eqb (length mem) (size_of book x.resolved)) _ 10 0 (array-by x g mem b (find book (type_name_of book x.resolved)) refl)

        -- ---- a value

        leaf-emits : (x : Typed) → GoodType book x → (mem : List ℕ) → Bytes mem → Emits (Value (suc left)) (leaf_of c x mem)
        unfolding leaf_of
        leaf-emits x y mem b =
            value-emits x.named (fine-type x.named y.named) left (leaf_at book width x.resolved mem) mem few (leaf-fine book mem b valid width x.resolved y.resolved)

        shape-emits : (x : Typed) → GoodType book x → (mem : List ℕ) → Bytes mem → (s : Shape) → Emits (Value (suc left)) (shape_walk child c x mem s)
        unfolding shape_walk
        shape-emits x y mem b shape.Map = map-emits x y mem b
        shape-emits x y mem b shape.Array = array-emits x y mem b
        shape-emits x y mem b shape.Leaf = leaf-emits x y mem b

        item_emits : Children (suc left) (item_walk child c)
        unfolding item_walk
        item_emits (whole x) mem g b = shape-emits x g mem b (shape_at book width x.resolved)
        item_emits (further d t e) mem g b = dimension_emits t d t e g.1 g.0 g.1 mem b

      pub walk-emits : (left : ℕ) → Children left (read_walk c left)
      unfolding read_walk
      walk-emits zero i mem g b = emits-refused (Value zero) 14 0
      walk-emits (suc left) i mem g b = item_emits left (read_walk c left) (walk-emits left) i mem g b
