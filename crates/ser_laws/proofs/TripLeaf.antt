-- The record of a leaf that was read, written over the leaf's bytes, gives them back where they are kept. Assumes nothing.
use Rattle.std.specs.Prelude.{Option, Some, None}
use mathlib.Core.Path.{◌≡◌, refl, sym, ap, ◌∙◌}
use mathlib.Core.Bool.{Bool, true, false, cond, not}
use mathlib.Core.Logic.{◌⊎◌, ⊎_elim}
use mathlib.Core.List.{List, [], ◌∷◌, append-nil}
use Prim.Native.Nat.{ℕ, zero, suc, ◌+◌, ◌*◌, ◌-◌, ◌%◌, ◌^◌, ◌≤◌, ◌<◌}
use native.Mathlib.Omega.{arith}
use native.Mathlib.Nat.{mod-eq_of_lt}
use borrow.Author.Tests.{eqb-true, eq-eqb, leb-true, le-leb, lt-ltb}
use lib.ListN.{length, get_or, take, drop, replicate, take-append-drop}
use lib.Seq.{take-append_seam, length-take-le}
use lib.Dec.{eqb, leb}
use lib.Ieee.{binary32, binary64, nan_bits, of_bits}
use Rattle.enc_number.specs.Le.{Bytes, le_value, le_bytes}
use Rattle.enc_number.proofs.ByteOrder.{le_value-below, le_bytes-le_value}
use Rattle.type_id.specs.TypeId.{id_of}
use Rattle.type_id.specs.declared.AdsTypeId.{AdsTypeId}
use Rattle.type_id.specs.declared.AdsTypeId.TheVariants.{Real32, Real64, UInt16, UInt32, UInt64}
use Rattle.enc_integer.proofs.Numbers.{integer_write_is}
use Rattle.enc_integer.specs.Integer.{integer_read_numbers, read_integer, write_integer, integer_bytes, integer_after}
use Rattle.enc_integer.specs.declared.Integer.{Integer}
use Rattle.enc_integer.specs.declared.Integer.TheVariants as integer
use Rattle.enc_integer.specs.declared.IntegerRead.{IntegerRead}
use Rattle.enc_integer.specs.declared.IntegerRead.TheVariants as read
use Rattle.enc_integer.specs.declared.IntegerWrite.TheVariants as write
use Rattle.enc_integer.proofs.Integers.{integer_back}
use Rattle.enc_float.specs.Float.{real_width, single_of, double_of, real_of, real_bits, real_read_numbers, read_real}
use Rattle.enc_float.specs.declared.Real.TheVariants as real
use Rattle.enc_float.specs.declared.RealRead.TheVariants as real_read
use Rattle.enc_float.proofs.Reals.{single-back, double-back}
use Rattle.enc_windows_1252_encoder.proofs.Trips.{encode_decode}
use Rattle.type_book.specs.Book.{blocks, is_type, flag_of, size_of, type_id_of, fields_of, entries_of, value_of, name_of}
use Rattle.type_book.proofs.Names.{same_eq}
use Rattle.type_category.specs.Category.{category_of}
use Rattle.time_types.specs.Counts.{count_width}
use Rattle.type_category.specs.declared.type_category.AdsTypeCategory.{AdsTypeCategory}
use Rattle.type_category.specs.declared.type_category.AdsTypeCategory.TheVariants as category
use Rattle.type_book_check.specs.Check.{ValidBook}
use Rattle.type_book_check.proofs.Valid.{valid-size}
use Rattle.ser_named_blocks.specs.Named.{entry_named}
use Rattle.tape.specs.declared.record.Record.{Record}
use Rattle.tape.specs.Record.{record_bytes, Held}
use Rattle.tape.specs.Text.{text_part, name_in, record_text}
use Rattle.de_leaves.specs.declared.leaf.LeafValue.{LeafValue}
use Rattle.de_leaves.specs.declared.leaf.LeafValue.TheVariants as value
use Rattle.de_leaves.specs.Leaf as leaves
use Rattle.de_leaves.specs.Leaf.{kind_of_leaf, entry_from, unlisted, entry_or, leaf_at}
use Rattle.de_leaf_output.specs.Leaves.{ends_at, trace_of}
use Rattle.de_leaf_output.proofs.Ended.{end-small}
use Rattle.enc_utf_8.specs.declared.TextEnd.{TextEnd}
use Rattle.enc_text_decoder.specs.Text.{end_by, decoded_by}
use Rattle.enc_utf_8.specs.Utf8.{well_formed}
use Rattle.enc_utf_8_replacing.proofs.Texts.{text-formed}
use Rattle.enc_text_decoder.specs.declared.Decoder.TheVariants as decoder
use Rattle.de_output.specs.Trace.{TapeEvent, rec, text, text_bytes, tape_bytes, one}
use Rattle.ser_leaf.specs.declared.Target.{Target}
use Rattle.ser_leaf.specs.declared.Target.TheVariants as target
use Rattle.ser_leaf.specs.Leaf.{Leaf, holds, exactly, bool_write, real_id, real_bytes, real_write, integer_by, pointer_write, target_of, integer_write, entry_by, entry_leaf, enum_write, padded, string_bytes, text_by, text_write, leaf_write_by, count_leaf, leaf_for}
use Rattle.ser_laws.specs.Trip.{zeros_after, is_whole, text_kept, entry_kept, leaf_kept}
use Rattle.ser_laws.proofs.Plain.{different}
use Rattle.std.proofs.lemmas.Bool.{and_parts}
use Rattle.ser_laws.proofs.ReadLeaf.{FineValue, read_fine, enum-fine, bits_small}
use Rattle.ser_laws.proofs.WideTrip.{wide-again}
use Rattle.ser_laws.proofs.TextId.{text_id}
use Rattle.ser_laws.proofs.ReadTree.{Stands, Emits, pow_most, bytes_take}

-- a record that declares a block, with nothing in bytes 2 and 3
abbrev pub rec_of : ℕ → ℕ → ℕ → ℕ → ℕ → Record
rec_of m k w a b = record { kind = k; width = w; spare = 0; declared = m; a = a; b = b }

pub held_of : (m k w a b : ℕ) → m < 2 ^ 32 → k < 256 → w < 256 → a < 2 ^ 64 → b < 2 ^ 64 → Held (rec_of m k w a b)
held_of m k w a b hm hk hw ha hb = record { kind = hk; width = hw; spare = omega arith; declared = hm; a = ha; b = hb }

exactly-back : (bs old : List ℕ) → bs ≡ old → exactly bs old ≡ holds old
unfolding exactly
exactly-back bs old e = rw (e, eq-eqb (length old) (length old) refl)

-- ---- ids of reals

width-cond : (b : Bool) (x y : AdsTypeId) → real_width x ≡ 0 → real_width y ≡ 0 → real_width (cond b x y) ≡ 0
width-cond true x y p q = p
width-cond false x y p q = q

no_real : (n : ℕ) → eqb n 4 ≡ false → eqb n 5 ≡ false → real_width (id_of n) ≡ 0
unfolding id_of
no_real n f g =
    rw (f, g)
    (width-cond (eqb n 0) _ _ refl (width-cond (eqb n 2) _ _ refl (width-cond (eqb n 3) _ _ refl
    (width-cond (eqb n 16) _ _ refl (width-cond (eqb n 17) _ _ refl (width-cond (eqb n 18) _ _ refl (width-cond (eqb n 19) _ _ refl
    (width-cond (eqb n 20) _ _ refl (width-cond (eqb n 21) _ _ refl (width-cond (eqb n 30) _ _ refl (width-cond (eqb n 31) _ _ refl
    (width-cond (eqb n 32) _ _ refl (width-cond (eqb n 33) _ _ refl (width-cond (eqb n 34) _ _ refl (width-cond (eqb n 65) _ _ refl refl)))))))))))))))

four_real : id_of 4 ≡ Real32
unfolding id_of
four_real = refl

five_real : id_of 5 ≡ Real64
unfolding id_of
five_real = refl

-- the record of a leaf, which written over its bytes, as `over` has it, gives them back
module _ (book buffer : List ℕ) (decl : ℕ) (below : decl < 2 ^ 32) (mem : List ℕ) (b : Bytes mem) (over : Record → Leaf) where
  pub record LeafBack (from : ℕ) (es : List TapeEvent) : Type 0 where
    pub r : Record
    pub held : Held r
    pub bytes : tape_bytes from es ≡ record_bytes r
    pub no-array : r.kind ≡ 1 → ⊥
    pub no-map : r.kind ≡ 3 → ⊥
    pub writes : over r ≡ holds mem

  -- one record
  one-back : (kind w a n : ℕ) → Held (rec_of decl kind w a n) → (kind ≡ 1 → ⊥) → (kind ≡ 3 → ⊥) → over (rec_of decl kind w a n) ≡ holds mem
      → Emits book buffer LeafBack (one (rec (rec_of decl kind w a n)))
  unfolding tape_bytes
  one-back kind w a n h p q e =
      record { emits = λ from s. record { r = rec_of decl kind w a n; held = h; bytes = append-nil (record_bytes (rec_of decl kind w a n)); no-array = p; no-map = q; writes = e } }

  -- an integer that is read and written by the same id
  module _ (id : AdsTypeId) (signed : (w n : ℕ) → over (rec_of decl 7 w 0 n) ≡ integer_by id (integer.Signed w n) mem) (unsigned : (w n : ℕ) → over (rec_of decl 8 w 0 n) ≡ integer_by id (integer.Unsigned w n) mem) where
    integer_writes : (v : Integer) → read.Value v ≡ read_integer id mem → integer_by id v mem ≡ holds mem
    unfolding integer_by integer_after
    integer_writes v e =
        let w = integer_back id mem b v e mem refl in
        let d : write_integer id v mem ≡ write.Done = sym (integer_write_is _ _ w.answer) in
        let q : mem ≡ integer_bytes id v = rw d at w.buffer in
        rw d (ap holds (sym q))

    integer_goes : Emits book buffer LeafBack (trace_of decl (leaves.integer_leaf (read_integer id mem)) mem)
    unfolding leaves.integer_leaf integer_read_numbers
    integer_goes = by (read_integer id mem) refl (read_fine book mem b id)
      where
        by : (r : IntegerRead) → r ≡ read_integer id mem → FineValue book (leaves.integer_leaf r) → Emits book buffer LeafBack (trace_of decl (leaves.integer_leaf r) mem)
        by (read.Value (integer.Signed w n)) e f =
            let x = f.fine in
            let m = x.most in
            one-back 7 w 0 n (held_of decl 7 w 0 n below (omega arith) (omega arith) (omega arith) (rw x.is (bits_small x.number))) (λ z. omega arith) (λ z. omega arith) (signed w n ∙ integer_writes (integer.Signed w n) e)
        by (read.Value (integer.Unsigned w n)) e f =
            let x = f.fine in
            let m = x.most in
            let l = x.small in
            let o : 2 ^ (8 * w) ≤ 2 ^ 64 = pow_most w m in
            one-back 8 w 0 n (held_of decl 8 w 0 n below (omega arith) (omega arith) (omega arith) (omega arith)) (λ z. omega arith) (λ z. omega arith) (unsigned w n ∙ integer_writes (integer.Unsigned w n) e)
        by read.Size e f = record { emits = tt }
        by read.Unsupported e f = record { emits = tt }

module _ (book buffer : List ℕ) (decl : ℕ) (below : decl < 2 ^ 32) (width t : ℕ) (mem : List ℕ) (b : Bytes mem) (k : Target) where
  abbrev BackBy : ℕ → List TapeEvent → Type 0
  BackBy = LeafBack book buffer decl below mem b (λ r. leaf_write_by book width t k r buffer mem)

  pub record Goes (v : LeafValue) : Type 0 where
    pub goes : leaf_kept book t mem v ≡ true → Emits book buffer BackBy (trace_of decl v mem)

  goes-refused : (n : ℕ) → Goes (value.Refused n)
  goes-refused n = record { goes = λ h. record { emits = tt } }

  goes-cond : (x : Bool) (v w : LeafValue) → (x ≡ true → Goes v) → (x ≡ false → Goes w) → Goes (cond x v w)
  goes-cond true v w p q = p refl
  goes-cond false v w p q = q refl

  -- one record
  goes_one : (kind w a n : ℕ) → Held (rec_of decl kind w a n) → (kind ≡ 1 → ⊥) → (kind ≡ 3 → ⊥) → leaf_write_by book width t k (rec_of decl kind w a n) buffer mem ≡ holds mem
      → Emits book buffer BackBy (one (rec (rec_of decl kind w a n)))
  goes_one = one-back book buffer decl below mem b (λ r. leaf_write_by book width t k r buffer mem)

  -- ---- integers

  module _ (id : AdsTypeId) (same : (v : Integer) → integer_write book width t v mem k ≡ integer_by id v mem) where
    goes_integer : Goes (leaves.integer_leaf (read_integer id mem))
    unfolding leaf_write_by
    goes_integer = record {
      goes = λ h. integer_goes book buffer decl below mem b (λ r. leaf_write_by book width t k r buffer mem) id (λ w n. same (integer.Signed w n)) (λ w n. same (integer.Unsigned w n));
    }

  -- ---- reals

  real_writes : (d : Bool) (n : ℕ) → type_id_of book t ≡ real_id d → n ≡ le_value mem → length mem ≡ real_bytes d → real_write book t d n mem ≡ holds mem
  unfolding real_write
  real_writes d n e q l =
      let z : le_bytes (real_bytes d) n ≡ mem = rw (← l, q) (le_bytes-le_value mem b) in
      rw (eq-eqb (type_id_of book t) (real_id d) e) (exactly-back (le_bytes (real_bytes d) n) mem z)

  module _ (d : type_id_of book t ≡ 4) (l : length mem ≡ 4) where
    single-goes : (n : ℕ) → n ≡ le_value mem → n < 2 ^ 32 → Emits book buffer BackBy (one (rec (rec_of decl 9 0 0 n)))
    unfolding leaf_write_by
    single-goes n q s = goes_one 9 0 0 n (held_of decl 9 0 0 n below (omega arith) (omega arith) (omega arith) (omega arith)) (λ z. omega arith) (λ z. omega arith) (real_writes false n d q l)

    goes-single : Goes (leaves.real_leaf (real_of false (le_value mem)))
    unfolding real_of single_of
    goes-single = by (nan_bits binary32 (le_value mem % 2 ^ 32)) (single-back (le_value mem % 2 ^ 32) (rw small s))
      where
        s : le_value mem < 2 ^ 32
        s = le_value-below 4 mem b (omega (arith, l))

        small : le_value mem % 2 ^ 32 ≡ le_value mem
        small = mod-eq_of_lt s

        by : (x : Bool) → real_bits (cond x (real.NanSingle (le_value mem % 2 ^ 32)) (real.Single (of_bits binary32 (le_value mem % 2 ^ 32)))) ≡ le_value mem % 2 ^ 32
            → Goes (leaves.real_leaf (cond x (real.NanSingle (le_value mem % 2 ^ 32)) (real.Single (of_bits binary32 (le_value mem % 2 ^ 32)))))
        by true e = record { goes = λ h. single-goes _ small (rw small s) }
        by false e = record { goes = λ h. single-goes _ (e ∙ small) (rw (e, small) s) }

  module _ (d : type_id_of book t ≡ 5) (l : length mem ≡ 8) where
    double-goes : (n : ℕ) → n ≡ le_value mem → n < 2 ^ 64 → Emits book buffer BackBy (one (rec (rec_of decl 10 0 0 n)))
    unfolding leaf_write_by
    double-goes n q s = goes_one 10 0 0 n (held_of decl 10 0 0 n below (omega arith) (omega arith) (omega arith) (omega arith)) (λ z. omega arith) (λ z. omega arith) (real_writes true n d q l)

    goes-double : Goes (leaves.real_leaf (real_of true (le_value mem)))
    unfolding real_of double_of
    goes-double = by (nan_bits binary64 (le_value mem)) (double-back (le_value mem) s)
      where
        s : le_value mem < 2 ^ 64
        s = le_value-below 8 mem b (omega (arith, l))

        by : (x : Bool) → real_bits (cond x (real.NanDouble (le_value mem)) (real.Double (of_bits binary64 (le_value mem)))) ≡ le_value mem
            → Goes (leaves.real_leaf (cond x (real.NanDouble (le_value mem)) (real.Double (of_bits binary64 (le_value mem)))))
        by true e = record { goes = λ h. double-goes _ refl s }
        by false e = record { goes = λ h. double-goes _ e (rw e s) }

  goes_real : (other : LeafValue) → Goes other → Goes (leaves.real_or (read_real (id_of (type_id_of book t)) mem) other)
  unfolding read_real leaves.real_or real_read_numbers
  goes_real other p = four (eqb (type_id_of book t) 4) refl
    where
      single : type_id_of book t ≡ 4 → (x : Bool) → eqb (length mem) 4 ≡ x → Goes (leaves.real_or (cond x (real_read.Value (real_of false (le_value mem))) real_read.Size) other)
      single e true q = goes-single e (eqb-true (length mem) 4 q)
      single e false q = goes-refused 10

      double : type_id_of book t ≡ 5 → (x : Bool) → eqb (length mem) 8 ≡ x → Goes (leaves.real_or (cond x (real_read.Value (real_of true (le_value mem))) real_read.Size) other)
      double e true q = goes-double e (eqb-true (length mem) 8 q)
      double e false q = goes-refused 10

      five : (x : Bool) → eqb (type_id_of book t) 4 ≡ false → eqb (type_id_of book t) 5 ≡ x → Goes (leaves.real_or (read_real (id_of (type_id_of book t)) mem) other)
      five true f e = let q = eqb-true (type_id_of book t) 5 e in rw (q, five_real) (double q (eqb (length mem) 8) refl)
      five false f e = rw (no_real (type_id_of book t) f e) p

      four : (x : Bool) → eqb (type_id_of book t) 4 ≡ x → Goes (leaves.real_or (read_real (id_of (type_id_of book t)) mem) other)
      four true e = let q = eqb-true (type_id_of book t) 4 e in rw (q, four_real) (single q (eqb (length mem) 4) refl)
      four false e = five (eqb (type_id_of book t) 5) e refl

  -- ---- bool

  one_byte : (xs : List ℕ) → length xs ≡ 1 → get_or xs 0 0 ∷ [] ≡ xs
  one_byte [] l = absurd (omega (arith, l))
  one_byte (x ∷ []) l = refl
  one_byte (x ∷ y ∷ xs) l = absurd (omega (arith, l))

  bool-byte : (x : ℕ) → x ≤ 1 → cond (eqb (cond (not (eqb x 0)) 1 0) 0) 0 1 ≡ x
  bool-byte zero l = refl
  bool-byte (suc zero) l = refl
  bool-byte (suc (suc n)) l = absurd (omega arith)

  bool-held : (x : Bool) → Held (rec_of decl 6 0 0 (cond x 1 0))
  bool-held true = held_of decl 6 0 0 1 below (omega arith) (omega arith) (omega arith) (omega arith)
  bool-held false = held_of decl 6 0 0 0 below (omega arith) (omega arith) (omega arith) (omega arith)

  goes-bool : type_id_of book t ≡ 33 → Goes (leaves.bool_leaf mem)
  unfolding leaves.bool_leaf leaf_kept leaf_write_by bool_write
  goes-bool d =
      goes-cond (eqb (length mem) 1) _ _ (λ l. record {
        goes = λ h.
            goes_one 6 0 0 (cond (not (eqb (get_or mem 0 0) 0)) 1 0) (bool-held (not (eqb (get_or mem 0 0) 0))) (λ z. omega arith) (λ z. omega arith)
            (rw (eq-eqb (type_id_of book t) 33 d)
            (exactly-back _ mem
            (ap (λ (x : ℕ). x ∷ []) (bool-byte (get_or mem 0 0) (leb-true (get_or mem 0 0) 1 h)) ∙ one_byte mem (eqb-true (length mem) 1 l))));
      }) (λ l. goes-refused 10)

  -- ---- text

  padded-back : (enc : List ℕ) (n least : ℕ) → enc ≡ take n mem → zeros_after n least mem ≡ true → padded enc least mem ≡ holds mem
  unfolding padded zeros_after
  padded-back enc n least e h =
      let l = leb-true (n + least) (length mem) (and_parts (leb (n + least) (length mem)) _ h).0 in
      let z : drop n mem ≡ replicate (length mem - n) 0 = same_eq _ _ (and_parts (leb (n + least) (length mem)) _ h).1 in
      let q : length enc ≡ n = ap length e ∙ length-take-le n mem (omega arith) in
      let y : leb (length enc + least) (length mem) ≡ true = le-leb (length enc + least) (length mem) (omega (arith, q, l)) in
      rw (y, q, ← z, e) (ap holds (take-append-drop n mem))

  module _ (small : length buffer < 2 ^ 64) (other : k ≡ target.Other) where
    record-text : (w from : ℕ) (xs : List ℕ) → Stands buffer from xs → record_text book buffer (rec_of decl 11 w from (length xs)) ≡ xs
    unfolding record_text text_part
    record-text w from xs s =
        rw (le-leb (from + length xs) (length buffer) s.inside) (ap (take (length xs)) s.is ∙ take-append_seam xs s.rest)

    goes-one-text : (w : ℕ) (xs : List ℕ) → w ≤ 1 → text_by (type_id_of book t) (flag_of book t 5) xs mem ≡ holds mem → Emits book buffer BackBy (one (text w decl xs))
    unfolding tape_bytes text_bytes leaf_write_by text_write
    goes-one-text w xs o e =
        record {
          emits = λ from s.
              let u : Stands buffer from xs = rw append-nil at s in
              let l = u.inside in
              record {
                r = rec_of decl 11 w from (length xs);
                held = held_of decl 11 w from (length xs) below (omega arith) (omega arith) (omega arith) (omega arith);
                bytes = append-nil (record_bytes (rec_of decl 11 w from (length xs)));
                no-array = λ z. omega arith;
                no-map = λ z. omega arith;
                writes = rw (other, record-text w from xs u) e;
              };
        }

    narrow_back : (n : ℕ) → type_id_of book t ≡ 30 → flag_of book t 5 ≡ false → zeros_after n 1 mem ≡ true
        → text_by (type_id_of book t) (flag_of book t 5) (decoded_by decoder.Windows1252 (take n mem)) mem ≡ holds mem
    unfolding text_by string_bytes decoded_by
    narrow_back n e m h = rw (e, m) (padded-back _ n 1 (encode_decode (take n mem) (record { each = bytes_take n mem b })) h)

    marked-back : (n : ℕ) → type_id_of book t ≡ 30 → flag_of book t 5 ≡ true → zeros_after n 1 mem ≡ true → well_formed (take n mem) ≡ true
        → text_by (type_id_of book t) (flag_of book t 5) (decoded_by decoder.Utf8 (take n mem)) mem ≡ holds mem
    unfolding text_by string_bytes decoded_by
    marked-back n e m h q = rw (e, m) (padded-back _ n 1 (text-formed (take n mem) q) h)

    wide_back : (n : ℕ) → type_id_of book t ≡ 31 → zeros_after n 2 mem ≡ true → is_whole (take n mem) ≡ true
        → text_by (type_id_of book t) (flag_of book t 5) (decoded_by decoder.Utf16 (take n mem)) mem ≡ holds mem
    unfolding text_by decoded_by is_whole
    wide_back n e h q = rw e (padded-back _ n 2 (wide-again (take n mem) (bytes_take n mem b) q) h)

    goes_narrow : (end : TextEnd) → type_id_of book t ≡ 30 → flag_of book t 5 ≡ false → Goes (value.Text decoder.Windows1252 end)
    unfolding leaf_kept text_kept
    goes_narrow end e m = record { goes = λ h. goes-one-text _ _ (end-small end) (narrow_back (ends_at end) e m h) }

    goes-marked : (end : TextEnd) → type_id_of book t ≡ 30 → flag_of book t 5 ≡ true → Goes (value.Text decoder.Utf8 end)
    unfolding leaf_kept text_kept
    goes-marked end e m =
        record {
          goes = λ h.
              goes-one-text _ _ (end-small end) (marked-back (ends_at end) e m (and_parts (zeros_after (ends_at end) 1 mem) _ h).0 (and_parts (zeros_after (ends_at end) 1 mem) _ h).1);
        }

    -- a STRING, by its mark
    goes_string : type_id_of book t ≡ 30 → (m : Bool) → flag_of book t 5 ≡ m
        → Goes (value.Text (cond m decoder.Utf8 decoder.Windows1252) (end_by (cond m decoder.Utf8 decoder.Windows1252) mem))
    goes_string e true m = goes-marked _ e m
    goes_string e false m = goes_narrow _ e m

    goes-wide : (end : TextEnd) → type_id_of book t ≡ 31 → Goes (value.Text decoder.Utf16 end)
    unfolding leaf_kept text_kept
    goes-wide end e =
        record {
          goes = λ h.
              goes-one-text _ _ (end-small end) (wide_back (ends_at end) e (and_parts (zeros_after (ends_at end) 2 mem) _ h).0 (and_parts (zeros_after (ends_at end) 2 mem) _ h).1);
        }

    goes-text : (type_id_of book t ≡ 30) ⊎ (type_id_of book t ≡ 31) → Goes (leaves.text_leaf book t mem)
    unfolding leaves.text_leaf leaves.decoder_of
    goes-text h =
        goes-cond (eqb (length mem) (size_of book t)) _ _
        (λ l. ⊎_elim
        (λ e. rw e (goes_string e (flag_of book t 5) refl))
        (λ e. rw e (goes-wide _ e))
        h)
        (λ l. goes-refused 10)

  -- ---- entry

  module _ (few : blocks book ≤ 65536) (enum : k ≡ target.Enum) (l : length mem ≡ size_of book t) where
    entry-back : (f : Option ℕ) → entry_kept book mem f ≡ true → entry_by book mem f ≡ holds mem
    unfolding entry_kept entry_by
    entry-back (Some m) h = exactly-back (value_of book m) mem (same_eq (value_of book m) mem h)
    entry-back None h = different cc

    name-text : (n : ℕ) → n < blocks book → record_text book buffer (rec_of decl 12 0 n 0) ≡ name_of book n
    unfolding record_text name_in
    name-text n i = rw (lt-ltb n 65536 (omega (arith, i, few)))

    goes-entry : (n : ℕ) → n < blocks book → Goes (value.Entry n)
    unfolding leaf_kept leaf_write_by enum_write entry_leaf
    goes-entry n i =
        record {
          goes = λ h.
              goes_one 12 0 n 0 (held_of decl 12 0 n 0 below (omega arith) (omega arith) (omega (arith, i, few)) (omega arith)) (λ z. omega arith) (λ z. omega arith)
              (rw (enum, name-text n i, eq-eqb (length mem) (size_of book t) l) (entry-back (entry_named book t (name_of book n)) h));
        }

    goes-found : (f : Option ℕ) (other : LeafValue) → FineValue book (entry_or f other) → Goes other → Goes (entry_or f other)
    goes-found (Some n) other x p = goes-entry n x.fine.inside
    goes-found None other x p = p

  goes-unlisted : (r : IntegerRead) → Goes (unlisted r)
  unfolding unlisted integer_read_numbers
  goes-unlisted (read.Value v) = goes-refused 12
  goes-unlisted read.Size = goes-refused 10
  goes-unlisted read.Unsupported = goes-refused 11

  goes-enum : blocks book ≤ 65536 → k ≡ target.Enum → FineValue book (leaves.enum_leaf book t mem) → Goes (leaves.enum_leaf book t mem)
  unfolding leaves.enum_leaf
  goes-enum few e f = by (eqb (length mem) (size_of book t)) refl f
    where
      by : (x : Bool) → eqb (length mem) (size_of book t) ≡ x
          → FineValue book (cond x (entry_or (entry_from book mem (t + 1 + fields_of book t) (entries_of book t)) (unlisted (read_integer (id_of (type_id_of book t)) mem))) (value.Refused 10))
          → Goes (cond x (entry_or (entry_from book mem (t + 1 + fields_of book t) (entries_of book t)) (unlisted (read_integer (id_of (type_id_of book t)) mem))) (value.Refused 10))
      by true q f =
          goes-found few e (eqb-true (length mem) (size_of book t) q) (entry_from book mem (t + 1 + fields_of book t) (entries_of book t))
          (unlisted (read_integer (id_of (type_id_of book t)) mem)) f (goes-unlisted (read_integer (id_of (type_id_of book t)) mem))
      by false q f = goes-refused 10

  -- ---- numbers and pointers

  goes_number : k ≡ target.Other → Goes (leaves.number_leaf book t mem)
  unfolding leaves.number_leaf integer_write
  goes_number e =
      goes-cond (eqb (type_id_of book t) 33) _ _ (λ d. goes-bool (eqb-true (type_id_of book t) 33 d))
      (λ d. goes_real _ (goes_integer (id_of (type_id_of book t)) (λ v. rw e)))

  goes_pointer : k ≡ target.Pointer → Goes (leaves.pointer_leaf width mem)
  unfolding leaves.pointer_leaf integer_write pointer_write
  goes_pointer e =
      goes-cond (eqb width 2) _ _ (λ p. goes_integer UInt16 (λ v. rw (e, p)))
      (λ p. goes-cond (eqb width 4) _ _ (λ q. goes_integer UInt32 (λ v. rw (e, p, q)))
      (λ q. goes-cond (eqb width 8) _ _ (λ r. goes_integer UInt64 (λ v. rw (e, p, q, r))) (λ r. goes-refused 13)))

-- ---- a leaf, by its category

module _ (book buffer : List ℕ) (small : length buffer < 2 ^ 64) (valid : ValidBook book) (decl : ℕ) (below : decl < 2 ^ 32) (width t : ℕ) (y : is_type book t ≡ true) (mem : List ℕ) (b : Bytes mem) where
  abbrev GoesAs : AdsTypeCategory → Type 0
  GoesAs c = Goes book buffer decl below width t mem b (target_of c) (leaves.kind_leaf book width t mem (kind_of_leaf c))

  unit-goes : (k : Target) → Goes book buffer decl below width t mem b k value.Unit
  unfolding leaf_kept
  unit-goes k = record { goes = λ h. different cc }

  by-category : (c : AdsTypeCategory) → category_of book width t ≡ c → GoesAs c
  unfolding leaves.kind_leaf
  by-category category.None e = unit-goes _
  by-category category.Primitive e = goes_number book buffer decl below width t mem b _ refl
  by-category category.Alias e = goes-refused book buffer decl below width t mem b _ 11
  by-category category.Enum e = goes-enum book buffer decl below width t mem b _ (valid-size book valid).few refl (enum-fine book mem b valid width t y)
  by-category category.Array e = goes-refused book buffer decl below width t mem b _ 11
  by-category category.Struct e = goes-refused book buffer decl below width t mem b _ 11
  by-category category.FunctionBlock e = goes-refused book buffer decl below width t mem b _ 11
  by-category category.Program e = goes-refused book buffer decl below width t mem b _ 11
  by-category category.Function e = goes-refused book buffer decl below width t mem b _ 11
  by-category category.SubRange e = goes_number book buffer decl below width t mem b _ refl
  by-category category.String e = goes-text book buffer decl below width t mem b _ small refl (text_id book width t e)
  by-category category.Bitset e = goes_number book buffer decl below width t mem b _ refl
  by-category category.Pointer e = goes_pointer book buffer decl below width t mem b _ refl
  by-category category.Union e = goes-refused book buffer decl below width t mem b _ 11
  by-category category.Reference e = goes_pointer book buffer decl below width t mem b _ refl
  by-category category.Interface e = goes_pointer book buffer decl below width t mem b _ refl

  -- a count of time: by its own width
  count-cond : (n : ℕ) (x : Bool) (v w : LeafValue)
      → (x ≡ true → Emits book buffer (LeafBack book buffer decl below mem b (λ r. count_leaf n r mem)) (trace_of decl v mem))
      → (x ≡ false → Emits book buffer (LeafBack book buffer decl below mem b (λ r. count_leaf n r mem)) (trace_of decl w mem))
      → Emits book buffer (LeafBack book buffer decl below mem b (λ r. count_leaf n r mem)) (trace_of decl (cond x v w) mem)
  count-cond n true v w p q = p refl
  count-cond n false v w p q = q refl

  count-goes : (n : ℕ) → Emits book buffer (LeafBack book buffer decl below mem b (λ r. count_leaf n r mem)) (trace_of decl (leaves.pointer_leaf n mem) mem)
  unfolding leaves.pointer_leaf pointer_write count_leaf
  count-goes n =
      count-cond n (eqb n 2) _ _ (λ p. integer_goes book buffer decl below mem b (λ r. count_leaf n r mem) UInt16 (λ w m. rw p) (λ w m. rw p))
      (λ p. count-cond n (eqb n 4) _ _ (λ q. integer_goes book buffer decl below mem b (λ r. count_leaf n r mem) UInt32 (λ w m. rw (p, q)) (λ w m. rw (p, q)))
      (λ q. count-cond n (eqb n 8) _ _ (λ s. integer_goes book buffer decl below mem b (λ r. count_leaf n r mem) UInt64 (λ w m. rw (p, q, s)) (λ w m. rw (p, q, s))) (λ s. record { emits = tt })))

  by_count : (c : AdsTypeCategory) → GoesAs c → (n : ℕ) (x : Bool)
      → leaf_kept book t mem (cond x (leaves.kind_leaf book width t mem (kind_of_leaf c)) (leaves.pointer_leaf n mem)) ≡ true
      → Emits book buffer (LeafBack book buffer decl below mem b (λ r. cond x (leaf_write_by book width t (target_of c) r buffer mem) (count_leaf n r mem)))
      (trace_of decl (cond x (leaves.kind_leaf book width t mem (kind_of_leaf c)) (leaves.pointer_leaf n mem)) mem)
  by_count c g n true h = g.goes h
  by_count c g n false h = count-goes n

  pub leaf-back : leaf_kept book t mem (leaf_at book width t mem) ≡ true
      → Emits book buffer (LeafBack book buffer decl below mem b (λ r. leaf_for book width t (category_of book width t) r buffer mem)) (trace_of decl (leaf_at book width t mem) mem)
  unfolding leaf_at leaves.leaf_by leaf_for
  leaf-back h =
      by_count (category_of book width t) (by-category (category_of book width t) refl) (count_width book t (category_of book width t)) (eqb (count_width book t (category_of book width t)) 0) h
