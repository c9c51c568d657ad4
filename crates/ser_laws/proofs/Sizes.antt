-- A leaf that is written is as long as what there was. Assumes nothing.
use Rattle.std.specs.Prelude.{Option, Some, None}
use mathlib.Core.Path.{◌≡◌, refl, sym, ◌∙◌}
use mathlib.Core.Bool.{Bool, true, false, cond, ◌&&◌}
use mathlib.Core.List.{List}
use Prim.Native.Nat.{ℕ, ◌+◌}
use native.Mathlib.Omega.{arith}
use borrow.Author.Tests.{eqb-true, leb-true}
use lib.ListN.{length, length-append, length-replicate}
use lib.Dec.{eqb, leb}
use Rattle.enc_number.proofs.ByteOrder.{length-le_bytes}
use Rattle.type_book.specs.Book.{size_of, type_id_of}
use Rattle.type_id.specs.declared.AdsTypeId.{AdsTypeId}
use Rattle.type_id.specs.declared.AdsTypeId.TheVariants.{UInt16, UInt32, UInt64}
use Rattle.type_id.specs.TypeId.{id_width}
use Rattle.enc_integer.specs.Integer.{integer_write_numbers, integer_value, fits_id, write_integer, integer_bytes}
use Rattle.enc_integer.specs.declared.Integer.{Integer}
use Rattle.enc_integer.specs.declared.IntegerWrite.TheVariants as write
use Rattle.ser_named_blocks.specs.Named.{entry_named}
use Rattle.tape.specs.Text.{record_text}
use Rattle.type_category.specs.declared.type_category.AdsTypeCategory.{AdsTypeCategory}
use Rattle.time_types.specs.Counts.{count_width}
use Rattle.tape.specs.declared.record.Record.{Record}
use Rattle.ser_leaf.specs.declared.Target.{Target}
use Rattle.ser_leaf.specs.declared.Target.TheVariants as target
use Rattle.ser_leaf.specs.Leaf.{Leaf, holds, refused, exactly, bool_write, real_id, real_write, integer_end, integer_by, pointer_write, integer_write, entry_by, entry_leaf, enum_write, padded, text_by, text_write, leaf_write_by, target_of, count_leaf, leaf_for}

abbrev SizedBy : List ℕ → Leaf → Type 0
SizedBy old (holds bs) = length bs ≡ length old
SizedBy old (refused n) = Unit {0}

pub record Sized (old : List ℕ) (l : Leaf) : Type 0 where
  pub sized : SizedBy old l

sized-refused : (old : List ℕ) (n : ℕ) → Sized old (refused n)
sized-refused old n = record { sized = tt }

-- a test that leads to bytes, else a refusal
sized_if : (old bs : List ℕ) (n : ℕ) (b : Bool) → (b ≡ true → length bs ≡ length old) → Sized old (cond b (holds bs) (refused n))
sized_if old bs n true h = record { sized = h refl }
sized_if old bs n false h = sized-refused old n

sized-cond : (old : List ℕ) (b : Bool) (x y : Leaf) → Sized old x → Sized old y → Sized old (cond b x y)
sized-cond old true x y p q = p
sized-cond old false x y p q = q

module _ (old : List ℕ) where
  sized-exactly : (bs : List ℕ) → Sized old (exactly bs old)
  unfolding exactly
  sized-exactly bs = sized_if old bs 10 (eqb (length bs) (length old)) (eqb-true (length bs) (length old))

  integer_end_lem : (b c d : Bool) (bs : List ℕ) → (d ≡ true → length bs ≡ length old)
      → Sized old (integer_end (cond b write.Unsupported (cond c (cond d write.Done write.Size) write.OutOfRange)) bs)
  unfolding integer_write_numbers
  integer_end_lem true c d bs h = sized-refused old 17
  integer_end_lem false true true bs h = record { sized = h refl }
  integer_end_lem false true false bs h = sized-refused old 10
  integer_end_lem false false d bs h = sized-refused old 19

  sized_integer : (id : AdsTypeId) (v : Integer) → Sized old (integer_by id v old)
  unfolding integer_by write_integer integer_bytes
  sized_integer id v =
      integer_end_lem (eqb (id_width id) 0) (fits_id id (integer_value v)) (eqb (length old) (id_width id)) _
      (λ h. length-le_bytes (id_width id) _ ∙ sym (eqb-true (length old) (id_width id) h))

  sized_pointer : (width : ℕ) (v : Integer) → Sized old (pointer_write width v old)
  unfolding pointer_write
  sized_pointer width v =
      sized-cond old (eqb width 2) _ _ (sized_integer UInt16 v)
      (sized-cond old (eqb width 4) _ _ (sized_integer UInt32 v)
      (sized-cond old (eqb width 8) _ _ (sized_integer UInt64 v) (sized-refused old 13)))

  sized-padded : (bs : List ℕ) (zeros : ℕ) → Sized old (padded bs zeros old)
  unfolding padded
  sized-padded bs zeros =
      sized_if old _ 10 (leb (length bs + zeros) (length old)) (λ h.
      let l = leb-true (length bs + zeros) (length old) h in
      simp (length-append, length-replicate) (omega (arith, l)))

  sized-text-by : (id : ℕ) (marked : Bool) (text : List ℕ) → Sized old (text_by id marked text old)
  unfolding text_by
  sized-text-by id marked text =
      sized-cond old (eqb id 30) _ _ (sized-padded _ 1) (sized-cond old (eqb id 31) _ _ (sized-padded _ 2) (sized-refused old 17))

  module _ (book : List ℕ) (width t : ℕ) where
    sized-bool : (b : ℕ) → Sized old (bool_write book t b old)
    unfolding bool_write
    sized-bool b = sized-cond old (eqb (type_id_of book t) 33) _ _ (sized-exactly _) (sized-refused old 17)

    sized_real : (is-double : Bool) (b : ℕ) → Sized old (real_write book t is-double b old)
    unfolding real_write
    sized_real is-double b = sized-cond old (eqb (type_id_of book t) (real_id is-double)) _ _ (sized-exactly _) (sized-refused old 17)

    sized-number : (v : Integer) (k : Target) → Sized old (integer_write book width t v old k)
    unfolding integer_write
    sized-number v target.Pointer = sized_pointer width v
    sized-number v target.Enum = sized_integer _ v
    sized-number v target.Other = sized_integer _ v

    sized-found : (f : Option ℕ) → Sized old (entry_by book old f)
    unfolding entry_by
    sized-found (Some n) = sized-exactly _
    sized-found None = sized-refused old 18

    sized-entry : (name : List ℕ) → Sized old (entry_leaf book t name old)
    unfolding entry_leaf
    sized-entry name = sized-cond old (eqb (length old) (size_of book t)) _ _ (sized-found (entry_named book t name)) (sized-refused old 10)

    sized-enum : (name : List ℕ) (k : Target) → Sized old (enum_write book t name old k)
    unfolding enum_write
    sized-enum name target.Enum = sized-entry name
    sized-enum name target.Pointer = sized-refused old 17
    sized-enum name target.Other = sized-refused old 17

    sized-text : (text : List ℕ) (k : Target) → Sized old (text_write book t text old k)
    unfolding text_write
    sized-text text target.Enum = sized-entry text
    sized-text text target.Pointer = sized-text-by _ _ text
    sized-text text target.Other = sized-text-by _ _ text

    sized-leaf : (k : Target) (r : Record) (text : List ℕ) → Sized old (leaf_write_by book width t k r text old)
    unfolding leaf_write_by
    sized-leaf k r text =
        sized-cond old (eqb r.kind 6) _ _ (sized-bool r.b)
        (sized-cond old (eqb r.kind 7) _ _ (sized-number _ k)
        (sized-cond old (eqb r.kind 8) _ _ (sized-number _ k)
        (sized-cond old (eqb r.kind 9) _ _ (sized_real false r.b)
        (sized-cond old (eqb r.kind 10) _ _ (sized_real true r.b)
        (sized-cond old (eqb r.kind 11) _ _ (sized-text (record_text book text r) k)
        (sized-cond old (eqb r.kind 12) _ _ (sized-enum (record_text book text r) k)
        (sized-cond old (eqb r.kind 13) _ _ (sized-refused old 17) (sized-refused old 16))))))))

    -- a count of time
    sized-count : (w : ℕ) (r : Record) → Sized old (count_leaf w r old)
    unfolding count_leaf
    sized-count w r =
        sized-cond old (eqb r.kind 7) _ _ (sized_pointer w _)
        (sized-cond old (eqb r.kind 8) _ _ (sized_pointer w _)
        (sized-cond old (leb 6 r.kind && leb r.kind 13) _ _ (sized-refused old 17) (sized-refused old 16)))

    pub sized_for : (c : AdsTypeCategory) (r : Record) (text : List ℕ) → Sized old (leaf_for book width t c r text old)
    unfolding leaf_for
    sized_for c r text = sized-cond old (eqb (count_width book t c) 0) _ _ (sized-leaf (target_of c) r text) (sized-count (count_width book t c) r)
