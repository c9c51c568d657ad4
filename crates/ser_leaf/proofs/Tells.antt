-- Which numbers the write of a leaf can answer: what holds of 10, 13, 17, 18 and 19, and of 16 where the record is no value, holds of every
-- refusal. Assumes nothing.
use Rattle.std.specs.Prelude.{Option, Some, None}
use mathlib.Core.Path.{◌≡◌, refl}
use mathlib.Core.Logic.{◌⊎◌, inl, inr, ⊎_elim}
use mathlib.Core.Bool.{Bool, true, false, cond, ◌&&◌}
use mathlib.Core.List.{List}
use Prim.Native.Nat.{ℕ, ◌+◌, ◌<◌}
use native.Mathlib.Omega.{arith}
use lib.ListN.{length}
use lib.Dec.{eqb, leb}
use borrow.Author.Tests.{eqb-false, leb-false}
use Rattle.type_id.specs.declared.AdsTypeId.{AdsTypeId}
use Rattle.type_id.specs.declared.AdsTypeId.TheVariants.{UInt16, UInt32, UInt64}
use Rattle.enc_integer.specs.Integer.{write_integer, integer_bytes}
use Rattle.enc_integer.specs.declared.Integer.{Integer}
use Rattle.enc_integer.specs.declared.IntegerWrite.{IntegerWrite}
use Rattle.enc_integer.specs.declared.IntegerWrite.TheVariants as write
use Rattle.enc_integer.proofs.Numbers.{write_range_number, write_size-number, write_unsupported_number}
use Rattle.type_book.specs.Book.{size_of, type_id_of}
use Rattle.ser_named_blocks.specs.Named.{entry_named}
use Rattle.type_category.specs.declared.type_category.AdsTypeCategory.{AdsTypeCategory}
use Rattle.time_types.specs.Counts.{count_width}
use Rattle.tape.specs.declared.record.Record.{Record}
use Rattle.tape.specs.Text.{record_text}
use Rattle.ser_leaf.specs.declared.Target.{Target}
use Rattle.ser_leaf.specs.declared.Target.TheVariants as target
use Rattle.ser_leaf.specs.Leaf.{Leaf, holds, refused, exactly, bool_write, real_id, real_write, integer_end, integer_by, pointer_write, integer_write, entry_by, entry_leaf, enum_write, padded, text_by, text_write, leaf_write_by, target_of, count_leaf, leaf_for}

-- P holds of the number of a leaf that is refused
pub record Tells (P : ℕ → Type 0) (l : Leaf) : Type 0 where
  pub each : (n : ℕ) → l ≡ refused n → P n

module _ (P : ℕ → Type 0) where
  tells-cond : (b : Bool) (x y : Leaf) → Tells P x → Tells P y → Tells P (cond b x y)
  tells-cond true x y p q = p
  tells-cond false x y p q = q

  -- a test whose second way knows that it failed
  tells-test : (n k : ℕ) (x y : Leaf) → Tells P x → ((n ≡ k → ⊥) → Tells P y) → Tells P (cond (eqb n k) x y)
  tells-test n k x y p q = by (eqb n k) refl
    where
      by : (b : Bool) → eqb n k ≡ b → Tells P (cond b x y)
      by true e = p
      by false e = q (eqb-false n k e)

  tells-holds : (bs : List ℕ) → Tells P (holds bs)
  tells-holds bs = record { each = λ n e. absurd (let z : ◌≡◌ {A = ℕ} 0 1 = cc in omega arith) }

  tells-refused : (k : ℕ) → P k → Tells P (refused k)
  tells-refused k p = record { each = λ n e. let z : k ≡ n = cc in rw (← z) p }

  module _ (p10 : P 10) (p13 : P 13) (p17 : P 17) (p18 : P 18) (p19 : P 19) where
    tells-exactly : (bs old : List ℕ) → Tells P (exactly bs old)
    unfolding exactly
    tells-exactly bs old = tells-cond (eqb (length bs) (length old)) _ _ (tells-holds bs) (tells-refused 10 p10)

    tells-end : (w : IntegerWrite) (bs : List ℕ) → Tells P (integer_end w bs)
    tells-end write.Done bs = tells-holds bs
    tells-end write.OutOfRange bs = rw write_range_number (tells-refused 19 p19)
    tells-end write.Size bs = rw write_size-number (tells-refused 10 p10)
    tells-end write.Unsupported bs = rw write_unsupported_number (tells-refused 17 p17)

    tells_integer : (id : AdsTypeId) (v : Integer) (old : List ℕ) → Tells P (integer_by id v old)
    unfolding integer_by
    tells_integer id v old = tells-end (write_integer id v old) (integer_bytes id v)

    tells_pointer : (width : ℕ) (v : Integer) (old : List ℕ) → Tells P (pointer_write width v old)
    unfolding pointer_write
    tells_pointer width v old =
        tells-cond (eqb width 2) _ _ (tells_integer UInt16 v old)
        (tells-cond (eqb width 4) _ _ (tells_integer UInt32 v old)
        (tells-cond (eqb width 8) _ _ (tells_integer UInt64 v old) (tells-refused 13 p13)))

    tells-padded : (bs : List ℕ) (zeros : ℕ) (old : List ℕ) → Tells P (padded bs zeros old)
    unfolding padded
    tells-padded bs zeros old = tells-cond (leb (length bs + zeros) (length old)) _ _ (tells-holds _) (tells-refused 10 p10)

    tells-text-by : (id : ℕ) (marked : Bool) (text old : List ℕ) → Tells P (text_by id marked text old)
    unfolding text_by
    tells-text-by id marked text old = tells-cond (eqb id 30) _ _ (tells-padded _ 1 old) (tells-cond (eqb id 31) _ _ (tells-padded _ 2 old) (tells-refused 17 p17))

    module _ (book : List ℕ) (width t : ℕ) (old : List ℕ) where
      tells-bool : (b : ℕ) → Tells P (bool_write book t b old)
      unfolding bool_write
      tells-bool b = tells-cond (eqb (type_id_of book t) 33) _ _ (tells-exactly _ old) (tells-refused 17 p17)

      tells_real : (is-double : Bool) (b : ℕ) → Tells P (real_write book t is-double b old)
      unfolding real_write
      tells_real is-double b = tells-cond (eqb (type_id_of book t) (real_id is-double)) _ _ (tells-exactly _ old) (tells-refused 17 p17)

      tells-number : (v : Integer) (k : Target) → Tells P (integer_write book width t v old k)
      unfolding integer_write
      tells-number v target.Pointer = tells_pointer width v old
      tells-number v target.Enum = tells_integer _ v old
      tells-number v target.Other = tells_integer _ v old

      tells-found : (f : Option ℕ) → Tells P (entry_by book old f)
      unfolding entry_by
      tells-found (Some n) = tells-exactly _ old
      tells-found None = tells-refused 18 p18

      tells-entry : (name : List ℕ) → Tells P (entry_leaf book t name old)
      unfolding entry_leaf
      tells-entry name = tells-cond (eqb (length old) (size_of book t)) _ _ (tells-found (entry_named book t name)) (tells-refused 10 p10)

      tells-enum : (name : List ℕ) (k : Target) → Tells P (enum_write book t name old k)
      unfolding enum_write
      tells-enum name target.Enum = tells-entry name
      tells-enum name target.Pointer = tells-refused 17 p17
      tells-enum name target.Other = tells-refused 17 p17

      tells-text : (text : List ℕ) (k : Target) → Tells P (text_write book t text old k)
      unfolding text_write
      tells-text text target.Enum = tells-entry text
      tells-text text target.Pointer = tells-text-by _ _ text old
      tells-text text target.Other = tells-text-by _ _ text old

      -- a leaf's record; 16 is told of a record of another kind alone
      pub leaf-tells : (k : Target) (r : Record) (text : List ℕ)
          → ((r.kind ≡ 6 → ⊥) → (r.kind ≡ 7 → ⊥) → (r.kind ≡ 8 → ⊥) → (r.kind ≡ 9 → ⊥) → (r.kind ≡ 10 → ⊥) → (r.kind ≡ 11 → ⊥) → (r.kind ≡ 12 → ⊥) → (r.kind ≡ 13 → ⊥) → P 16)
          → Tells P (leaf_write_by book width t k r text old)
      unfolding leaf_write_by
      leaf-tells k r text p16 =
          tells-test r.kind 6 _ _ (tells-bool r.b) (λ n6.
          tells-test r.kind 7 _ _ (tells-number _ k) (λ n7.
          tells-test r.kind 8 _ _ (tells-number _ k) (λ n8.
          tells-test r.kind 9 _ _ (tells_real false r.b) (λ n9.
          tells-test r.kind 10 _ _ (tells_real true r.b) (λ n10.
          tells-test r.kind 11 _ _ (tells-text (record_text book text r) k) (λ n11.
          tells-test r.kind 12 _ _ (tells-enum (record_text book text r) k) (λ n12.
          tells-test r.kind 13 _ _ (tells-refused 17 p17) (λ n13. tells-refused 16 (p16 n6 n7 n8 n9 n10 n11 n12 n13)))))))))

      -- a count of time
      tells-count : (w : ℕ) (r : Record) → ((r.kind < 6) ⊎ (13 < r.kind) → P 16) → Tells P (count_leaf w r old)
      unfolding count_leaf
      tells-count w r p16 =
          tells-cond (eqb r.kind 7) _ _ (tells_pointer w _ old)
          (tells-cond (eqb r.kind 8) _ _ (tells_pointer w _ old) (by (leb 6 r.kind) refl (leb r.kind 13) refl))
        where
          by : (a : Bool) → leb 6 r.kind ≡ a → (b : Bool) → leb r.kind 13 ≡ b → Tells P (cond (a && b) (refused 17) (refused 16))
          by true e true f = tells-refused 17 p17
          by true e false f = tells-refused 16 (p16 (inr (leb-false _ _ f)))
          by false e b f = tells-refused 16 (p16 (inl (leb-false _ _ e)))

      -- a record of any type
      pub leaf_for_tells : (c : AdsTypeCategory) (r : Record) (text : List ℕ)
          → ((r.kind ≡ 6 → ⊥) → (r.kind ≡ 7 → ⊥) → (r.kind ≡ 8 → ⊥) → (r.kind ≡ 9 → ⊥) → (r.kind ≡ 10 → ⊥) → (r.kind ≡ 11 → ⊥) → (r.kind ≡ 12 → ⊥) → (r.kind ≡ 13 → ⊥) → P 16)
          → Tells P (leaf_for book width t c r text old)
      unfolding leaf_for
      leaf_for_tells c r text p16 =
          tells-cond (eqb (count_width book t c) 0) _ _ (leaf-tells (target_of c) r text p16)
          (tells-count (count_width book t c) r
          (⊎_elim (λ l. p16 (λ e. omega arith) (λ e. omega arith) (λ e. omega arith) (λ e. omega arith) (λ e. omega arith) (λ e. omega arith) (λ e. omega arith) (λ e. omega arith))
          (λ l. p16 (λ e. omega arith) (λ e. omega arith) (λ e. omega arith) (λ e. omega arith) (λ e. omega arith) (λ e. omega arith) (λ e. omega arith) (λ e. omega arith))))
