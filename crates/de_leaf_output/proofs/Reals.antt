-- A real on the tape: the trace of a type with id Real32 (4) over 4 bytes is one record of kind 9, of Real64 (5) over 8 bytes one of kind 10;
-- B is the little-endian number of the bytes, whatever they are, NaNs included. Assumes nothing.
use mathlib.Core.Path.{◌≡◌, refl, ◌∙◌}
use mathlib.Core.List.{List}
use Prim.Native.Nat.{ℕ, ◌%◌, ◌^◌, ◌<◌}
use native.Mathlib.Omega.{arith}
use lib.ListN.{length}
use Rattle.enc_number.specs.Le.{Bytes, le_value}
use Rattle.enc_number.proofs.ByteOrder.{le_value-below}
use Rattle.type_id.specs.declared.AdsTypeId.TheVariants.{Real32, Real64}
use Rattle.type_id.proofs.TypeIds.{named}
use Rattle.enc_float.specs.Float.{real_bits, single_of, double_of}
use Rattle.enc_float.specs.declared.Real.{Real}
use Rattle.enc_float.proofs.Reals.{single-by, double-by, single-back, double-back, read_single, read_double}
use Rattle.type_book.specs.Book.{type_id_of}
use Rattle.type_category.specs.Category.{category_of}
use Rattle.time_types.specs.Counts.{count_width}
use Rattle.tape.specs.Record.{new_record, declaring}
use Rattle.de_leaves.specs.declared.leaf.LeafKind.TheVariants as kind
use Rattle.de_leaves.specs.Leaf.{kind_of_leaf, real_leaf, real_or, number_leaf, kind_leaf, leaf_by, leaf_at}
use Rattle.de_output.specs.Trace.{rec, one}
use Rattle.de_leaf_output.specs.Leaves.{trace_of}

module _ (m : ℕ) (mem : List ℕ) where
  single_trace : (n : ℕ) → trace_of m (real_leaf (single_of n)) mem ≡ one (rec (declaring m (new_record 9 0 0 (real_bits (single_of n)))))
  single_trace n = single-by (λ (v : Real). trace_of m (real_leaf v) mem ≡ one (rec (declaring m (new_record 9 0 0 (real_bits v))))) (λ m. refl) (λ x. refl) n

  double_trace : (n : ℕ) → trace_of m (real_leaf (double_of n)) mem ≡ one (rec (declaring m (new_record 10 0 0 (real_bits (double_of n)))))
  double_trace n = double-by (λ (v : Real). trace_of m (real_leaf v) mem ≡ one (rec (declaring m (new_record 10 0 0 (real_bits v))))) (λ m. refl) (λ x. refl) n

-- a resolved type t that is read by its id, being no count of time
module _ (book : List ℕ) (width m t : ℕ) (mem : List ℕ) (by-id : kind_of_leaf (category_of book width t) ≡ kind.Number) (no-count : count_width book t (category_of book width t) ≡ 0) (bytes : Bytes mem) where
  by_number : leaf_at book width t mem ≡ number_leaf book t mem
  unfolding leaf_at leaf_by kind_leaf
  by_number = rw (no-count, by-id)

  single-leaf : type_id_of book t ≡ 4 → length mem ≡ 4 → number_leaf book t mem ≡ real_leaf (single_of (le_value mem % 2 ^ 32))
  unfolding number_leaf real_or
  single-leaf e l = rw (e, ← named Real32 tt 4 refl, ← read_single mem l)

  double-leaf : type_id_of book t ≡ 5 → length mem ≡ 8 → number_leaf book t mem ≡ real_leaf (double_of (le_value mem))
  unfolding number_leaf real_or
  double-leaf e l = rw (e, ← named Real64 tt 5 refl, ← read_double mem l)

  pub real32_trace : type_id_of book t ≡ 4 → length mem ≡ 4 → trace_of m (leaf_at book width t mem) mem ≡ one (rec (declaring m (new_record 9 0 0 (le_value mem))))
  real32_trace e l =
      let h : le_value mem < 256 ^ 4 = le_value-below 4 mem bytes (omega arith) in
      let z : le_value mem % 2 ^ 32 ≡ le_value mem = omega arith in
      rw (by_number, single-leaf e l, z) (single_trace m mem (le_value mem) ∙ rw (single-back (le_value mem) (omega arith)))

  pub real64_trace : type_id_of book t ≡ 5 → length mem ≡ 8 → trace_of m (leaf_at book width t mem) mem ≡ one (rec (declaring m (new_record 10 0 0 (le_value mem))))
  real64_trace e l =
      let h : le_value mem < 256 ^ 8 = le_value-below 8 mem bytes (omega arith) in
      rw (by_number, double-leaf e l) (double_trace m mem (le_value mem) ∙ rw (double-back (le_value mem) (omega arith)))
