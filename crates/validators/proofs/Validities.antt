-- What the definitions of validators.rs come to, which the crates above cite. Assumes nothing.
use mathlib.Core.Path.{◌≡◌, refl, sym, ap, ◌∙◌}
use mathlib.Core.Bool.{Bool, true, false, cond, ◌&&◌}
use mathlib.Core.List.{List}
use Prim.Native.Nat.{ℕ, zero, suc}
use native.Mathlib.Omega.{arith}
use lib.ListN.{length}
use lib.Dec.{eqb}
use borrow.Author.Tests.{eqb-true, eq-eqb}
use Rattle.type_id.specs.declared.AdsTypeId.{AdsTypeId}
use Rattle.type_id.specs.declared.AdsTypeId.TheVariants as id
use Rattle.type_id.specs.TypeId.{id_of, number_of}
use Rattle.type_id.proofs.TypeIds.{named}
use Rattle.validators.specs.declared.Validity.{Validity}
use Rattle.validators.specs.declared.Validity.TheVariants.{Valid, TypeMismatch, SizeMismatch}
use Rattle.validators.specs.Validate.{validity_refusal, unknown_of, same_id, size_refusal}

-- a refusal's number tells the answer
pub refusal-only : (r s : Validity) → validity_refusal r ≡ validity_refusal s → r ≡ s
refusal-only Valid Valid e = refl
refusal-only Valid TypeMismatch e = absurd (omega arith)
refusal-only Valid SizeMismatch e = absurd (omega arith)
refusal-only TypeMismatch Valid e = absurd (omega arith)
refusal-only TypeMismatch TypeMismatch e = refl
refusal-only TypeMismatch SizeMismatch e = absurd (omega arith)
refusal-only SizeMismatch Valid e = absurd (omega arith)
refusal-only SizeMismatch TypeMismatch e = absurd (omega arith)
refusal-only SizeMismatch SizeMismatch e = refl

-- a type id by its number and by whether it is named
by_number : ℕ → ℕ → AdsTypeId
by_number zero n = id_of n
by_number (suc k) n = id.Unknown n

made : (a : AdsTypeId) → a ≡ by_number (unknown_of a) (number_of a)
unfolding by_number
made id.Void = named id.Void tt (number_of id.Void) refl
made id.Int16 = named id.Int16 tt (number_of id.Int16) refl
made id.Int32 = named id.Int32 tt (number_of id.Int32) refl
made id.Real32 = named id.Real32 tt (number_of id.Real32) refl
made id.Real64 = named id.Real64 tt (number_of id.Real64) refl
made id.Int8 = named id.Int8 tt (number_of id.Int8) refl
made id.UInt8 = named id.UInt8 tt (number_of id.UInt8) refl
made id.UInt16 = named id.UInt16 tt (number_of id.UInt16) refl
made id.UInt32 = named id.UInt32 tt (number_of id.UInt32) refl
made id.Int64 = named id.Int64 tt (number_of id.Int64) refl
made id.UInt64 = named id.UInt64 tt (number_of id.UInt64) refl
made id.String = named id.String tt (number_of id.String) refl
made id.WString = named id.WString tt (number_of id.WString) refl
made id.Real80 = named id.Real80 tt (number_of id.Real80) refl
made id.Bit = named id.Bit tt (number_of id.Bit) refl
made id.MaxTypes = named id.MaxTypes tt (number_of id.MaxTypes) refl
made id.BigType = named id.BigType tt (number_of id.BigType) refl
made (id.Unknown k) = refl

module _ (a b : AdsTypeId) where
  both : (s t : Bool) → s && t ≡ true → (s ≡ true) × (t ≡ true)
  both true t e = (refl, e)
  both false t e = let z : ◌≡◌ {A = ℕ} 0 1 = cc in absurd (omega arith)

  -- same_id is equality
  pub same_id_lem : same_id a b ≡ true → a ≡ b
  unfolding same_id
  same_id_lem e =
      let parts = both (eqb (number_of a) (number_of b)) (eqb (unknown_of a) (unknown_of b)) e in
      let n : number_of a ≡ number_of b = eqb-true (number_of a) (number_of b) parts.0 in
      let u : unknown_of a ≡ unknown_of b = eqb-true (unknown_of a) (unknown_of b) parts.1 in
      made a ∙ rw (n, u) (sym (made b))

  pub id_same : a ≡ b → same_id a b ≡ true
  unfolding same_id
  id_same e = rw (eq-eqb (number_of a) (number_of b) (ap number_of e), eq-eqb (unknown_of a) (unknown_of b) (ap unknown_of e))

-- what a test of a size tells its caller, whichever way `let Validity::Valid = validate_exact_size(..) else { .. };` goes
module _ (r : Validity) (bytes : List ℕ) (expected : ℕ) (e : validity_refusal r ≡ size_refusal bytes expected) where
  sized : (t : Bool) → validity_refusal Valid ≡ cond t 0 10 → t ≡ true
  sized true q = refl
  sized false q = absurd (omega arith)

  -- Valid: there are as many bytes as expected
  pub size_is : r ≡ Valid → length bytes ≡ expected
  unfolding size_refusal
  size_is h = eqb-true (length bytes) expected (sized (eqb (length bytes) expected) (sym (ap validity_refusal h) ∙ e))

  other : (r : Validity) → (r ≡ Valid → ⊥) → validity_refusal r ≡ 0 → ⊥
  other Valid k q = k refl
  other TypeMismatch k q = omega arith
  other SizeMismatch k q = omega arith

  -- any other answer: there are not
  pub size-other : (r ≡ Valid → ⊥) → length bytes ≡ expected → ⊥
  unfolding size_refusal
  size-other k h = other r k (e ∙ rw (eq-eqb (length bytes) expected h))
