-- The numbers of a field's answer, of a check of several, and of the call's answer tell it. Assumes nothing.
use mathlib.Core.Path.{◌≡◌, refl, ap}
use mathlib.Core.List.{[], ◌∷◌}
use Prim.Native.Nat.{ℕ}
use native.Mathlib.Omega.{arith}
use lib.ListN.{length}
use Rattle.resolve_field_types.specs.declared.ResolvedField.{ResolvedField}
use Rattle.resolve_field_types.specs.declared.FieldAnswer.{FieldAnswer}
use Rattle.resolve_field_types.specs.declared.FieldAnswer.TheVariants as answer
use Rattle.resolve_field_types.specs.declared.FieldsCheck.{FieldsCheck}
use Rattle.resolve_field_types.specs.declared.FieldsCheck.TheVariants as check
use Rattle.resolve_field_types.specs.declared.FieldsAnswer.{FieldsAnswer}
use Rattle.resolve_field_types.specs.declared.FieldsAnswer.TheVariants as fields
use Rattle.resolve_field_types.specs.Fields.{field_numbers, check_numbers}
use Rattle.resolve_field_types.specs.Calls.{fields_numbers}

-- fields of the same parts are the same
same : (x y : ResolvedField) → x.offset ≡ y.offset → x.size ≡ y.size → x.named ≡ y.named → x.resolved ≡ y.resolved → x.field ≡ y.field → x ≡ y
same x y o s n r f =
    let e : ◌≡◌ {A = ResolvedField} (record { offset = x.offset; size = x.size; named = x.named; resolved = x.resolved; field = x.field })
    (record { offset = y.offset; size = y.size; named = y.named; resolved = y.resolved; field = y.field }) = rw (o, s, n, r, f) in
    e

-- answers of the same numbers are the same
pub field_is : (r a : FieldAnswer) → field_numbers r ≡ field_numbers a → r ≡ a
unfolding field_numbers
field_is (answer.Field x) (answer.Field y) e = ap answer.Field (same x y (cc) (cc) (cc) (cc) (cc))
field_is (answer.Field x) (answer.NotFound c) e = absurd (let z : ◌≡◌ {A = ℕ} 0 7 = cc in omega arith)
field_is (answer.Field x) answer.TooLong e = absurd (let z : ◌≡◌ {A = ℕ} 0 8 = cc in omega arith)
field_is (answer.NotFound b) (answer.Field y) e = absurd (let z : ◌≡◌ {A = ℕ} 7 0 = cc in omega arith)
field_is (answer.NotFound b) (answer.NotFound c) e = let q : b ≡ c = cc in ap answer.NotFound q
field_is (answer.NotFound b) answer.TooLong e = absurd (let z : ◌≡◌ {A = ℕ} 7 8 = cc in omega arith)
field_is answer.TooLong (answer.Field y) e = absurd (let z : ◌≡◌ {A = ℕ} 8 0 = cc in omega arith)
field_is answer.TooLong (answer.NotFound c) e = absurd (let z : ◌≡◌ {A = ℕ} 8 7 = cc in omega arith)
field_is answer.TooLong answer.TooLong e = refl

-- the same answer has the same numbers
pub field-says : (r a : FieldAnswer) → r ≡ a → field_numbers r ≡ field_numbers a
field-says r a e = ap field_numbers e

-- the numbers of a field whose type the book lacks, and of one whose chain is too long
pub field-lacks : (b : ℕ) → field_numbers (answer.NotFound b) ≡ 7 ∷ b ∷ []
unfolding field_numbers
field-lacks b = refl

pub field-long : field_numbers answer.TooLong ≡ 8 ∷ []
unfolding field_numbers
field-long = refl

-- checks of the same numbers are the same
pub check-is : (r a : FieldsCheck) → check_numbers r ≡ check_numbers a → r ≡ a
unfolding check_numbers
check-is check.Fine check.Fine e = refl
check-is check.Fine (check.NotFound c) e = absurd (let z : ◌≡◌ {A = ℕ} 0 7 = cc in omega arith)
check-is check.Fine check.TooLong e = absurd (let z : ◌≡◌ {A = ℕ} 0 8 = cc in omega arith)
check-is (check.NotFound b) check.Fine e = absurd (let z : ◌≡◌ {A = ℕ} 7 0 = cc in omega arith)
check-is (check.NotFound b) (check.NotFound c) e = let q : b ≡ c = cc in ap check.NotFound q
check-is (check.NotFound b) check.TooLong e = absurd (let z : ◌≡◌ {A = ℕ} 7 8 = cc in omega arith)
check-is check.TooLong check.Fine e = absurd (let z : ◌≡◌ {A = ℕ} 8 0 = cc in omega arith)
check-is check.TooLong (check.NotFound c) e = absurd (let z : ◌≡◌ {A = ℕ} 8 7 = cc in omega arith)
check-is check.TooLong check.TooLong e = refl

-- the same check has the same numbers
pub check-says : (r a : FieldsCheck) → r ≡ a → check_numbers r ≡ check_numbers a
check-says r a e = ap check_numbers e

-- the numbers of a check that found such a field
pub check-lacks : (b : ℕ) → check_numbers (check.NotFound b) ≡ 7 ∷ b ∷ []
unfolding check_numbers
check-lacks b = refl

pub check-long : check_numbers check.TooLong ≡ 8 ∷ []
unfolding check_numbers
check-long = refl

-- the call's answers of the same numbers are the same
pub fields-is : (r a : FieldsAnswer) → fields_numbers r ≡ fields_numbers a → r ≡ a
unfolding fields_numbers
fields-is (fields.Done n) (fields.Done m) e = let q : n ≡ m = cc in ap fields.Done q
fields-is (fields.Done n) (fields.NotFound c) e = absurd (let z : ◌≡◌ {A = ℕ} 0 7 = cc in omega arith)
fields-is (fields.Done n) (fields.Refused m) e = absurd (let z : ◌≡◌ {A = ℕ} 2 1 = ap length e in omega arith)
fields-is (fields.NotFound b) (fields.Done m) e = absurd (let z : ◌≡◌ {A = ℕ} 7 0 = cc in omega arith)
fields-is (fields.NotFound b) (fields.NotFound c) e = let q : b ≡ c = cc in ap fields.NotFound q
fields-is (fields.NotFound b) (fields.Refused m) e = absurd (let z : ◌≡◌ {A = ℕ} 2 1 = ap length e in omega arith)
fields-is (fields.Refused n) (fields.Done m) e = absurd (let z : ◌≡◌ {A = ℕ} 1 2 = ap length e in omega arith)
fields-is (fields.Refused n) (fields.NotFound c) e = absurd (let z : ◌≡◌ {A = ℕ} 1 2 = ap length e in omega arith)
fields-is (fields.Refused n) (fields.Refused m) e = let q : n ≡ m = cc in ap fields.Refused q

-- the same answer has the same numbers
pub fields-says : (r a : FieldsAnswer) → r ≡ a → fields_numbers r ≡ fields_numbers a
fields-says r a e = ap fields_numbers e
