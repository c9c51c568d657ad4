-- Document 01's order of 15, 7 and 8 where fields are resolved. Assumes nothing.
use Rattle.std.specs.Prelude.{None}
use mathlib.Core.Path.{◌≡◌, refl, sym, ◌∙◌}
use mathlib.Core.List.{List}
use Prim.Native.Nat.{ℕ, suc, ◌+◌, ◌-◌, ◌≤◌, ◌<◌}
use native.Mathlib.Omega.{arith}
use Rattle.type_book.specs.Book.{fields_of, type_name_of}
use Rattle.type_provider.specs.Find.{find}
use Rattle.resolve_field_types.specs.declared.ResolvedField.{ResolvedField}
use Rattle.resolve_field_types.specs.declared.FieldAnswer.TheVariants as answer
use Rattle.resolve_field_types.specs.declared.FieldsCheck.TheVariants as check
use Rattle.resolve_field_types.specs.declared.FieldsAnswer.TheVariants as fields
use Rattle.resolve_field_types.specs.Fields.{resolve_field}
use Rattle.resolve_field_types.specs.Calls.{records_that_fit, fields_answer}
use Rattle.resolve_field_types.proofs.Fields.{field-nothing, fields-more, fields-lacks, fields-none}
use Rattle.resolve_field_types.proofs.Records.{answer-lacks, answer-short}

-- resolving fields tests each record's room before its field is looked up: with no room it is 15, whatever the first field; with room for
-- one record it is 7 if the first field's type is missing, and 15 if the first field resolves, whatever the second
module _ (book : List ℕ) (width t room : ℕ) where
  pub no_room_lem : 0 < fields_of book t → room < 1 → fields_answer book width t room ≡ fields.Refused 15
  no_room_lem h l =
      let f : 0 ≡ records_that_fit (fields_of book t) room = omega arith in
      sym (answer-short book width t room (fields_of book t) refl 0 f check.Fine (sym (fields-none book width (t + 1))) refl h)

  pub first_missing : 0 < fields_of book t → 1 ≤ room → find book (type_name_of book (t + 1)) ≡ None
      → fields_answer book width t room ≡ fields.NotFound (t + 1)
  first_missing h l e =
      let k : ℕ = records_that_fit (fields_of book t) room - 1 in
      let f : suc k ≡ records_that_fit (fields_of book t) room = omega arith in
      sym
      (answer-lacks book width t room (fields_of book t) refl (suc k) f (check.NotFound (t + 1))
      (sym (fields-lacks book width (t + 1) k (t + 1) (field-nothing book width (t + 1) e)))
      (t + 1)
      refl)

  pub room_for_one : (x : ResolvedField) → 1 < fields_of book t → 1 ≤ room → room < 2 → resolve_field book width (t + 1) ≡ answer.Field x
      → fields_answer book width t room ≡ fields.Refused 15
  room_for_one x h l g e =
      let f : 1 ≡ records_that_fit (fields_of book t) room = omega arith in
      sym
      (answer-short book width t room (fields_of book t) refl 1 f check.Fine
      (sym (fields-more book width (t + 1) 0 x e ∙ fields-none book width (t + 1 + 1)))
      refl
      h)
