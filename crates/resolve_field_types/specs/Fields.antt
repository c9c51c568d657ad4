-- The types of fields, by look-ups in a type book (document 01, "resolvers.rs"; refusals 7 and 8). Assumes nothing.
use Rattle.std.specs.Prelude.{◌≡◌, true, List, [], ◌∷◌, ℕ, zero, suc, ◌+◌, Option, Some, None}
use Rattle.enc_number.specs.Refusals as refusal
use Rattle.type_book.specs.Book.{is_type, offset_of, size_of, fields_of, type_name_of}
use Rattle.type_provider.specs.Find.{find}
use Rattle.resolvers.specs.declared.Resolved.{Resolved}
use Rattle.resolvers.specs.declared.Resolved.TheVariants.{Base, NotFound, TooLong}
use Rattle.resolvers.specs.Resolve.{resolve_alias}
use Rattle.resolve_field_types.specs.declared.ResolvedField.{ResolvedField}
use Rattle.resolve_field_types.specs.declared.FieldAnswer.{FieldAnswer}
use Rattle.resolve_field_types.specs.declared.FieldAnswer.TheVariants as answer
use Rattle.resolve_field_types.specs.declared.FieldsCheck.{FieldsCheck}
use Rattle.resolve_field_types.specs.declared.FieldsCheck.TheVariants as check

-- ---- document 01's number and values

-- of what a field's type comes to: 0 and the field's offset, size, named block, resolved block and own block, 7 and the block whose type
-- name is not found, or 8
unfoldable pub field_numbers : FieldAnswer → List ℕ
field_numbers (answer.Field x) = 0 ∷ x.offset ∷ x.size ∷ x.named ∷ x.resolved ∷ x.field ∷ []
field_numbers (answer.NotFound b) = refusal.not_found ∷ b ∷ []
field_numbers answer.TooLong = refusal.chain_too_long ∷ []

-- of the first refusal of several fields, 0 where there is none
unfoldable pub check_numbers : FieldsCheck → List ℕ
check_numbers check.Fine = 0 ∷ []
check_numbers (check.NotFound b) = refusal.not_found ∷ b ∷ []
check_numbers check.TooLong = refusal.chain_too_long ∷ []

-- ---- one field

-- field block f, whose type name was found at block n, by what that block comes to
unfoldable pub field_of : List ℕ → ℕ → ℕ → Resolved → FieldAnswer
field_of book f n (Base u) =
    answer.Field (record { offset = offset_of book f; size = size_of book f; named = n; resolved = u; field = f })
field_of book f n (NotFound c) = answer.NotFound c
field_of book f n TooLong = answer.TooLong

-- field block f, by what the look-up of its type name found; nothing is 7 with block f
unfoldable pub field_found : List ℕ → ℕ → ℕ → Option ℕ → FieldAnswer
field_found book width f (Some n) = field_of book f n (resolve_alias book width n)
field_found book width f None = answer.NotFound f

-- field block f: its offset and size as they stand, and its type, with aliases resolved
unfoldable pub resolve_field : List ℕ → ℕ → ℕ → FieldAnswer
resolve_field book width f = field_found book width f (find book (type_name_of book f))

-- the answer of resolving field block f, whose resolved type is a type block where there is one
pub record FieldResolved (book : List ℕ) (width f : ℕ) (r : FieldAnswer) : Type 0 where
  pub is : field_numbers r ≡ field_numbers (resolve_field book width f)
  pub typed : (x : ResolvedField) → r ≡ answer.Field x → is_type book x.resolved ≡ true

-- ---- several fields

-- a field's refusal comes before what the fields after it give
unfoldable pub field_then : FieldsCheck → FieldAnswer → FieldsCheck
field_then rest (answer.Field x) = rest
field_then rest (answer.NotFound c) = check.NotFound c
field_then rest answer.TooLong = check.TooLong

-- the first refusal of the k field blocks from block f on
unfoldable pub fields_from : List ℕ → ℕ → ℕ → ℕ → FieldsCheck
fields_from book width f zero = check.Fine
fields_from book width f (suc k) = field_then (fields_from book width (f + 1) k) (resolve_field book width f)

-- the first refusal of the fields of type block t
unfoldable pub fields_check : List ℕ → ℕ → ℕ → FieldsCheck
fields_check book width t = fields_from book width (t + 1) (fields_of book t)
