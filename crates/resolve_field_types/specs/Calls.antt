-- The call, over a book that fills the first `len` bytes of a buffer: refusals 1 to 5, or 23, first, then 7, 8 and 15. Assumes nothing.
use Rattle.std.specs.Prelude.{◌≡◌, cond, List, [], ◌∷◌, ◌++◌, ℕ, zero, suc, ◌+◌, ◌/◌, min, length, take, drop, leb}
use Rattle.enc_number.specs.Answer.{refusal_of}
use Rattle.enc_number.specs.Refusals as refusal
use Rattle.type_book.specs.Book.{fields_of}
use Rattle.type_book_check.specs.Check.{check_root, at_root}
use Rattle.type_book_check.specs.Given.{Given, lacking_root, check_given, at_given}
use Rattle.resolve_field_types.specs.declared.FieldAnswer.{FieldAnswer}
use Rattle.resolve_field_types.specs.declared.FieldAnswer.TheVariants as answer
use Rattle.resolve_field_types.specs.declared.FieldsCheck.{FieldsCheck}
use Rattle.resolve_field_types.specs.declared.FieldsCheck.TheVariants as check
use Rattle.resolve_field_types.specs.declared.FieldsAnswer.{FieldsAnswer}
use Rattle.resolve_field_types.specs.declared.FieldsAnswer.TheVariants as fields
use Rattle.resolve_field_types.specs.Fields.{check_numbers, resolve_field, fields_from}

-- document 01's number and value of an answer: 0 and the number of fields, 7 and the block whose type name is not found, or another refusal
unfoldable pub fields_numbers : FieldsAnswer → List ℕ
fields_numbers (fields.Done n) = 0 ∷ n ∷ []
fields_numbers (fields.NotFound b) = refusal.not_found ∷ b ∷ []
fields_numbers (fields.Refused n) = n ∷ []

-- how many of n records fit, where there is room for that many
abbrev pub records_that_fit : ℕ → ℕ → ℕ
records_that_fit n room = min n room

-- after the fields whose records fit: 15 if another record is due
unfoldable pub fields_end : ℕ → ℕ → FieldsCheck → FieldsAnswer
fields_end n room check.Fine = cond (leb n room) (fields.Done n) (fields.Refused refusal.no_room)
fields_end n room (check.NotFound c) = fields.NotFound c
fields_end n room check.TooLong = fields.Refused (refusal_of (check_numbers check.TooLong))

-- the fields of type block t in order, with room for that many records, each record's 15 before its field's 7 or 8: the fields whose records fit are resolved, and at the
-- first whose record does not fit it is 15
unfoldable pub fields_answer : List ℕ → ℕ → ℕ → ℕ → FieldsAnswer
fields_answer book width t room =
    fields_end (fields_of book t) room (fields_from book width (t + 1) (records_that_fit (fields_of book t) room))

-- a record is four numbers: how many records have room in that many numbers
abbrev pub record_room : ℕ → ℕ
record_room numbers = numbers / 4

-- a field's record: offset, size, resolved type's block, field's block
abbrev pub field_record : FieldAnswer → List ℕ
field_record (answer.Field x) = x.offset ∷ x.size ∷ x.resolved ∷ x.field ∷ []
field_record (answer.NotFound c) = []
field_record answer.TooLong = []

-- the records of the k field blocks from block f on
unfoldable pub records_from : List ℕ → ℕ → ℕ → ℕ → List ℕ
records_from book width f zero = []
records_from book width f (suc k) = field_record (resolve_field book width f) ++ records_from book width (f + 1) k

-- the records of the fields of type block t
unfoldable pub field_records : List ℕ → ℕ → ℕ → List ℕ
field_records book width t = records_from book width (t + 1) (fields_of book t)

-- a success stores the new records and leaves the rest; a refusal leaves all
unfoldable pub stored_in : FieldsAnswer → List ℕ → List ℕ → List ℕ
stored_in (fields.Done n) new before = new ++ drop (length new) before
stored_in (fields.NotFound b) new before = before
stored_in (fields.Refused n) new before = before

-- what is answered, and what the lent slice of records holds then
pub record Filled (answer : FieldsAnswer) (new before : List ℕ) (r : FieldsAnswer) (after : List ℕ) : Type 0 where
  pub is : fields_numbers r ≡ fields_numbers answer
  pub records : after ≡ stored_in answer new before

-- the fields of the root block itself, which may be of any category
unfoldable pub root_fields : List ℕ → ℕ → ℕ → ℕ → ℕ → FieldsAnswer
root_fields buffer len width root room =
    at_root fields.Refused (λ t. fields_answer (take len buffer) width t room) (check_root buffer len root)

-- the records of the root block's fields, or none where 1 to 5 refuse
unfoldable pub root_records : List ℕ → ℕ → ℕ → ℕ → List ℕ
root_records buffer len width root = at_root (λ n. []) (field_records (take len buffer) width) (check_root buffer len root)

-- the same for a root however it is given: a name that the book lacks is 7 with the number of a lacking root, before any 15, since there is no field.
-- `root_fields` is its instance for a number
unfoldable pub given_fields : List ℕ → ℕ → ℕ → Given → ℕ → FieldsAnswer
given_fields buffer len width root room =
    at_given fields.Refused (fields.NotFound lacking_root) (λ t. fields_answer (take len buffer) width t room) (check_given buffer len root)

-- the records of its fields, or none where it is lacking or refused
unfoldable pub given_records : List ℕ → ℕ → ℕ → Given → List ℕ
given_records buffer len width root = at_given (λ n. []) [] (field_records (take len buffer) width) (check_given buffer len root)
