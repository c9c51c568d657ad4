-- What `resolve_fields` stores in a lent slice of records, for a book that fills the first `len` bytes of a buffer. Assumes nothing.
use Rattle.std.specs.Prelude.{◌≡◌, List, [], ◌∷◌, ◌++◌, ℕ, zero, suc, ◌+◌, ◌≤◌, ◌<◌, ◌^◌, length, take, drop}
use Rattle.type_book_check.specs.Check.{ValidBook}
use Rattle.resolve_field_records.specs.declared.FieldRecord.{FieldRecord}
use Rattle.resolve_field_types.specs.declared.FieldAnswer.{FieldAnswer}
use Rattle.resolve_field_types.specs.declared.FieldAnswer.TheVariants as answer
use Rattle.resolve_field_types.specs.declared.FieldsAnswer.{FieldsAnswer}
use Rattle.resolve_field_types.specs.declared.FieldsAnswer.TheVariants as fields
use Rattle.resolve_field_types.specs.Fields.{resolve_field}
use Rattle.resolve_field_types.specs.Calls.{fields_numbers, root_fields}

-- what `get_or` gives past the end, and the record of a field that is refused, which is never stored
abbrev pub no_record : FieldRecord
no_record = record { offset = 0; size = 0; type_block = 0; field_block = 0 }

-- a field's record: offset, size, resolved type's block, field's block
abbrev pub resolved_record : FieldAnswer → FieldRecord
resolved_record (answer.Field x) = record { offset = x.offset; size = x.size; type_block = x.resolved; field_block = x.field }
resolved_record (answer.NotFound c) = no_record
resolved_record answer.TooLong = no_record

-- the record of field i of the root
abbrev pub record_at : List ℕ → ℕ → ℕ → ℕ → ℕ → FieldRecord
record_at buffer len width root i = resolved_record (resolve_field (take len buffer) width (root + 1 + i))

-- the k records from field i on
unfoldable pub resolved_records_at : List ℕ → ℕ → ℕ → ℕ → ℕ → ℕ → List FieldRecord
resolved_records_at buffer len width root i zero = []
resolved_records_at buffer len width root i (suc k) = record_at buffer len width root i ∷ resolved_records_at buffer len width root (suc i) k

-- field i of the root can be looked up
pub record Resolvable (buffer : List ℕ) (len width root i : ℕ) : Type 0 where
  pub inside : len ≤ length buffer
  pub valid : ValidBook (take len buffer)
  pub number : root + 1 + i < 2 ^ 32

-- each of the first n can be. Of none nothing is asked, so a refusal, which counts none, needs no case of its own
abbrev pub AllResolvable : List ℕ → ℕ → ℕ → ℕ → ℕ → Type 0
AllResolvable buffer len width root n = (i : ℕ) → i < n → Resolvable buffer len width root i

-- how many records an answer stores: those that it counts, none in a refusal
abbrev pub stored_count : FieldsAnswer → ℕ
stored_count (fields.Done n) = n
stored_count (fields.NotFound b) = 0
stored_count (fields.Refused n) = 0

-- the first n records are those of the root's fields, the rest as before
unfoldable pub filled_at : List ℕ → ℕ → ℕ → ℕ → ℕ → List FieldRecord → List FieldRecord
filled_at buffer len width root n before = resolved_records_at buffer len width root 0 n ++ drop n before

-- a success stores the records of the root's fields and leaves the rest; a refusal leaves all
unfoldable pub stored_at : List ℕ → ℕ → ℕ → ℕ → FieldsAnswer → List FieldRecord → List FieldRecord
stored_at buffer len width root (fields.Done n) before = resolved_records_at buffer len width root 0 n ++ drop n before
stored_at buffer len width root (fields.NotFound b) before = before
stored_at buffer len width root (fields.Refused n) before = before

-- what is answered, and what the lent slice of records holds then
pub record StoredIs (buffer : List ℕ) (len width root : ℕ) (before : List FieldRecord) (r : FieldsAnswer) (after : List FieldRecord) : Type 0 where
  pub is : fields_numbers r ≡ fields_numbers (root_fields buffer len width root (length before))
  pub records : after ≡ stored_at buffer len width root (root_fields buffer len width root (length before)) before
