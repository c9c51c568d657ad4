-- What `resolve_fields` stores in a lent slice of records for a root however it is given, by its number or by its name (change request 5). Assumes nothing.
use Rattle.std.specs.Prelude.{◌≡◌, true, List, ℕ, ◌≤◌, length, take}
use Rattle.type_book.specs.Book.{is_type}
use Rattle.type_book_check.specs.Check.{ValidBook}
use Rattle.type_book_check.specs.Given.{Given, lacking_root, check_given, at_given}
use Rattle.type_book_check.specs.declared.GivenRoot.{GivenRoot}
use Rattle.type_book_check.specs.declared.GivenRoot.TheVariants.{Block, Lacking, Refused}
use Rattle.resolve_field_types.specs.declared.FieldsAnswer.{FieldsAnswer}
use Rattle.resolve_field_types.specs.declared.FieldsAnswer.TheVariants as fields
use Rattle.resolve_field_types.specs.Calls.{fields_numbers, fields_answer, given_fields}
use Rattle.resolve_field_records.specs.declared.FieldRecord.{FieldRecord}
use Rattle.resolve_field_records.specs.Stored.{stored_at}

-- the block that a root stands for, 0 where it stands for none: then no record is stored
abbrev pub root_block : GivenRoot → ℕ
root_block (Block t) = t
root_block Lacking = 0
root_block (Refused n) = 0

-- a block that a checked root stands for is a type block of a valid book, which lies in its buffer
pub record Checked (buffer : List ℕ) (len : ℕ) (root : GivenRoot) : Type 0 where
  pub inside : (t : ℕ) → root ≡ Block t → len ≤ length buffer
  pub valid : (t : ℕ) → root ≡ Block t → ValidBook (take len buffer)
  pub type : (t : ℕ) → root ≡ Block t → is_type (take len buffer) t ≡ true

-- the fields of a checked root: its refusal, 7 with the number of a lacking root, or what its block's fields give
unfoldable pub checked_fields : List ℕ → ℕ → ℕ → GivenRoot → ℕ → FieldsAnswer
checked_fields buffer len width root room = at_given fields.Refused (fields.NotFound lacking_root) (λ t. fields_answer (take len buffer) width t room) root

-- what is answered, and what the lent slice of records holds then. `StoredIs` is its instance for a number
pub record GivenStoredIs (buffer : List ℕ) (len width : ℕ) (root : Given) (before : List FieldRecord) (r : FieldsAnswer) (after : List FieldRecord) : Type 0 where
  pub is : fields_numbers r ≡ fields_numbers (given_fields buffer len width root (length before))
  pub records : after ≡ stored_at buffer len width (root_block (check_given buffer len root)) (given_fields buffer len width root (length before)) before
