use Rattle.type_book_check.proofs.Blocks.{sum-there, place-field, place-entry, place-type}
use borrow.Author.Rules.{rules}
use Rattle.type_book_check.proofs.due_after.Goals as goal

pub field_form-requires : goal.field_form-requires
field_form-requires c = search (sum-there, rules)

pub returns-then-fields-gt0 : goal.returns-then-fields-gt0
returns-then-fields-gt0 c = search place-field

pub entry_form-requires : goal.entry_form-requires
entry_form-requires c = search (sum-there, rules)

pub returns-then-entries-gt0 : goal.returns-then-entries-gt0
returns-then-entries-gt0 c = search place-entry

pub type_form-requires : goal.type_form-requires
type_form-requires c = search (sum-there, rules)

pub returns : goal.returns
returns c = search place-type
