-- `record_of` meets its contract. Assumes nothing.
use Rattle.resolve_field_records.proofs.Stored.{record-field, record-none}
use Rattle.resolve_field_records.proofs.record_of.Goals as goal

pub returns-in-Field : goal.returns-in-Field
returns-in-Field c = search record-field

pub returns-in_default : goal.returns-in_default
returns-in_default c = search record-none
