-- `checked_fields` meets its contract. Assumes nothing.
use Rattle.resolve_field_records.proofs.Named.{checked-cut, checked-book, checked-type, checked_refused, checked-lacking, checked-block}
use Rattle.resolve_field_records.proofs.checked_fields.Goals as goal

ruleset exits = (checked_refused, checked-lacking, checked-block)

pub slice_bounds-fields_answer-end : goal.slice_bounds-fields_answer-end
slice_bounds-fields_answer-end c = search checked-cut

pub fields_answer-requires : goal.fields_answer-requires
fields_answer-requires c = (search checked-book, search checked-type)

pub returns-in-Block : goal.returns-in-Block
returns-in-Block c = search exits

pub returns-in-Lacking : goal.returns-in-Lacking
returns-in-Lacking c = search exits

pub returns-in-Refused : goal.returns-in-Refused
returns-in-Refused c = search exits
