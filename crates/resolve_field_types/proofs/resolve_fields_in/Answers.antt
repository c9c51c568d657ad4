use Rattle.resolve_field_types.proofs.Records.{filled-refused, filled-fine, filled-room, filled-done}
use borrow.Author.Rules.{rules}
use Rattle.resolve_field_types.proofs.resolve_fields_in.Goals as goal

pub store_fields-requires : goal.store_fields-requires
store_fields-requires c = (search rules, search rules, search filled-fine, search filled-room)

pub returns-in-Done : goal.returns-in-Done
returns-in-Done c = search filled-done

pub returns-in_default : goal.returns-in_default
returns-in_default c = search filled-refused
