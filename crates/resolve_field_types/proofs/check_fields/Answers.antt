use Rattle.resolvers.proofs.Calls.{root-cut, root-book, root-type}
use Rattle.type_book_check.proofs.Numbers.{root_is}
use Rattle.resolve_field_types.proofs.Numbers.{fields-says}
use Rattle.resolve_field_types.proofs.Records.{check-refused, check-at}
use Rattle.resolve_field_types.proofs.check_fields.Goals as goal

ruleset exits = (check-refused, check-at, root_is)

pub slice_bounds-fields_answer-end : goal.slice_bounds-fields_answer-end
slice_bounds-fields_answer-end c = search (root-cut, root_is)

pub fields_answer-requires : goal.fields_answer-requires
fields_answer-requires c = (search (root-book, root_is), search (root-type, root_is))

pub returns-in-Root : goal.returns-in-Root
returns-in-Root c = fields-says _ _ (search exits)

pub returns-in-Refused : goal.returns-in-Refused
returns-in-Refused c = fields-says _ _ (search exits)
