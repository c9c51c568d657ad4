-- `resolve_fields` meets its contract. Assumes nothing.
use Rattle.resolvers.proofs.Calls.{root-cut, root-book, root-type}
use Rattle.resolve_field_types.proofs.Records.{fields-refused, fields-root}
use Rattle.type_book_check.proofs.Numbers.{root_is}
use Rattle.resolve_field_types.proofs.resolve_fields.Goals as goal

ruleset exits = (fields-refused, fields-root, root_is)

pub slice_bounds-fill_fields-end : goal.slice_bounds-fill_fields-end
slice_bounds-fill_fields-end c = search (root-cut, root_is)

pub fill_fields-requires : goal.fill_fields-requires
fill_fields-requires c = (search (root-book, root_is), search (root-type, root_is))

pub returns-in-Root : goal.returns-in-Root
returns-in-Root c = search exits

pub returns-in-Refused : goal.returns-in-Refused
returns-in-Refused c = search exits
