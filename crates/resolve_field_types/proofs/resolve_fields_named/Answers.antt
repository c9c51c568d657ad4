-- `resolve_fields_named` meets its contract. Assumes nothing.
use Rattle.type_book_check.proofs.Givens.{given_is, named-cut, named-book, named-type}
use Rattle.resolve_field_types.proofs.Records.{given-fields-refused, given-fields-lacking, given-fields-block}
use Rattle.resolve_field_types.proofs.resolve_fields_named.Goals as goal

ruleset exits = (given-fields-refused, given-fields-lacking, given-fields-block, given_is)

pub slice_bounds-fill_fields-end : goal.slice_bounds-fill_fields-end
slice_bounds-fill_fields-end c = search (named-cut, given_is)

pub fill_fields-requires : goal.fill_fields-requires
fill_fields-requires c = (search (named-book, given_is), search (named-type, given_is))

pub returns-in-Block : goal.returns-in-Block
returns-in-Block c = search exits

pub returns-in-Lacking : goal.returns-in-Lacking
returns-in-Lacking c = search exits

pub returns-in-Refused : goal.returns-in-Refused
returns-in-Refused c = search exits
