-- `missing_types_named` meets its contract. Assumes nothing.
use Rattle.type_book_check.proofs.Givens.{given_is, named-cut, named-book, named-type}
use Rattle.resolve_missing_types.proofs.Givens.{given_missing_refused, given_missing_lacking, given_missing_block}
use Rattle.resolve_missing_types.proofs.missing_types_named.Goals as goal

ruleset exits = (given_missing_refused, given_missing_lacking, given_missing_block, given_is)

pub slice_bounds-missing_at-end : goal.slice_bounds-missing_at-end
slice_bounds-missing_at-end c = search (named-cut, given_is)

pub missing_at-requires : goal.missing_at-requires
missing_at-requires c = (search (named-book, given_is), search (named-type, given_is))

pub returns-in-Block : goal.returns-in-Block
returns-in-Block c = search exits

pub returns-in-Lacking : goal.returns-in-Lacking
returns-in-Lacking c = search exits

pub returns-in-Refused : goal.returns-in-Refused
returns-in-Refused c = search exits
