-- `requires_read_modify_write_named` meets its contract. Assumes nothing.
use Rattle.type_book_check.proofs.Givens.{given_is, named-cut, named-book, named-type}
use Rattle.resolve_read_modify_write.proofs.Givens.{given_rmw_refused, given_rmw_lacking, given_rmw_block}
use Rattle.resolve_read_modify_write.proofs.requires_read_modify_write_named.Goals as goal

ruleset exits = (given_rmw_refused, given_rmw_lacking, given_rmw_block, given_is)

pub slice_bounds-rmw_at-end : goal.slice_bounds-rmw_at-end
slice_bounds-rmw_at-end c = search (named-cut, given_is)

pub rmw_at-requires : goal.rmw_at-requires
rmw_at-requires c = (search (named-book, given_is), search (named-type, given_is))

pub returns-in-Block : goal.returns-in-Block
returns-in-Block c = search exits

pub returns-in-Lacking : goal.returns-in-Lacking
returns-in-Lacking c = search exits

pub returns-in-Refused : goal.returns-in-Refused
returns-in-Refused c = search exits
