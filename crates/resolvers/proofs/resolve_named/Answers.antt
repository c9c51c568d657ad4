-- `resolve_named` meets its contract. Assumes nothing.
use Rattle.resolvers.proofs.Calls.{given_call_refused, given_call_lacking, given_call_block}
use Rattle.resolvers.proofs.Numbers.{resolution-is, resolution-says}
use Rattle.type_book_check.proofs.Givens.{given_is, named-cut, named-book, named-type}
use Rattle.resolvers.proofs.resolve_named.Goals as goal

ruleset exits = (given_call_refused, given_call_lacking, given_call_block, resolution-is, given_is)

pub slice_bounds-resolve_root-end : goal.slice_bounds-resolve_root-end
slice_bounds-resolve_root-end c = search (named-cut, given_is)

pub resolve_root-requires : goal.resolve_root-requires
resolve_root-requires c = (search (named-book, given_is), search (named-type, given_is))

pub returns-in-Block : goal.returns-in-Block
returns-in-Block c = resolution-says _ _ (search exits)

pub returns-in-Lacking : goal.returns-in-Lacking
returns-in-Lacking c = resolution-says _ _ (search exits)

pub returns-in-Refused : goal.returns-in-Refused
returns-in-Refused c = resolution-says _ _ (search exits)
