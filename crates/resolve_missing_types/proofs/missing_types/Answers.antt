-- `missing_types` meets its contract. Assumes nothing.
use Rattle.resolvers.proofs.Calls.{root-cut, root-book, root-type}
use Rattle.resolve_missing_types.proofs.Ends.{missing_refused, missing_root}
use Rattle.type_book_check.proofs.Numbers.{root_is}
use Rattle.resolve_missing_types.proofs.missing_types.Goals as goal

ruleset exits = (missing_refused, missing_root, root_is)

pub slice_bounds-missing_at-end : goal.slice_bounds-missing_at-end
slice_bounds-missing_at-end c = search (root-cut, root_is)

pub missing_at-requires : goal.missing_at-requires
missing_at-requires c = (search (root-book, root_is), search (root-type, root_is))

pub returns-in-Root : goal.returns-in-Root
returns-in-Root c = search exits

pub returns-in-Refused : goal.returns-in-Refused
returns-in-Refused c = search exits
