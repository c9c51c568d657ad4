-- `requires_read_modify_write` meets its contract. Assumes nothing.
use Rattle.resolvers.proofs.Calls.{root-cut, root-book, root-type}
use Rattle.resolve_read_modify_write.proofs.Ends.{rmw_refused, rmw_root}
use Rattle.type_book_check.proofs.Numbers.{root_is}
use Rattle.resolve_read_modify_write.proofs.requires_read_modify_write.Goals as goal

ruleset exits = (rmw_refused, rmw_root, root_is)

pub slice_bounds-rmw_at-end : goal.slice_bounds-rmw_at-end
slice_bounds-rmw_at-end c = search (root-cut, root_is)

pub rmw_at-requires : goal.rmw_at-requires
rmw_at-requires c = (search (root-book, root_is), search (root-type, root_is))

pub returns-in-Root : goal.returns-in-Root
returns-in-Root c = search exits

pub returns-in-Refused : goal.returns-in-Refused
returns-in-Refused c = search exits
