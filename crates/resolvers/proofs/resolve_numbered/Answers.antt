-- `resolve_numbered` meets its contract. Assumes nothing.
use Rattle.resolvers.proofs.Calls.{root-cut, root-book, root-type, call_refused, call_root}
use Rattle.resolvers.proofs.Numbers.{resolution-is, resolution-says}
use Rattle.type_book_check.proofs.Numbers.{root_is}
use Rattle.resolvers.proofs.resolve_numbered.Goals as goal

ruleset exits = (call_refused, call_root, resolution-is, root_is)

pub slice_bounds-resolve_root-end : goal.slice_bounds-resolve_root-end
slice_bounds-resolve_root-end c = search (root-cut, root_is)

pub resolve_root-requires : goal.resolve_root-requires
resolve_root-requires c = (search (root-book, root_is), search (root-type, root_is))

pub returns-in-Root : goal.returns-in-Root
returns-in-Root c = resolution-says _ _ (search exits)

pub returns-in-Refused : goal.returns-in-Refused
returns-in-Refused c = resolution-says _ _ (search exits)
