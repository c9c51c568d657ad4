-- `read` meets its contract. Assumes nothing.
use Rattle.resolvers.proofs.Calls.{root-cut, root-book, root-type}
use Rattle.type_book_check.proofs.Numbers.{root_is}
use Rattle.de.proofs.Wholes.{call_root, call_refused}
use Rattle.de.proofs.deserializer.read.Goals as goal

pub slice_bounds-read_indexed-end : goal.slice_bounds-read_indexed-end
slice_bounds-read_indexed-end c = search (root-cut, root_is)

pub read_indexed-requires : goal.read_indexed-requires
read_indexed-requires c = (search (root-book, root_is), search (root-type, root_is))

pub returns-in-Root : goal.returns-in-Root
returns-in-Root c = search (call_root, root_is)

pub returns-in-Refused : goal.returns-in-Refused
returns-in-Refused c = search (call_refused, root_is)
