-- `read_named` meets its contract. Assumes nothing.
use Rattle.type_book_check.proofs.Givens.{given_is, named-cut, named-book, named-type}
use Rattle.de.proofs.Wholes.{given_call_refused, given_call_lacking, given_call_block}
use Rattle.de.proofs.deserializer.read_named.Goals as goal

pub slice_bounds-read_indexed-end : goal.slice_bounds-read_indexed-end
slice_bounds-read_indexed-end c = search (named-cut, given_is)

pub read_indexed-requires : goal.read_indexed-requires
read_indexed-requires c = (search (named-book, given_is), search (named-type, given_is))

pub returns-in-Block : goal.returns-in-Block
returns-in-Block c = search (given_call_block, given_is)

pub returns-in-Lacking : goal.returns-in-Lacking
returns-in-Lacking c = search (given_call_lacking, given_is)

pub returns-in-Refused : goal.returns-in-Refused
returns-in-Refused c = search (given_call_refused, given_is)
