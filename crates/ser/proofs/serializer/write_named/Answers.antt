-- `write_named` meets its contract. Assumes nothing.
use Rattle.type_book_check.proofs.Givens.{given_is, named-cut, named-book, named-type, lacking-cut}
use Rattle.ser.proofs.Wholes.{given_call_refused, given_call_lacking, given_call_block}
use Rattle.ser.proofs.serializer.write_named.Goals as goal

pub slice_bounds-write_indexed-end : goal.slice_bounds-write_indexed-end
slice_bounds-write_indexed-end c = search (named-cut, given_is)

pub write_indexed-requires : goal.write_indexed-requires
write_indexed-requires c = (search (named-book, given_is), search (named-type, given_is))

pub slice_bounds-write_lacking-end : goal.slice_bounds-write_lacking-end
slice_bounds-write_lacking-end c = search (lacking-cut, given_is)

pub returns-in-Block : goal.returns-in-Block
returns-in-Block c = search (given_call_block, given_is)

pub returns-in-Lacking : goal.returns-in-Lacking
returns-in-Lacking c = search (given_call_lacking, given_is)

pub returns-in-Refused : goal.returns-in-Refused
returns-in-Refused c = search (given_call_refused, given_is)
