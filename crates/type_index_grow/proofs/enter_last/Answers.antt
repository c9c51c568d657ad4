-- `enter_last` meets its contract. Assumes nothing.
use Rattle.type_index_grow.proofs.Ends.{last_hinted, last-full, last_in}
use Rattle.type_index_grow.proofs.enter_last.Goals as goal

pub returns-then-n-index : goal.returns-then-n-index
returns-then-n-index c = search last_hinted

pub returns-then-index-at : goal.returns-then-index-at
returns-then-index-at c = search last-full

pub returns : goal.returns
returns c = search last_in
