-- `enter_next` meets its contract. Assumes nothing.
use Rattle.type_index_held.proofs.Fills.{enters_other, enters_not, enters_in}
use Rattle.type_index_held.proofs.enter_next.Goals as goal

pub returns-then-not-is_type : goal.returns-then-not-is_type
returns-then-not-is_type c = search enters_other

pub returns-then-index-at : goal.returns-then-index-at
returns-then-index-at c = search enters_not

pub returns : goal.returns
returns c = search enters_in
