-- `fill_held` meets its contract. Assumes nothing.
use borrow.Author.Rules.{rules}
use Rattle.type_index_held.proofs.Fills.{filling_start, filling_again, fill-all, fill-some}
use Rattle.type_index_held.proofs.fill_held.Goals as goal

pub loop-i-init : goal.loop-i-init
loop-i-init c = (search rules, search filling_start)

pub loop-i-preserved : goal.loop-i-preserved
loop-i-preserved c = (search rules, search filling_again)

pub returns-then-all : goal.returns-then-all
returns-then-all c = search fill-all

pub returns-else-all : goal.returns-else-all
returns-else-all c = search fill-some
