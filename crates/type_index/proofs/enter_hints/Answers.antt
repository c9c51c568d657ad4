-- `enter_hints` meets its contract. Assumes nothing.
use borrow.Author.Rules.{rules}
use Rattle.type_index.proofs.Entries.{hints_start, hints_again, hints_end}
use Rattle.type_index.proofs.enter_hints.Goals as goal

pub loop-i-init : goal.loop-i-init
loop-i-init c = (search rules, search rules, search hints_start)

pub loop-i-preserved : goal.loop-i-preserved
loop-i-preserved c = (search rules, search rules, search hints_again)

pub returns : goal.returns
returns c = search hints_end
