-- `fill_names` meets its contract. Assumes nothing.
use borrow.Author.Rules.{rules}
use Rattle.type_index.proofs.Entries.{names-start, names-again, names-end}
use Rattle.type_index.proofs.fill_names.Goals as goal

pub loop-i-init : goal.loop-i-init
loop-i-init c = (search rules, search names-start)

pub loop-i-preserved : goal.loop-i-preserved
loop-i-preserved c = (search rules, search names-again)

pub returns : goal.returns
returns c = search names-end
