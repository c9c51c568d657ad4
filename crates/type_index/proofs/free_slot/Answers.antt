-- `free_slot` meets its contract. Assumes nothing.
use borrow.Author.Rules.{rules}
use Rattle.type_index.proofs.Entries.{free-empty, free-start, free-end, free-here, free-again}
use Rattle.type_index.proofs.free_slot.Goals as goal

pub returns-then-slots-eq0 : goal.returns-then-slots-eq0
returns-then-slots-eq0 c = search free-empty

pub loop-init : goal.loop-init
loop-init c = (search free-start, search rules, search rules)

pub returns-then-index-at-eq0 : goal.returns-then-index-at-eq0
returns-then-index-at-eq0 c = search free-here

pub loop-preserved : goal.loop-preserved
loop-preserved c = (search free-again, search rules, search rules)

pub returns : goal.returns
returns c = search free-end
