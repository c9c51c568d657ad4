use Rattle.de_leaves.proofs.Leaves.{entry-start, entry_here, entry-again, entry-none}
use Rattle.de_leaves.proofs.enum_access.find_entry.Goals as goal

pub loop-i-init : goal.loop-i-init
loop-i-init c = search entry-start

pub returns-then-same_name : goal.returns-then-same_name
returns-then-same_name c = search entry_here

pub loop-i-preserved : goal.loop-i-preserved
loop-i-preserved c = search entry-again

pub returns : goal.returns
returns c = search entry-none
