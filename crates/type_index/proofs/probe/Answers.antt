-- `probe` meets its contract. Assumes nothing.
use borrow.Author.Rules.{rules}
use Rattle.type_index.proofs.Probes.{probe_empty, probe_start, probe_end, probe_free, probe_here, probe_again}
use Rattle.type_index.proofs.probe.Goals as goal

pub returns-then-slots-eq0 : goal.returns-then-slots-eq0
returns-then-slots-eq0 c = search probe_empty

pub loop-init : goal.loop-init
loop-init c = (search probe_start, search rules, search rules)

pub returns-then-slot-eq0 : goal.returns-then-slot-eq0
returns-then-slot-eq0 c = search probe_free

pub returns-in_default : goal.returns-in_default
returns-in_default c = search probe_here

pub loop-preserved : goal.loop-preserved
loop-preserved c = (search probe_again, search rules, search rules)

pub returns : goal.returns
returns c = search probe_end
