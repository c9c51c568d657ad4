use Rattle.ser.proofs.Exits.{end-here, end-other, end_none}
use Rattle.ser.proofs.serializer.end.Goals as goal

ruleset exits = (end-here, end-other, end_none)

pub returns-then-r-kind : goal.returns-then-r-kind
returns-then-r-kind c = search exits

pub returns-else-r-kind : goal.returns-else-r-kind
returns-else-r-kind c = search exits

pub returns-in-None : goal.returns-in-None
returns-in-None c = search exits
