use Rattle.de_leaf_output.proofs.Numbers.{none-tells, double-tells}
use Rattle.de_leaf_output.proofs.number.double_in.Goals as goal

ruleset exits = (none-tells, double-tells)

pub returns-then-bytes-eq8 : goal.returns-then-bytes-eq8
returns-then-bytes-eq8 c = search exits

pub returns : goal.returns
returns c = search exits
