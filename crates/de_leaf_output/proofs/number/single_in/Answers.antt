use Rattle.de_leaf_output.proofs.Numbers.{none-tells, single-tells}
use Rattle.de_leaf_output.proofs.number.single_in.Goals as goal

ruleset exits = (none-tells, single-tells)

pub returns-then-bytes-eq4 : goal.returns-then-bytes-eq4
returns-then-bytes-eq4 c = search exits

pub returns : goal.returns
returns c = search exits
