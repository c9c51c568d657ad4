use Rattle.de_leaf_output.proofs.Numbers.{none-tells, bool_tells}
use Rattle.de_leaf_output.proofs.number.bool_in.Goals as goal

ruleset exits = (none-tells, bool_tells)

pub returns-then-bytes-eq1 : goal.returns-then-bytes-eq1
returns-then-bytes-eq1 c = search exits

pub returns : goal.returns
returns c = search exits
