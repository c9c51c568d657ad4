use Rattle.ser_leaf.proofs.Leaves.{integer_done, integer_range, integer_size, integer_none}
use Rattle.ser_leaf.proofs.integer_by.Goals as goal

ruleset exits = (integer_done, integer_range, integer_size, integer_none)

pub returns-in-Done : goal.returns-in-Done
returns-in-Done c = search exits

pub returns-in-OutOfRange : goal.returns-in-OutOfRange
returns-in-OutOfRange c = search exits

pub returns-in-Size : goal.returns-in-Size
returns-in-Size c = search exits

pub returns-in-Unsupported : goal.returns-in-Unsupported
returns-in-Unsupported c = search exits
