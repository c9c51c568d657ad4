use Rattle.ser_leaf.proofs.Leaves.{real_id_lem, real_done, real_size_lem}
use Rattle.ser_leaf.proofs.real_leaf.Goals as goal

ruleset exits = (real_id_lem, real_done, real_size_lem)

pub returns-then-id_number-real_id : goal.returns-then-id_number-real_id
returns-then-id_number-real_id c = search exits

pub returns-in-Done : goal.returns-in-Done
returns-in-Done c = search exits

pub returns-in-Size : goal.returns-in-Size
returns-in-Size c = search exits
