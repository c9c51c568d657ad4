use Rattle.ser_leaf.proofs.Leaves.{integer_pointer, integer_id}
use Rattle.ser_leaf.proofs.integer_leaf.Goals as goal

ruleset exits = (integer_pointer, integer_id)

pub returns-in-Pointer : goal.returns-in-Pointer
returns-in-Pointer c = search exits

pub returns-in_default : goal.returns-in_default
returns-in_default c = search exits
