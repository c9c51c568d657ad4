use Rattle.ser_leaf.proofs.Leaves.{bool_id, bool-size, bool-done, bool-first}
use Rattle.validators.proofs.Validities.{size_is, size-other}
use Rattle.ser_leaf.proofs.bool_leaf.Goals as goal

ruleset exits = (bool_id, bool-size, bool-done, bool-first, size_is, size-other)

pub returns-then-id_number-ne33 : goal.returns-then-id_number-ne33
returns-then-id_number-ne33 c = search exits

pub returns-in_default : goal.returns-in_default
returns-in_default c = search exits

pub bounds-out-0 : goal.bounds-out-0
bounds-out-0 c = search exits

pub returns : goal.returns
returns c = search exits
