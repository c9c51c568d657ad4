use Rattle.ser_leaf.proofs.Leaves.{clear_past, clear_rest}
use Rattle.ser_leaf.proofs.clear_from.Goals as goal

ruleset exits = (clear_past, clear_rest)

pub returns-then-n-out : goal.returns-then-n-out
returns-then-n-out c = search exits

pub returns-else-n-out : goal.returns-else-n-out
returns-else-n-out c = search exits
