use Rattle.de_leaves.proofs.Leaves.{bool-size, bool_is, bool-first}
use Rattle.validators.proofs.Validities.{size_is, size-other}
use Rattle.de_leaves.proofs.leaf.bool_leaf.Goals as goal

ruleset exits = (bool-size, bool_is, bool-first, size_is, size-other)

pub returns-in_default : goal.returns-in_default
returns-in_default c = search exits

pub bounds-bytes-0 : goal.bounds-bytes-0
bounds-bytes-0 c = search exits

pub returns : goal.returns
returns c = search exits
