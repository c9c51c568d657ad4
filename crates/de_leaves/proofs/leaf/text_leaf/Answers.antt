use Rattle.de_leaves.proofs.Leaves.{text-size, text-is}
use Rattle.validators.proofs.Validities.{size_is, size-other}
use Rattle.de_leaves.proofs.leaf.text_leaf.Goals as goal

ruleset exits = (text-size, text-is, size_is, size-other)

pub returns-in_default : goal.returns-in_default
returns-in_default c = search exits

pub returns : goal.returns
returns c = search exits
