use Rattle.de_leaf_output.proofs.Leaves.{leaf-at}
use Rattle.de_leaves.proofs.Numbers.{leaf-is}
use Rattle.de_leaf_output.proofs.leaf.Goals as goal

pub returns : goal.returns
returns c = search (leaf-at, leaf-is)
