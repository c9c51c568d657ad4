use Rattle.de_leaves.proofs.Leaves.{real_single, real_double, real_nan-single, real_nan-double}
use Rattle.de_leaves.proofs.leaf.real_leaf.Goals as goal

ruleset exits = (real_single, real_double, real_nan-single, real_nan-double)

pub returns-in-Single : goal.returns-in-Single
returns-in-Single c = search exits

pub returns-in-Double : goal.returns-in-Double
returns-in-Double c = search exits

pub returns-in-NanSingle : goal.returns-in-NanSingle
returns-in-NanSingle c = search exits

pub returns-in-NanDouble : goal.returns-in-NanDouble
returns-in-NanDouble c = search exits
