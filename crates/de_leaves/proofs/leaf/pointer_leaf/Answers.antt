use mathlib.Core.Path.{refl}
use Rattle.de_leaves.proofs.Leaves.{pointer_two, pointer_four, pointer_eight, pointer_other}
use Rattle.enc_integer.proofs.Numbers.{integer_read_is}
use Rattle.de_leaves.proofs.leaf.pointer_leaf.Goals as goal

ruleset exits = (pointer_two, pointer_four, pointer_eight, pointer_other, refl, integer_read_is)

pub returns-in-2 : goal.returns-in-2
returns-in-2 c = search exits

pub returns-in-4 : goal.returns-in-4
returns-in-4 c = search exits

pub returns-in-8 : goal.returns-in-8
returns-in-8 c = search exits

pub returns-in_default : goal.returns-in_default
returns-in_default c = search exits
