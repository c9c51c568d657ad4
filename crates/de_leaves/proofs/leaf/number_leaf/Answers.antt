use mathlib.Core.Path.{refl}
use Rattle.de_leaves.proofs.Leaves.{number-bool, number_real, number_size, number_integer}
use Rattle.enc_integer.proofs.Numbers.{integer_read_is}
use Rattle.enc_float.proofs.Numbers.{real_read_is}
use Rattle.de_leaves.proofs.leaf.number_leaf.Goals as goal

ruleset exits = (number-bool, number_real, number_size, number_integer, refl, integer_read_is, real_read_is)

pub returns-then-to_u32-eq33 : goal.returns-then-to_u32-eq33
returns-then-to_u32-eq33 c = search exits

pub returns-in-Value : goal.returns-in-Value
returns-in-Value c = search exits

pub returns-in-Size : goal.returns-in-Size
returns-in-Size c = search exits

pub returns-in-Unsupported : goal.returns-in-Unsupported
returns-in-Unsupported c = search exits
