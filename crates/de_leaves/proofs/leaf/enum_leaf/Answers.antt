use mathlib.Core.Path.{refl}
use Rattle.de_leaves.proofs.Leaves.{enum-size, enum-found, enum-none}
use Rattle.enc_integer.proofs.Numbers.{integer_read_is}
use Rattle.validators.proofs.Validities.{size_is, size-other}
use Rattle.de_leaves.proofs.leaf.enum_leaf.Goals as goal

ruleset exits = (enum-size, enum-found, enum-none, refl, integer_read_is, size_is, size-other)

pub returns-in_default : goal.returns-in_default
returns-in_default c = search exits

pub returns-in-Some : goal.returns-in-Some
returns-in-Some c = search exits

pub returns-in-None : goal.returns-in-None
returns-in-None c = search exits
