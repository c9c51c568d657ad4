use Rattle.ser_leaf.proofs.Leaves.{enum-enum, enum-other}
use Rattle.ser_leaf.proofs.enum_leaf.Goals as goal

ruleset exits = (enum-enum, enum-other)

pub returns-in-Enum : goal.returns-in-Enum
returns-in-Enum c = search exits

pub returns-in_default : goal.returns-in_default
returns-in_default c = search exits
