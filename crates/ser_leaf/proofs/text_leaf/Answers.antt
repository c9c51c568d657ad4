use Rattle.ser_leaf.proofs.Leaves.{text-enum, text-id}
use Rattle.ser_leaf.proofs.text_leaf.Goals as goal

ruleset exits = (text-enum, text-id)

pub returns-in-Enum : goal.returns-in-Enum
returns-in-Enum c = search exits

pub returns-in_default : goal.returns-in_default
returns-in_default c = search exits
