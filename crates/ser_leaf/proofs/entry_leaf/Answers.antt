use Rattle.ser_leaf.proofs.Leaves.{entry-size, entry_found, entry-none}
use Rattle.validators.proofs.Validities.{size_is, size-other}
use Rattle.ser_leaf.proofs.entry_leaf.Goals as goal

ruleset exits = (entry-size, entry_found, entry-none, size_is, size-other)

pub returns-in_default : goal.returns-in_default
returns-in_default c = search exits

pub returns-in-Some : goal.returns-in-Some
returns-in-Some c = search exits

pub returns-in-None : goal.returns-in-None
returns-in-None c = search exits
