use Rattle.ser.proofs.Exits.{leaf-done, leaf-not}
use Rattle.ser.proofs.serializer.leaf.Goals as goal

ruleset exits = (leaf-done, leaf-not)

pub returns-in-Done : goal.returns-in-Done
returns-in-Done c = search exits

pub returns-in-Refused : goal.returns-in-Refused
returns-in-Refused c = search exits
