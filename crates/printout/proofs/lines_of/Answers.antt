use Rattle.printout.proofs.Exits.{of_done, of_lacks, of_refused}
use Rattle.printout.proofs.lines_of.Goals as goal

ruleset exits = (of_done, of_lacks, of_refused)

pub returns-in-Done : goal.returns-in-Done
returns-in-Done c = search exits

pub returns-in-NotFound : goal.returns-in-NotFound
returns-in-NotFound c = search exits

pub returns-in-Refused : goal.returns-in-Refused
returns-in-Refused c = search exits
