use Rattle.print_figures.proofs.Joins.{ended-next, ended-full}
use Rattle.print_figures.proofs.put.finish.Goals as goal

pub returns-in-Some : goal.returns-in-Some
returns-in-Some c = search ended-next

pub returns-in-None : goal.returns-in-None
returns-in-None c = search ended-full
