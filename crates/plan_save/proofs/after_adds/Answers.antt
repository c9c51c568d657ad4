use Rattle.plan_save.proofs.Asks.{adds_on, adds_lack, adds-full}
use Rattle.plan_save.proofs.after_adds.Goals as goal

ruleset exits = (adds_on, adds_lack, adds-full)

pub returns-in-More : goal.returns-in-More
returns-in-More c = search exits

pub returns-in-NotFound : goal.returns-in-NotFound
returns-in-NotFound c = search exits

pub returns-in-Full : goal.returns-in-Full
returns-in-Full c = search exits
