use Rattle.plan_save.proofs.Asks.{no-no, no-other}
use Rattle.plan_save.proofs.is_no.Goals as goal

pub returns-in-No : goal.returns-in-No
returns-in-No c = search no-no

pub returns-in_default : goal.returns-in_default
returns-in_default c = search no-other
