use Rattle.plan_save.proofs.Ends.{in_done}
use Rattle.plan_save.proofs.plan_in.Goals as goal

pub returns : goal.returns
returns c = search in_done
