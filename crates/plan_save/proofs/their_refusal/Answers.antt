use Rattle.plan_save.proofs.Asks.{their_number}
use Rattle.plan_save.proofs.their_refusal.Goals as goal

pub returns : goal.returns
returns c = search their_number
