use Rattle.plan_adds.proofs.Fetches.{theirs-is}
use Rattle.plan_adds.proofs.find_theirs.Goals as goal

pub returns : goal.returns
returns c = search theirs-is
