use Rattle.type_order.proofs.Ranks.{rises-one, rises-more, rises-all}
use Rattle.type_order.proofs.first_fall.Goals as goal

pub loop-i-init : goal.loop-i-init
loop-i-init c = search rises-one

pub loop-i-preserved : goal.loop-i-preserved
loop-i-preserved c = search rises-more

pub returns : goal.returns
returns c = search rises-all
