use Rattle.type_order.proofs.Ranks.{ranked_none, ranked_more, ranked_never, ranked_all}
use Rattle.type_order.proofs.all_ranked.Goals as goal

pub loop-b-init : goal.loop-b-init
loop-b-init c = search ranked_none

pub returns-then-not-has_rank : goal.returns-then-not-has_rank
returns-then-not-has_rank c = search ranked_never

pub loop-b-preserved : goal.loop-b-preserved
loop-b-preserved c = search ranked_more

pub returns : goal.returns
returns c = search ranked_all
