use Rattle.type_order.specs.Ranks.{RankedTo}
use Rattle.type_order.proofs.all_ranked.Given as goal

abbrev pub invariant-loop-b : goal.invariant-loop-b
invariant-loop-b l = RankedTo l.book l.order l.n l.b
