use Rattle.type_order.specs.Ranks.{RisesTo}
use Rattle.type_order.proofs.first_fall.Given as goal

abbrev pub invariant-loop-i : goal.invariant-loop-i
invariant-loop-i l = RisesTo l.book l.order l.i
