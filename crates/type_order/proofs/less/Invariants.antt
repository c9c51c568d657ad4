use Rattle.type_order.specs.Names.{SameTo}
use Rattle.type_order.proofs.less.Given as goal

abbrev pub invariant-loop-k : goal.invariant-loop-k
invariant-loop-k l = SameTo l.a l.b l.k
