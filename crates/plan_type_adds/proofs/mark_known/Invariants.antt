use Rattle.plan_type_adds.proofs.Knowing.{KnowsTo}
use Rattle.plan_type_adds.proofs.mark_known.Given as goal

abbrev pub invariant-loop-i : goal.invariant-loop-i
invariant-loop-i l = KnowsTo l.controller l.book l.known l.i l.i-end
