use native.Mathlib.Omega.{arith}
use Rattle.type_order.proofs.Ranks.{decided-apart}
use Rattle.type_order.proofs.decide_in.Goals as goal

pub returns-then-all_ranked : goal.returns-then-all_ranked
returns-then-all_ranked c = decided-apart _ _ _ _ c.in-None.ensures (omega arith) _ c.all_ranked.ensures c.if-all_ranked.true
