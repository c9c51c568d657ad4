use Rattle.type_order.proofs.Ranks.{decided_twice}
use Rattle.type_order.proofs.not_rising.Goals as goal

pub returns-then-is_named : goal.returns-then-is_named
returns-then-is_named c = search decided_twice
