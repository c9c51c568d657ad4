-- `settle` meets its contract. Assumes nothing.
use Rattle.resolve_walk_events.proofs.Settles.{settle_own}
use Rattle.type_category.proofs.Numbers.{category-is}
use Rattle.resolve_walk_events.proofs.settle.Goals as goal

pub returns : goal.returns
returns c = search (settle_own, category-is)
