-- `expand` meets its contract. Assumes nothing.
use Rattle.resolve_walk_scratch.proofs.Places.{type_bit}
use Rattle.resolve_walk_scratch.proofs.Stacks.{grow}
use Rattle.resolve_walk_scratch.proofs.expand.Goals as goal

pub mark-requires : goal.mark-requires
mark-requires c = search type_bit

pub returns : goal.returns
returns c = search grow
