-- `names_it` meets its contract. Assumes nothing.
use Rattle.resolve_walk_scratch.proofs.Places.{names_same, names-other}
use Rattle.resolve_walk_scratch.proofs.names_it.Goals as goal

pub returns-then-same_name : goal.returns-then-same_name
returns-then-same_name c = search names_same

pub returns-else-same_name : goal.returns-else-same_name
returns-else-same_name c = search names-other
