-- `was_listed` meets its contract. Assumes nothing.
use Rattle.resolve_walk_scratch.proofs.Places.{bit_in, listed_maybe, listed-not}
use Rattle.resolve_walk_scratch.proofs.was_listed.Goals as goal

pub marked-requires : goal.marked-requires
marked-requires c = search bit_in

pub returns-then-marked : goal.returns-then-marked
returns-then-marked c = search listed_maybe

pub returns-else-marked : goal.returns-else-marked
returns-else-marked c = search listed-not
