-- `lacking_bit` meets its contract. Assumes nothing.
use Rattle.resolve_walk_scratch.proofs.Places.{bit_is}
use Rattle.resolve_walk_scratch.proofs.lacking_bit.Goals as goal

pub returns : goal.returns
returns c = search bit_is
