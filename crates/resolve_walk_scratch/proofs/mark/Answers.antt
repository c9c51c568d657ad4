-- `mark` meets its contract. Assumes nothing.
use Rattle.resolve_walk_scratch.proofs.Bits.{mark-is}
use Rattle.resolve_walk_scratch.proofs.mark.Goals as goal

pub returns : goal.returns
returns c = search mark-is
