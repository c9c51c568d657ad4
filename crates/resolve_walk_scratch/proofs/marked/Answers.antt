-- `marked` meets its contract. Assumes nothing.
use Rattle.resolve_walk_scratch.proofs.Bits.{marked-is}
use Rattle.resolve_walk_scratch.proofs.marked.Goals as goal

pub returns : goal.returns
returns c = search marked-is
