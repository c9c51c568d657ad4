-- `vectors::packing::put_packed` is safe and ends. The measure is what is left of the bytes.
use Rattle.std.proofs.Common.{length}
use Rattle.vectors.proofs.packing.put_packed.Given as goal

abbrev pub decreases-loop-byte : goal.decreases-loop-byte
decreases-loop-byte l = length l.rest
