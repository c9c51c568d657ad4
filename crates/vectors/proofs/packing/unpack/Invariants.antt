-- `vectors::packing::unpack` is safe and ends. The measure is what is left of the packed bytes.
use Rattle.std.proofs.Common.{length}
use Rattle.std.specs.Slice.Iter.{iter_rest}
use Rattle.vectors.proofs.packing.unpack.Given as goal

abbrev pub decreases-loop-byte : goal.decreases-loop-byte
decreases-loop-byte l = length (iter_rest l.bytes)
