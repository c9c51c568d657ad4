use native.Mathlib.Omega.{arith}
use Rattle.type_block_form.proofs.Bytes.{zero-again, zero-end}
use Rattle.type_block_form.proofs.all_zero.Goals as goal

pub loop-byte-preserved : goal.loop-byte-preserved
loop-byte-preserved c = zero-again _ _ _ c.loop-byte.invariant _ (omega arith) c.max-highest.ensures

pub returns : goal.returns
returns c = search zero-end
