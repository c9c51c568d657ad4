use native.Mathlib.Omega.{arith}
use Rattle.type_block_form.proofs.Bytes.{sum-again, sum-end}
use Rattle.type_block_form.proofs.sum.Goals as goal

pub loop-byte-init : goal.loop-byte-init
loop-byte-init c = (omega arith, omega arith)

pub loop-byte-preserved : goal.loop-byte-preserved
loop-byte-preserved c = (omega arith, search sum-again)

pub returns : goal.returns
returns c = (search sum-end, omega arith)
