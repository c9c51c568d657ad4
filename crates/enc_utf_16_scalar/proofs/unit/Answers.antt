-- `enc_utf_16_scalar::unit` meets its contract. Assumes nothing.
use native.Mathlib.Omega.{arith}
use Rattle.enc_utf_16_scalar.proofs.Decodes.{unit-here}
use Rattle.enc_utf_16_scalar.proofs.unit.Goals as goal

pub returns : goal.returns
returns c = unit-here _ _ _ (omega arith)
