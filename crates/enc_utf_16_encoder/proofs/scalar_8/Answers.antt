-- `enc_utf_16_encoder::scalar_8` meets its contract: an ASCII byte is its own scalar value. Assumes nothing.
use Rattle.enc_utf_16_encoder.proofs.Scalars.{scalar-ascii}
use Rattle.enc_utf_16_encoder.proofs.scalar_8.Goals as goal

pub returns-then-first-lt128 : goal.returns-then-first-lt128
returns-then-first-lt128 c = rw c.from.ensures (search scalar-ascii)
