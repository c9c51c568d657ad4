-- `enc_utf_16_encoder::put_unit` meets its contract: the two lowest bytes. Assumes nothing.
use Rattle.enc_utf_8.proofs.Splices.{wrote_as}
use Rattle.enc_number.proofs.ByteOrder.{le_bytes-two}
use Rattle.enc_utf_16_encoder.proofs.put_unit.Goals as goal

pub returns : goal.returns
returns c = wrote_as (le_bytes-two _) (rw c.to_le_bytes.ensures at c.put_bytes.ensures)
