-- `enc_utf_16_encoder::put_pair` meets its contract: the two lowest bytes of each surrogate. Assumes nothing.
use Rattle.enc_utf_8.proofs.Splices.{wrote_as}
use Rattle.enc_utf_16_encoder.proofs.Encodes.{pair_bytes}
use Rattle.enc_utf_16_encoder.proofs.put_pair.Goals as goal

pub returns : goal.returns
returns c = wrote_as (pair_bytes _ _) (rw (c.to_le_bytes.ensures, c.to_le_bytes-2.ensures) at c.put_bytes.ensures)
