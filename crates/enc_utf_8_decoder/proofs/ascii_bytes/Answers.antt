-- `ascii_bytes` meets its contract. Assumes nothing.
use Rattle.enc_utf_8_decoder.proofs.Blocks.{here-none}
use Rattle.enc_utf_8_decoder.proofs.ascii_bytes.Goals as goal

pub returns : goal.returns
returns c = search here-none
