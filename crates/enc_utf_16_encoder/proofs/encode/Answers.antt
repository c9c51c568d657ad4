-- `enc_utf_16_encoder::encode` meets its contract: a text that fits, and one that does not. Assumes nothing.
use Rattle.enc_utf_16.proofs.Runs.{fits_all, full-all}
use Rattle.enc_utf_16_encoder.proofs.encode.Goals as goal

pub write_16-requires : goal.write_16-requires
write_16-requires c = search fits_all

pub returns : goal.returns
returns c = search full-all
