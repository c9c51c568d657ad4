use Rattle.enc_utf_8_replacing.proofs.Decoders.{end-formed}
use Rattle.enc_utf_8_replacing.proofs.formed_end.Goals as goal

-- src/lib.rt:51:1
pub returns : goal.returns
returns c = search end-formed
