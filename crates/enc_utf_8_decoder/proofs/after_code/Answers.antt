use Rattle.enc_utf_8_decoder.proofs.Steps.{code-none}
use Rattle.enc_utf_8_decoder.proofs.after_code.Goals as goal

-- src/lib.rt:223:1
pub returns : goal.returns
returns c = search code-none
