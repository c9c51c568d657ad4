use Rattle.enc_utf_8_decoder.proofs.Steps.{four-passed, four-stayed}
use Rattle.enc_utf_8_decoder.proofs.after_four.Goals as goal

-- src/lib.rt:207:9
pub returns-then-four_fit : goal.returns-then-four_fit
returns-then-four_fit c = search four-passed

-- src/lib.rt:202:1
pub returns : goal.returns
returns c = search four-stayed
