use Rattle.enc_utf_8_decoder.proofs.Steps.{three-passed, three-stayed}
use Rattle.enc_utf_8_decoder.proofs.after_three.Goals as goal

-- src/lib.rt:195:9
pub returns-then-three_fit : goal.returns-then-three_fit
returns-then-three_fit c = search three-passed

-- src/lib.rt:190:1
pub returns : goal.returns
returns c = search three-stayed
