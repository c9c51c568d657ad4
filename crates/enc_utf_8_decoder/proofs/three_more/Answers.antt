-- `three_more` meets its contract. Assumes nothing.
use Rattle.enc_utf_8.proofs.Decodes.{more-three, more-on}
use Rattle.enc_utf_8_decoder.proofs.Steps.{more-ended}
use Rattle.enc_utf_8_decoder.proofs.three_more.Goals as goal

pub two_more-requires : goal.two_more-requires
two_more-requires c = search more-three

pub returns-in-Code : goal.returns-in-Code
returns-in-Code c = search more-on

pub returns-in_default : goal.returns-in_default
returns-in_default c = search (more-ended, tt)
