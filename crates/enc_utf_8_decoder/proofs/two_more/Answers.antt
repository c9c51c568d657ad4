-- `two_more` meets its contract. Assumes nothing.
use Rattle.enc_utf_8.proofs.Decodes.{more-two, more-on}
use Rattle.enc_utf_8_decoder.proofs.Steps.{more-ended}
use Rattle.enc_utf_8_decoder.proofs.two_more.Goals as goal

pub one_more-requires-in-Code : goal.one_more-requires-in-Code
one_more-requires-in-Code c = search more-two

pub returns-in-Code : goal.returns-in-Code
returns-in-Code c = search more-on

pub returns-in_default : goal.returns-in_default
returns-in_default c = search (more-ended, tt)
