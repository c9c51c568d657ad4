-- `after_last` meets its contract. Assumes nothing.
use Rattle.enc_utf_8_decoder.proofs.Steps.{last_code, last-none}
use Rattle.enc_utf_8_decoder.proofs.after_last.Goals as goal

pub returns-in-Code : goal.returns-in-Code
returns-in-Code c = search last_code

pub returns-in_default : goal.returns-in_default
returns-in_default c = search last-none
