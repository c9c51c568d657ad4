-- `enc_utf_16_encoder::long_scalar_8` meets its contract: each exit is a law of the UTF-8 decoder. Assumes nothing.
use Rattle.enc_utf_16_encoder.proofs.Scalars.{scalar-code, scalar-error, scalar-end}
use Rattle.enc_utf_16_encoder.proofs.long_scalar_8.Goals as goal

pub returns-in-Code : goal.returns-in-Code
returns-in-Code c = search scalar-code

pub returns-in-Error : goal.returns-in-Error
returns-in-Error c = search scalar-error

pub returns-in-End : goal.returns-in-End
returns-in-End c = search scalar-end
