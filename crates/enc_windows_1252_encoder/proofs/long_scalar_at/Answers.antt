-- `long_scalar_at` meets its contract: what the UTF-8 decoder answers, as the encoder takes it. Assumes nothing.
use Rattle.enc_windows_1252_encoder.proofs.Encoders.{taken-code, taken-error, taken-never}
use Rattle.enc_windows_1252_encoder.proofs.long_scalar_at.Goals as goal

pub returns-in-Code : goal.returns-in-Code
returns-in-Code c = search taken-code

pub returns-in-Error : goal.returns-in-Error
returns-in-Error c = search taken-error

pub returns-in-End : goal.returns-in-End
returns-in-End c = search taken-never
