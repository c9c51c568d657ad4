-- `after_any` meets its contract. Assumes nothing.
use Rattle.enc_utf_8_decoder.proofs.Steps.{any-ascii}
use Rattle.enc_utf_8_decoder.proofs.after_any.Goals as goal

pub returns-then-text-at-lt128 : goal.returns-then-text-at-lt128
returns-then-text-at-lt128 c = search any-ascii
