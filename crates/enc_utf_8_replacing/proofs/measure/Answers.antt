use Rattle.enc_utf_8_replacing.proofs.Decoders.{measured_part, measured_scalar}
use Rattle.enc_utf_8_replacing.proofs.measure.Goals as goal

-- src/lib.rt:65:9
pub returns-then-at-end : goal.returns-then-at-end
returns-then-at-end c = search measured_part

-- src/lib.rt:59:1
pub returns : goal.returns
returns c = search measured_scalar
