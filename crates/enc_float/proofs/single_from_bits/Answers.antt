-- `enc_float::single_from_bits` meets its contract. Assumes nothing.
use Rattle.enc_float.proofs.Reals.{single-nan, single-number, single-plain}
use Rattle.enc_float.proofs.single_from_bits.Goals as goal

pub returns-then-bits-gt2139095040 : goal.returns-then-bits-gt2139095040
returns-then-bits-gt2139095040 c = search single-nan

pub float_from_bits-result : goal.float_from_bits-result
float_from_bits-result c = search single-number

pub returns : goal.returns
returns c = search single-plain
