-- `enc_float::double_from_bits` meets its contract. Assumes nothing.
use Rattle.enc_float.proofs.Reals.{double-nan, double-number, double-plain}
use Rattle.enc_float.proofs.double_from_bits.Goals as goal

pub returns-then-bits-gt9218868437227405312 : goal.returns-then-bits-gt9218868437227405312
returns-then-bits-gt9218868437227405312 c = search double-nan

pub float_from_bits-result : goal.float_from_bits-result
float_from_bits-result c = search double-number

pub returns : goal.returns
returns c = search double-plain
