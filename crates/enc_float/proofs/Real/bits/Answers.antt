-- `enc_float::Real::bits` meets its contract. Assumes nothing.
use Rattle.enc_float.proofs.Reals.{same_number, bits-nan-single, bits-nan-double, bits-single, bits-double}
use Rattle.enc_float.proofs.Real.bits.Goals as goal

pub returns-then-x : goal.returns-then-x
returns-then-x c = search bits-nan-single

pub float_to_bits-x : goal.float_to_bits-x
float_to_bits-x c = search same_number

pub returns-in-Single : goal.returns-in-Single
returns-in-Single c = search bits-single

pub returns-then-x-2 : goal.returns-then-x-2
returns-then-x-2 c = search bits-nan-double

pub float_to_bits-result : goal.float_to_bits-result
float_to_bits-result c = search same_number

pub returns-in-Double : goal.returns-in-Double
returns-in-Double c = search bits-double
