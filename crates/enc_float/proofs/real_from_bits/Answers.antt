-- `enc_float::real_from_bits` meets its contract. Assumes nothing.
use Rattle.enc_float.proofs.Reals.{real_double, real_single}
use Rattle.enc_float.proofs.real_from_bits.Goals as goal

pub returns-then-double : goal.returns-then-double
returns-then-double c = search real_double

pub returns : goal.returns
returns c = search real_single
