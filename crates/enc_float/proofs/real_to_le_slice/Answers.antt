-- `enc_float::real_to_le_slice` meets its contract. Assumes nothing.
use Rattle.enc_float.proofs.Reals.{real_written_size, real_written}
use Rattle.enc_float.proofs.real_to_le_slice.Goals as goal

pub returns-then-out-size : goal.returns-then-out-size
returns-then-out-size c = search real_written_size

pub returns : goal.returns
returns c = search real_written
