-- `enc_float::real_from_le_slice` meets its contract. Assumes nothing.
use Rattle.enc_float.proofs.Reals.{real_unsupported, real_size_lem, real_value}
use Rattle.enc_float.proofs.Numbers.{real_read_says}
use Rattle.enc_float.proofs.real_from_le_slice.Goals as goal

pub returns-then-width-eq0 : goal.returns-then-width-eq0
returns-then-width-eq0 c = real_read_says _ _ (search real_unsupported)

pub returns-then-slice-width : goal.returns-then-slice-width
returns-then-slice-width c = real_read_says _ _ (search real_size_lem)

pub returns : goal.returns
returns c = real_read_says _ _ (search real_value)
