-- `enc_number::le::le_value` meets its contract. Assumes nothing.
use Rattle.enc_number.proofs.ByteOrder.{low-only, low-high}
use Rattle.enc_number.proofs.le.le_value.Goals as goal

pub returns-then-slice-lt5 : goal.returns-then-slice-lt5
returns-then-slice-lt5 c = search low-only

pub returns : goal.returns
returns c = search low-high
