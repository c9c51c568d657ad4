-- `enc_number::le::le_u32` meets its contract. Assumes nothing.
use Rattle.enc_number.proofs.ByteOrder.{few_bytes, four_bytes}
use Rattle.enc_number.proofs.le.le_u32.Goals as goal

pub returns-then-slice-lt4 : goal.returns-then-slice-lt4
returns-then-slice-lt4 c = search few_bytes

pub returns : goal.returns
returns c = search four_bytes
