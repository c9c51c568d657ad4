-- `enc_integer::fits_unsigned` meets its contract. Assumes nothing.
use Rattle.enc_integer.proofs.Integers.{unsigned_of_plain, unsigned_of_low, unsigned_of_high}
use Rattle.enc_integer.proofs.fits_unsigned.Goals as goal

pub returns-then-bits : goal.returns-then-bits
returns-then-bits c = search unsigned_of_high

pub returns-in-Signed : goal.returns-in-Signed
returns-in-Signed c = search unsigned_of_low

pub returns-in-Unsigned : goal.returns-in-Unsigned
returns-in-Unsigned c = search unsigned_of_plain
