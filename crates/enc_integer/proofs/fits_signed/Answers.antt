-- `enc_integer::fits_signed` meets its contract. Assumes nothing.
use Rattle.enc_integer.proofs.Integers.{signed_of_plain, signed_of_low, signed_of_high}
use Rattle.enc_integer.proofs.fits_signed.Goals as goal

pub returns-then-bits-most : goal.returns-then-bits-most
returns-then-bits-most c = search signed_of_low

pub returns-in-Signed : goal.returns-in-Signed
returns-in-Signed c = search signed_of_high

pub returns-in-Unsigned : goal.returns-in-Unsigned
returns-in-Unsigned c = search signed_of_plain
