-- `enc_integer::fits_id` meets its contract. Assumes nothing.
use Rattle.enc_integer.proofs.Integers.{fits_as_signed, fits_as_unsigned}
use Rattle.enc_integer.proofs.fits_id.Goals as goal

pub returns-then-is_signed : goal.returns-then-is_signed
returns-then-is_signed c = search fits_as_signed

pub returns : goal.returns
returns c = search fits_as_unsigned
