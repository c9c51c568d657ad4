-- `enc_integer::largest` meets its contract. Assumes nothing.
use Rattle.enc_integer.proofs.TwosComplement.{largest_is}
use Rattle.enc_integer.proofs.largest.Goals as goal

pub returns : goal.returns
returns c = search largest_is
