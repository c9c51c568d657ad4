-- `enc_integer::sign_extended` meets its contract. Assumes nothing.
use Rattle.enc_integer.proofs.TwosComplement.{extend_low, extend_high}
use Rattle.enc_integer.proofs.sign_extended.Goals as goal

pub returns-then-value-most : goal.returns-then-value-most
returns-then-value-most c = search extend_low

pub returns : goal.returns
returns c = search extend_high
