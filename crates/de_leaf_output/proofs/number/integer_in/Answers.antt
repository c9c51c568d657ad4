use Rattle.de_leaf_output.proofs.Numbers.{integer_tells}
use Rattle.enc_integer.proofs.Numbers.{integer_read_is}
use Rattle.de_leaf_output.proofs.number.integer_in.Goals as goal

ruleset exits = (integer_tells, integer_read_is)

pub returns : goal.returns
returns c = search exits
