-- `vectors::lent::tape` meets its contract: the array's length.
-- Assumes nothing.
use Rattle.vectors.proofs.Filled.{filled}
use Rattle.vectors.proofs.lent.tape.Goals as goal

pub returns : goal.returns
returns c = filled 65520 165
