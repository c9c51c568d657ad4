-- `vectors::lent::scratch` meets its contract: the array's length.
-- Assumes nothing.
use Rattle.vectors.proofs.Filled.{filled}
use Rattle.vectors.proofs.lent.scratch.Goals as goal

pub returns : goal.returns
returns c = filled 20000 2779096485
