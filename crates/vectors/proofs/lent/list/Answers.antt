-- `vectors::lent::list` meets its contract: the array's length.
-- Assumes nothing.
use Rattle.vectors.proofs.Filled.{filled}
use Rattle.vectors.proofs.lent.list.Goals as goal

pub returns : goal.returns
returns c = filled 5000 2779096485
