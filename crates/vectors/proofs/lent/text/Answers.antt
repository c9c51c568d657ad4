-- `vectors::lent::text` meets its contract: the array's length.
-- Assumes nothing.
use Rattle.vectors.proofs.Filled.{filled}
use Rattle.vectors.proofs.lent.text.Goals as goal

pub returns : goal.returns
returns c = filled 12288 165
