-- `vectors::replay::book_buffer` meets its contract: the array's length.
-- Assumes nothing.
use Rattle.vectors.proofs.Filled.{filled}
use Rattle.vectors.proofs.replay.book_buffer.Goals as goal

pub returns : goal.returns
returns c = filled 4718592 0
