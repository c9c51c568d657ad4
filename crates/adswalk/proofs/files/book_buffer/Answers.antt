-- `adswalk::files::book_buffer` meets its contract: the array's length.
-- Assumes nothing.
use Rattle.adswalk.proofs.Filled.{filled}
use Rattle.adswalk.proofs.files.book_buffer.Goals as goal

pub returns : goal.returns
returns c = filled 65537 0
