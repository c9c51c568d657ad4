-- `adswalk::files::line_buffer` meets its contract: the array's length.
-- Assumes nothing.
use Rattle.adswalk.proofs.Filled.{filled}
use Rattle.adswalk.proofs.files.line_buffer.Goals as goal

pub returns : goal.returns
returns c = filled 589824 0
