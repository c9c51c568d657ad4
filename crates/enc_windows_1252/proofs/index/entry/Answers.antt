-- `entry` meets its contract: a table has its rule's value at each place. Assumes nothing.
use Rattle.enc_windows_1252.proofs.Indexes.{point_is}
use Rattle.enc_windows_1252.proofs.index.entry.Goals as goal

pub returns : goal.returns
returns c = search point_is
