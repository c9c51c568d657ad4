-- `code_point` meets its contract: a law for each exit. Assumes nothing.
use Rattle.enc_windows_1252.proofs.Indexes.{point_listed, point_own}
use Rattle.enc_windows_1252.proofs.index.code_point.Goals as goal

pub returns-then-byte-eq4 : goal.returns-then-byte-eq4
returns-then-byte-eq4 c = search point_listed

pub returns : goal.returns
returns c = search point_own
