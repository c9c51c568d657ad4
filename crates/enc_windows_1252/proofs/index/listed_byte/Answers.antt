-- `listed_byte` meets its contract. The loop keeps: what is left of the search gives the whole. Assumes nothing.
use Rattle.enc_windows_1252.proofs.Indexes.{listed_here, listed-again, listed-none}
use Rattle.enc_windows_1252.proofs.index.listed_byte.Goals as goal

pub returns-then-entry-code : goal.returns-then-entry-code
returns-then-entry-code c = search listed_here

pub loop-byte-preserved : goal.loop-byte-preserved
loop-byte-preserved c = search listed-again

pub returns : goal.returns
returns c = search listed-none
