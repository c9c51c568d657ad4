-- `byte_of` meets its contract: a law for each range of code points. Assumes nothing.
use Rattle.enc_windows_1252.proofs.Indexes.{byte_low, byte-listed, byte_high, byte_beyond}
use Rattle.enc_windows_1252.proofs.index.byte_of.Goals as goal

pub returns-then-code-lt128 : goal.returns-then-code-lt128
returns-then-code-lt128 c = search byte_low

pub returns-then-code-lt160 : goal.returns-then-code-lt160
returns-then-code-lt160 c = search byte-listed

pub returns-then-code-lt256 : goal.returns-then-code-lt256
returns-then-code-lt256 c = search byte_high

pub returns : goal.returns
returns c = search byte_beyond
