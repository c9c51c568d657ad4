-- `is_ascii` meets its contract. The loop keeps: all is ASCII where the highest byte so far and what is left are. Assumes nothing.
use Rattle.enc_ascii.proofs.Ascii.{highest-again, highest-end}
use Rattle.enc_ascii.proofs.is_ascii.Goals as goal

pub loop-byte-preserved : goal.loop-byte-preserved
loop-byte-preserved c = search highest-again

pub returns : goal.returns
returns c = search highest-end
