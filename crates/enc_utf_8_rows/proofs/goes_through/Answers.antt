-- `goes_through` meets its contract. The loop keeps: the automaton has met an error, or agrees with the decoder. Assumes nothing.
use Rattle.enc_utf_8_rows.proofs.Runs.{run-start, run-again, run_end}
use Rattle.enc_utf_8_rows.proofs.goes_through.Goals as goal

pub loop-byte-init : goal.loop-byte-init
loop-byte-init c = search run-start

pub loop-byte-preserved : goal.loop-byte-preserved
loop-byte-preserved c = search run-again

pub returns : goal.returns
returns c = search run_end
