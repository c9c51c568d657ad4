-- `goes_through` meets its contract. The loop keeps: the automaton has met an error, or agrees with the decoder. Assumes nothing.
use Rattle.enc_utf_8_rows.proofs.Runs.{AlongAt}
use Rattle.enc_utf_8_rows.proofs.goes_through.Given as goal

abbrev pub invariant-loop-byte : goal.invariant-loop-byte
invariant-loop-byte l = AlongAt l.part l.state l.byte-index
