-- `codes_end` meets its contract. The loop keeps: the text is UTF-8 up to `i`. Assumes nothing.
use Prim.Native.Nat.{◌-◌}
use lib.ListN.{length}
use Rattle.enc_utf_8.proofs.Cuts.{Passed}
use Rattle.enc_utf_8_decoder.proofs.codes_end.Given as goal

abbrev pub invariant-loop-i : goal.invariant-loop-i
invariant-loop-i l = Passed l.text l.i

abbrev pub decreases-loop-i : goal.decreases-loop-i
decreases-loop-i l = length l.text - l.i
