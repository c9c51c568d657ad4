-- `valid_carefully` meets its contract. The loop keeps: the text is UTF-8 up to `at`. Nothing is asked of `until`. Assumes nothing.
use Prim.Native.Nat.{◌-◌}
use lib.ListN.{length}
use Rattle.enc_utf_8.proofs.Cuts.{Passed}
use Rattle.enc_utf_8_decoder.proofs.valid_carefully.Given as goal

abbrev pub invariant-loop-at : goal.invariant-loop-at
invariant-loop-at l = Passed l.text l.at

abbrev pub decreases-loop-at : goal.decreases-loop-at
decreases-loop-at l = length l.text - l.at
