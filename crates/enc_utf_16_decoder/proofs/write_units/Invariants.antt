-- `enc_utf_16_decoder::write_units` meets its contract. The loop's invariant: what is left, written from `place` on, makes the buffer that the text from `from` on makes. Assumes nothing.
use Prim.Native.Nat.{◌-◌, ◌≤◌}
use lib.ListN.{length, drop}
use Rattle.enc_utf_16.specs.Decode.{decode16_text}
use Rattle.enc_utf_16.specs.Step.{LeftToWrite}
use Rattle.enc_utf_16_decoder.proofs.write_units.Given as goal

abbrev pub invariant-loop-at : goal.invariant-loop-at
invariant-loop-at l = (l.at ≤ length l.bytes) × LeftToWrite (decode16_text (drop l.from l.bytes)) l.initial.out l.to (decode16_text (drop l.at l.bytes)) l.out l.place

abbrev pub decreases-loop-at : goal.decreases-loop-at
decreases-loop-at l = length l.bytes - l.at
