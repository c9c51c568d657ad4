-- `enc_utf_16_encoder::write_16` meets its contract. The loop's invariant: what is left, written from `to` on, makes the buffer that the whole text makes. Assumes nothing.
use Prim.Native.Nat.{◌-◌, ◌≤◌}
use lib.ListN.{length, drop}
use Rattle.enc_utf_16.specs.Encode.{encode16_text}
use Rattle.enc_utf_16.specs.Step.{LeftToWrite}
use Rattle.enc_utf_16_encoder.proofs.write_16.Given as goal

abbrev pub invariant-loop-from : goal.invariant-loop-from
invariant-loop-from l = (l.from ≤ length l.text) × LeftToWrite (encode16_text l.text) l.initial.out 0 (encode16_text (drop l.from l.text)) l.out l.to

abbrev pub decreases-loop-from : goal.decreases-loop-from
decreases-loop-from l = length l.text - l.from
