-- `enc_utf_16_decoder::write_8` meets its contract. The loop's invariant: what is left, written from `to` on, makes the buffer that the whole text makes. Assumes nothing.
use Prim.Native.Nat.{◌-◌, ◌≤◌}
use lib.ListN.{length, drop}
use Rattle.enc_utf_16.specs.Decode.{decode16_text}
use Rattle.enc_utf_16.specs.Step.{LeftToWrite}
use Rattle.enc_utf_16_decoder.proofs.write_8.Given as goal

abbrev pub invariant-loop-from : goal.invariant-loop-from
invariant-loop-from l = (l.from ≤ length l.bytes) × LeftToWrite (decode16_text l.bytes) l.initial.out l.at (decode16_text (drop l.from l.bytes)) l.out l.to

abbrev pub decreases-loop-from : goal.decreases-loop-from
decreases-loop-from l = length l.bytes - l.from
