use mathlib.Core.Path.{◌≡◌}
use Prim.Native.Nat.{◌+◌, ◌≤◌, ◌-◌}
use lib.ListN.{length, drop}
use Rattle.enc_utf_8_replacing.specs.Text.{decode8_text}
use Rattle.enc_utf_8_replacing.proofs.decoded_len.Given as goal

abbrev pub invariant-loop-at : goal.invariant-loop-at
invariant-loop-at l = (l.at ≤ length l.bytes) × (l.used ≤ l.room) × (l.used + length (decode8_text (drop l.at l.bytes)) ≡ length (decode8_text l.bytes))

abbrev pub decreases-loop-at : goal.decreases-loop-at
decreases-loop-at l = length l.bytes - l.at
