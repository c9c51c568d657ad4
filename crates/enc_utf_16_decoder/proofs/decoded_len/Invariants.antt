-- `enc_utf_16_decoder::decoded_len` meets its contract. The loop's invariant: `used` and the length of the text from `at` on are the length of the whole text. Assumes nothing.
use mathlib.Core.Path.{◌≡◌}
use Prim.Native.Nat.{◌+◌, ◌-◌, ◌≤◌}
use lib.ListN.{length, drop}
use Rattle.enc_utf_16.specs.Decode.{decode16_text}
use Rattle.enc_utf_16_decoder.proofs.decoded_len.Given as goal

abbrev pub invariant-loop-at : goal.invariant-loop-at
invariant-loop-at l = (l.at ≤ length l.bytes) × (l.used ≤ l.room) × (l.used + length (decode16_text (drop l.at l.bytes)) ≡ length (decode16_text l.bytes))

abbrev pub decreases-loop-at : goal.decreases-loop-at
decreases-loop-at l = length l.bytes - l.at
