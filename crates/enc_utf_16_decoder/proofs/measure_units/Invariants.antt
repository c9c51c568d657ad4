-- `enc_utf_16_decoder::measure_units` meets its contract. The loop's invariant: `size` and the length of the text from `next` on are the length of the text from `at` on. Assumes nothing.
use mathlib.Core.Path.{◌≡◌}
use Prim.Native.Nat.{◌+◌, ◌*◌, ◌-◌, ◌≤◌}
use lib.ListN.{length, drop}
use Rattle.enc_utf_16.specs.Decode.{decode16_text}
use Rattle.enc_utf_16_decoder.proofs.measure_units.Given as goal

abbrev pub invariant-loop-next : goal.invariant-loop-next
invariant-loop-next l = (l.at ≤ l.next) × (l.next ≤ length l.bytes) × (l.size ≤ 4 * (l.next - l.at)) × (length (decode16_text (drop l.at l.bytes)) ≡ l.size + length (decode16_text (drop l.next l.bytes)))

abbrev pub decreases-loop-next : goal.decreases-loop-next
decreases-loop-next l = length l.bytes - l.next
