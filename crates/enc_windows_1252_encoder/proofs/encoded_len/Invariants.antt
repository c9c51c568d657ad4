-- `encoded_len` meets its contract. The loop keeps: the length so far and that of what is left are the whole. Assumes nothing.
use mathlib.Core.Path.{◌≡◌}
use Prim.Native.Nat.{◌+◌, ◌≤◌, ◌-◌}
use lib.ListN.{length, drop}
use Rattle.enc_windows_1252.specs.Text.{encode_text}
use Rattle.enc_windows_1252_encoder.proofs.encoded_len.Given as goal

abbrev pub invariant-loop-i : goal.invariant-loop-i
invariant-loop-i l = (l.n ≤ l.room) × (l.n + length (encode_text (drop l.i l.text)) ≡ length (encode_text l.text))

abbrev pub decreases-loop-i : goal.decreases-loop-i
decreases-loop-i l = length l.text - l.i
