-- `put_from` meets its contract. The loop keeps: whatever lays what is left from here on lays the whole. Assumes nothing.
use Prim.Native.Nat.{◌-◌}
use lib.ListN.{length, drop}
use Rattle.enc_windows_1252.specs.Text.{encode_text}
use Rattle.enc_utf_8.proofs.Lays.{Rest}
use Rattle.enc_windows_1252_encoder.proofs.put_from.Given as goal

abbrev pub invariant-loop-i : goal.invariant-loop-i
invariant-loop-i l = Rest (encode_text (drop l.from l.text)) l.initial.out l.at (encode_text (drop l.i l.text)) l.out l.next

abbrev pub decreases-loop-i : goal.decreases-loop-i
decreases-loop-i l = length l.text - l.i
