use Prim.Native.Nat.{◌-◌}
use lib.ListN.{length, drop}
use Rattle.enc_utf_8.specs.Utf8.{Stretch}
use Rattle.enc_utf_8.proofs.Lays.{Rest}
use Rattle.enc_utf_8_replacing.specs.Text.{decode8_text}
use Rattle.enc_utf_8_replacing.proofs.put_text.Given as goal

abbrev pub invariant-loop-end : goal.invariant-loop-end
invariant-loop-end l = Stretch l.bytes l.from l.end × Rest (decode8_text l.bytes) l.initial.out l.at (decode8_text (drop l.from l.bytes)) l.out l.to

abbrev pub decreases-loop-end : goal.decreases-loop-end
decreases-loop-end l = length l.bytes - l.end
