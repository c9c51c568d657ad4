-- `put_each` meets its contract. The loop keeps: whatever lays what is left from here on lays the whole. Assumes nothing.
use lib.ListN.{drop}
use Rattle.enc_windows_1252.specs.Text.{decode_text}
use Rattle.enc_utf_8.proofs.Lays.{Rest}
use Rattle.enc_windows_1252_decoder.proofs.put_each.Given as goal

abbrev pub invariant-loop-byte : goal.invariant-loop-byte
invariant-loop-byte l = Rest (decode_text l.block) l.initial.out l.at (decode_text (drop l.byte-index l.block)) l.out l.next
