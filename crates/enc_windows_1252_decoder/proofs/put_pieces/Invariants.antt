-- `put_pieces` meets its contract. The loop keeps: whatever lays what is left from here on lays the whole. Assumes nothing.
use Rattle.std.specs.Slice.Iter.{chunks_rest, chunks_size}
use mathlib.Core.Path.{◌≡◌}
use Rattle.enc_windows_1252.specs.Text.{decode_text}
use Rattle.enc_utf_8.proofs.Lays.{Rest}
use Rattle.enc_windows_1252_decoder.proofs.put_pieces.Given as goal

abbrev pub invariant-loop-piece : goal.invariant-loop-piece
invariant-loop-piece l =
    (chunks_size l.piece-iterator ≡ 4096) ×
    Rest (decode_text l.bytes) l.initial.out l.at (decode_text (chunks_rest l.piece-iterator)) l.out l.next
