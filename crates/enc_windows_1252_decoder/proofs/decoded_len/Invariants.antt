-- `decoded_len` meets its contract. The loop keeps: the length so far and that of what is left are the whole. Assumes nothing.
use mathlib.Core.Path.{◌≡◌}
use Prim.Native.Nat.{◌+◌, ◌≤◌}
use lib.ListN.{length}
use Rattle.std.specs.Slice.Iter.{chunks_rest, chunks_size}
use Rattle.enc_windows_1252.specs.Text.{decode_text}
use Rattle.enc_windows_1252_decoder.proofs.decoded_len.Given as goal

abbrev pub invariant-loop-block : goal.invariant-loop-block
invariant-loop-block l =
    (chunks_size l.block-iterator ≡ 64) ×
    (l.n ≤ l.room) ×
    (l.n + length (decode_text (chunks_rest l.block-iterator)) ≡ length (decode_text l.bytes))
