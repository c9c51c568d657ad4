-- `surely_fits` meets its contract. The loop keeps: the whole is at most the most so far and what is left. Assumes nothing.
use mathlib.Core.Path.{◌≡◌}
use Prim.Native.Nat.{◌+◌, ◌≤◌}
use lib.ListN.{length}
use Rattle.std.specs.Slice.Iter.{chunks_rest, chunks_size}
use Rattle.enc_windows_1252.specs.Text.{decode_text}
use Rattle.enc_windows_1252_decoder.proofs.surely_fits.Given as goal

abbrev pub invariant-loop-block : goal.invariant-loop-block
invariant-loop-block l =
    (chunks_size l.block-iterator ≡ 64) ×
    (l.n ≤ l.room) ×
    (length (decode_text l.bytes) ≤ l.n + length (decode_text (chunks_rest l.block-iterator)))
