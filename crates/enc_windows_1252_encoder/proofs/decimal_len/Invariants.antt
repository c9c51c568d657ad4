-- `decimal_len` meets its contract. The loop keeps: the digits so far and those of what is left are one more than all. Assumes nothing.
use mathlib.Core.Path.{◌≡◌}
use Prim.Native.Nat.{◌+◌, ◌≤◌}
use lib.ListN.{length}
use Rattle.enc_windows_1252.specs.Text.{decimal}
use Rattle.enc_windows_1252_encoder.proofs.decimal_len.Given as goal

abbrev pub invariant-loop-rest : goal.invariant-loop-rest
invariant-loop-rest l = (l.len + l.rest ≤ l.number + 1) × (l.len + length (decimal l.rest) ≡ length (decimal l.number) + 1)

abbrev pub decreases-loop-rest : goal.decreases-loop-rest
decreases-loop-rest l = l.rest
