-- `ascii_prefix` meets its contract. The loop keeps: the text is ASCII up to here, by whole blocks. Assumes nothing.
use mathlib.Core.Path.{◌≡◌}
use Prim.Native.Nat.{◌*◌}
use Rattle.enc_windows_1252_encoder.specs.Step.{AsciiTo}
use Rattle.enc_windows_1252_encoder.proofs.ascii_prefix.Given as goal

abbrev pub invariant-loop-block : goal.invariant-loop-block
invariant-loop-block l = (l.n ≡ 64 * l.block-index) × AsciiTo l.text l.n
