-- `is_ascii` meets its contract. The loop keeps: all is ASCII where the highest byte so far and what is left are. Assumes nothing.
use mathlib.Core.Path.{◌≡◌}
use mathlib.Core.Bool.{false, cond}
use lib.ListN.{drop}
use lib.Dec.{ltb}
use Rattle.enc_ascii.specs.Ascii.{is_ascii}
use Rattle.enc_ascii.proofs.is_ascii.Given as goal

abbrev pub invariant-loop-byte : goal.invariant-loop-byte
invariant-loop-byte l = is_ascii l.bytes ≡ cond (ltb l.highest 0x80) (is_ascii (drop l.byte-index l.bytes)) false
