-- `all_zero` meets its contract. The loop keeps: all is 0 where the highest byte so far and what is left are. Assumes nothing.
use mathlib.Core.Path.{◌≡◌}
use mathlib.Core.Bool.{◌&&◌}
use lib.ListN.{drop}
use lib.Dec.{eqb}
use Rattle.type_block_form.specs.Form.{every, is_zero}
use Rattle.type_block_form.proofs.all_zero.Given as goal

abbrev pub invariant-loop-byte : goal.invariant-loop-byte
invariant-loop-byte l = (every is_zero l.part ≡ eqb l.highest 0 && every is_zero (drop l.byte-index l.part))
