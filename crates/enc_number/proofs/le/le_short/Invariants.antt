-- `enc_number::le::le_short` meets its contract. Assumes nothing.
use mathlib.Core.Path.{◌≡◌}
use lib.ListN.{drop}
use Rattle.enc_number.specs.Le.{le_value}
use Rattle.enc_number.proofs.le.le_short.Given as goal

abbrev pub invariant-loop-i : goal.invariant-loop-i
invariant-loop-i l = l.value ≡ le_value (drop l.i l.slice)
