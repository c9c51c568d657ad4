use mathlib.Core.Path.{◌≡◌}
use lib.ListN.{take}
use Rattle.gateway_lent_values.specs.Values.{laid}
use Rattle.gateway_lent_values.proofs.lay.Given as goal

abbrev pub invariant-loop-i : goal.invariant-loop-i
invariant-loop-i l = l.values ≡ laid (take l.i l.new) l.initial.values
