use Prim.Native.Nat.{◌<◌, ◌-◌}
use mathlib.Core.Path.{◌≡◌}
use lib.ListN.{length}
use Rattle.type_order.proofs.sort.Given as goal

abbrev pub invariant-loop-run : goal.invariant-loop-run
invariant-loop-run l = (0 < l.run) × (length l.order ≡ length l.initial.order) × (length l.other ≡ length l.initial.other)

abbrev pub decreases-loop-run : goal.decreases-loop-run
decreases-loop-run l = l.n - l.run
