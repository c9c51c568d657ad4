use Prim.Native.Nat.{◌≤◌}
use Rattle.type_order.proofs.merge.Given as goal

abbrev pub invariant-loop-k : goal.invariant-loop-k
invariant-loop-k l = (l.start ≤ l.i) × (l.i ≤ l.k)
