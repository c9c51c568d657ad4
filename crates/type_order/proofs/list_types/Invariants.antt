use Prim.Native.Nat.{◌≤◌}
use Rattle.type_order.proofs.list_types.Given as goal

abbrev pub invariant-loop-i : goal.invariant-loop-i
invariant-loop-i l = (l.n ≤ 65536) × (l.count ≤ l.i)
