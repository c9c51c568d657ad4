use mathlib.Core.Path.{◌≡◌}
use Prim.Native.Nat.{◌+◌, ◌-◌}
use Rattle.de_leaves.specs.Leaf.{entry_from}
use Rattle.de_leaves.proofs.enum_access.find_entry.Given as goal

abbrev pub invariant-loop-i : goal.invariant-loop-i
invariant-loop-i l = entry_from l.book l.bytes l.n l.k ≡ entry_from l.book l.bytes l.i (l.n + l.k - l.i)
