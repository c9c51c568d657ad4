use mathlib.Core.Path.{◌≡◌}
use Prim.Native.Nat.{◌-◌}
use Rattle.type_marks.specs.Marks.{with_parts}
use Rattle.type_marks.proofs.hash.Given as goal

abbrev pub invariant-loop-i : goal.invariant-loop-i
invariant-loop-i l = with_parts l.name l.h l.i (l.k - l.i) ≡ with_parts l.name l.n 0 l.k
