use mathlib.Core.Path.{◌≡◌}
use Prim.Native.Nat.{◌+◌, ◌-◌}
use Rattle.ser_named_blocks.specs.Named.{named_from}
use Rattle.ser_named_blocks.proofs.find_named.Given as goal

abbrev pub invariant-loop-i : goal.invariant-loop-i
invariant-loop-i l = named_from l.book l.name l.n l.k ≡ named_from l.book l.name l.i (l.n + l.k - l.i)
