-- `check_first` meets its contract. The loop keeps: the first refusal of all is that of the fields left. Assumes nothing.
use mathlib.Core.Path.{◌≡◌}
use Prim.Native.Nat.{◌+◌, ◌-◌}
use Rattle.resolve_field_types.specs.Fields.{fields_from}
use Rattle.resolve_field_types.proofs.check_first.Given as goal

abbrev pub invariant-loop-i : goal.invariant-loop-i
invariant-loop-i l = fields_from l.book l.width (l.t + 1) l.n ≡ fields_from l.book l.width (l.t + 1 + l.i) (l.n - l.i)
