-- `enter_hints` meets its contract. Assumes nothing.
use mathlib.Core.Path.{◌≡◌}
use Prim.Native.Nat.{◌≤◌, ◌-◌, ◌+◌}
use lib.ListN.{length}
use Rattle.type_index.specs.Index.{hints_from, hinted_index}
use Rattle.type_index.proofs.enter_hints.Given as goal

abbrev pub invariant-loop-i : goal.invariant-loop-i
invariant-loop-i l = (length l.index ≤ l.first + 65536) × (length l.index ≡ length l.initial.index) × (hints_from l.book l.index (l.i - l.first) (length l.initial.index - l.i) ≡ hinted_index l.book l.initial.index)
