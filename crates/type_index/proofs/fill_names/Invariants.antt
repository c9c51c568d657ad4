-- `fill_names` meets its contract. Assumes nothing.
use mathlib.Core.Path.{◌≡◌}
use Prim.Native.Nat.{◌-◌}
use lib.ListN.{length}
use Rattle.type_index.specs.Index.{entered_from, names_index}
use Rattle.type_index.proofs.fill_names.Given as goal

abbrev pub invariant-loop-i : goal.invariant-loop-i
invariant-loop-i l = (length l.index ≡ length l.initial.index) × (entered_from l.book l.index l.i (l.i-end - l.i) ≡ names_index l.book (length l.initial.index))
