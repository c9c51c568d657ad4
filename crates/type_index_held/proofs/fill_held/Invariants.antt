-- `fill_held` meets its contract. Assumes nothing.
use mathlib.Core.Path.{◌≡◌}
use lib.ListN.{length}
use Rattle.type_index_held.proofs.Fills.{Filling}
use Rattle.type_index_held.proofs.fill_held.Given as goal

abbrev pub invariant-loop-i : goal.invariant-loop-i
invariant-loop-i l = (length l.index ≡ length l.initial.index) × Filling l.book (length l.initial.index) l.i-end l.i l.index l.all
