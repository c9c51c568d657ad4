use mathlib.Core.Path.{◌≡◌}
use mathlib.Core.Bool.{true}
use Prim.Native.Nat.{ℕ, ◌<◌}
use lib.ListN.{length}
use Rattle.type_doubles.specs.Doubles.{is_first}
use Rattle.type_doubles.specs.Met.{MarkedTo}
use Rattle.type_doubles.proofs.distinct.Given as goal

abbrev pub invariant-loop-i : goal.invariant-loop-i
invariant-loop-i l = (length l.marks ≡ 32768) × MarkedTo l.book l.marks l.i × ((m : ℕ) → m < l.i → is_first l.book m ≡ true)
