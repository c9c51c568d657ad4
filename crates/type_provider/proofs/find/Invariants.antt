-- `type_provider::find` meets its contract. The loop keeps: no block passed is a type block of that name. Assumes nothing.
use mathlib.Core.Path.{◌≡◌}
use mathlib.Core.Bool.{false}
use Prim.Native.Nat.{ℕ, ◌<◌}
use Rattle.type_book.specs.Book.{is_named}
use Rattle.type_provider.proofs.find.Given as goal

abbrev pub invariant-loop-i : goal.invariant-loop-i
invariant-loop-i l = (k : ℕ) → k < l.i → is_named l.book l.name k ≡ false
