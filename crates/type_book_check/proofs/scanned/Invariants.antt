use mathlib.Core.Path.{◌≡◌}
use mathlib.Core.Bool.{true}
use Prim.Native.Nat.{ℕ, ◌<◌, ◌-◌}
use Rattle.type_book.specs.Book.{blocks}
use Rattle.type_book_check.specs.Check.{sum_at, placed_from, all_in_place}
use Rattle.type_book_check.proofs.scanned.Given as goal

abbrev pub invariant-loop-i : goal.invariant-loop-i
invariant-loop-i l = ((m : ℕ) → m < l.i → sum_at l.book m ≡ true) × (all_in_place l.book ≡ placed_from l.book l.i (blocks l.book - l.i) l.fields l.entries)
