-- `block::same_bytes` meets its contract. The loop keeps: the whole comparison is that of what is left. Assumes nothing.
use mathlib.Core.Path.{◌≡◌}
use lib.ListN.{drop}
use Rattle.type_book.specs.Book.{same_name}
use Rattle.type_book.proofs.block.same_bytes.Given as goal

abbrev pub invariant-loop-i : goal.invariant-loop-i
invariant-loop-i l = same_name l.a l.b ≡ same_name (drop l.i l.a) (drop l.i l.b)
