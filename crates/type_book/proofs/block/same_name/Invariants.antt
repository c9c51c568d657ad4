-- `block::same_name` meets its contract. The loop keeps: the first i bytes are the same. Assumes nothing.
use Rattle.type_book.proofs.Words.{SameTo}
use Rattle.type_book.proofs.block.same_name.Given as goal

abbrev pub invariant-loop-i : goal.invariant-loop-i
invariant-loop-i l = SameTo l.a l.b l.i
