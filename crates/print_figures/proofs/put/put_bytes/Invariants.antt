use lib.ListN.{drop}
use Rattle.print_figures.proofs.Joins.{Rest}
use Rattle.print_figures.proofs.put.put_bytes.Given as goal

abbrev pub invariant-loop-byte : goal.invariant-loop-byte
invariant-loop-byte l = Rest l.bytes l.initial.out l.initial.next (drop l.byte-index l.bytes) l.out l.next
