use Prim.Native.Nat.{◌-◌}
use Rattle.print_lines.specs.Lines.{lines_of, records_at}
use Rattle.print_figures.proofs.Joins.{Rest}
use Rattle.print_lines.proofs.record_lines.Given as goal

abbrev pub invariant-loop : goal.invariant-loop
invariant-loop l = Rest (lines_of l.book l.text (records_at l.tape l.records 0)) l.initial.out l.initial.next (lines_of l.book l.text (records_at l.tape (l.records - l.counter) l.cursor.at)) l.out l.next
