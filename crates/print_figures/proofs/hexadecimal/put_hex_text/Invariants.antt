use lib.ListN.{drop}
use Rattle.print_figures.specs.Figures.{hex_text}
use Rattle.print_figures.proofs.Joins.{Rest}
use Rattle.print_figures.proofs.hexadecimal.put_hex_text.Given as goal

abbrev pub invariant-loop-byte : goal.invariant-loop-byte
invariant-loop-byte l = Rest (hex_text l.text) l.initial.out l.initial.next (hex_text (drop l.byte-index l.text)) l.out l.next
