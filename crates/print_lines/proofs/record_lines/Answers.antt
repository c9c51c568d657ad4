use Rattle.print_lines.proofs.Prints.{lines_start, lines_again, lines_over, lines_done}
use Rattle.print_lines.proofs.record_lines.Goals as goal

pub loop-init : goal.loop-init
loop-init c = search lines_start

pub loop-preserved : goal.loop-preserved
loop-preserved c = search lines_again

pub returns-in_default : goal.returns-in_default
returns-in_default c = search lines_over

pub returns : goal.returns
returns c = search lines_done
