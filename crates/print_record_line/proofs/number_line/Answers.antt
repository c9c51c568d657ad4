use Rattle.print_record_line.proofs.Prints.{bool_line, signed_line, unsigned_line, single_line, double_line, no_line}
use Rattle.print_record_line.proofs.number_line.Goals as goal

pub returns-in-6 : goal.returns-in-6
returns-in-6 c = search bool_line

pub returns-in-7 : goal.returns-in-7
returns-in-7 c = search signed_line

pub returns-in-8 : goal.returns-in-8
returns-in-8 c = search unsigned_line

pub returns-in-9 : goal.returns-in-9
returns-in-9 c = search single_line

pub returns-in-10 : goal.returns-in-10
returns-in-10 c = search double_line

pub returns-in_default : goal.returns-in_default
returns-in_default c = search no_line
