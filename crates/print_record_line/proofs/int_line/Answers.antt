use Rattle.print_record_line.proofs.Prints.{int_put}
use Rattle.print_record_line.proofs.int_line.Goals as goal

pub returns : goal.returns
returns c = search int_put
