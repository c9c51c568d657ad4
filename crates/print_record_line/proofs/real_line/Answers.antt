use Rattle.print_record_line.proofs.Prints.{real_put}
use Rattle.print_record_line.proofs.real_line.Goals as goal

pub returns : goal.returns
returns c = search real_put
