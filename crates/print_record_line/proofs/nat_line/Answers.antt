use Rattle.print_record_line.proofs.Prints.{nat_put}
use Rattle.print_record_line.proofs.nat_line.Goals as goal

pub returns : goal.returns
returns c = search nat_put
