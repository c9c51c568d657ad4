use Rattle.print_record_line.proofs.Prints.{sized_put}
use Rattle.print_record_line.proofs.sized.Goals as goal

pub returns : goal.returns
returns c = search sized_put
