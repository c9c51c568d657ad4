use Rattle.print_record_line.proofs.Prints.{counted_put}
use Rattle.print_record_line.proofs.counted.Goals as goal

pub returns : goal.returns
returns c = search counted_put
