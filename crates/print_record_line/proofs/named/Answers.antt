use Rattle.print_record_line.proofs.Prints.{named_put}
use Rattle.print_record_line.proofs.named.Goals as goal

pub returns : goal.returns
returns c = search named_put
