use Rattle.print_lines.proofs.Prints.{head_put}
use Rattle.print_lines.proofs.head.Goals as goal

pub returns : goal.returns
returns c = search head_put
