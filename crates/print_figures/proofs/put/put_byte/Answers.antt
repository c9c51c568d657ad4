use Rattle.print_figures.proofs.Joins.{byte-over, byte_put, puts_full}
use Rattle.print_figures.proofs.put.put_byte.Goals as goal

pub returns-then-out-at : goal.returns-then-out-at
returns-then-out-at c = search byte-over

pub returns-else-out-at : goal.returns-else-out-at
returns-else-out-at c = search byte_put

pub returns-in-None : goal.returns-in-None
returns-in-None c = search puts_full
