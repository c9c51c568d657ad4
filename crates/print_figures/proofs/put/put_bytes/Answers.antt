use mathlib.Core.Path.{refl}
use Rattle.print_figures.proofs.Joins.{rest_all, bytes-again, bytes-end}
use Rattle.print_figures.proofs.put.put_bytes.Goals as goal

pub loop-byte-init : goal.loop-byte-init
loop-byte-init c = rest_all refl

pub loop-byte-preserved : goal.loop-byte-preserved
loop-byte-preserved c = search bytes-again

pub returns : goal.returns
returns c = search bytes-end
