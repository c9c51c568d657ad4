-- `block::same_bytes` meets its contract. Assumes nothing.
use mathlib.Core.Path.{refl}
use Rattle.type_book.proofs.Names.{same_differ, same-again, same_end}
use Rattle.type_book.proofs.block.same_bytes.Goals as goal

pub loop-i-init : goal.loop-i-init
loop-i-init c = refl

pub returns-then-a-i : goal.returns-then-a-i
returns-then-a-i c = search same_differ

pub loop-i-preserved : goal.loop-i-preserved
loop-i-preserved c = search same-again

pub returns : goal.returns
returns c = search same_end
