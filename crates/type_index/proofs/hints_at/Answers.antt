-- `hints_at` meets its contract. Assumes nothing.
use Rattle.type_index.proofs.Slots.{hints_none, hints_some}
use Rattle.type_index.proofs.hints_at.Goals as goal

pub returns-then-len-n : goal.returns-then-len-n
returns-then-len-n c = search hints_none

pub returns : goal.returns
returns c = search hints_some
