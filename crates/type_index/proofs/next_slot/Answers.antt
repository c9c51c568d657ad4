-- `next_slot` meets its contract. Assumes nothing.
use Rattle.type_index.proofs.Slots.{next_more, next-first}
use Rattle.type_index.proofs.next_slot.Goals as goal

pub returns-then-at-len : goal.returns-then-at-len
returns-then-at-len c = search next_more

pub returns : goal.returns
returns c = search next-first
