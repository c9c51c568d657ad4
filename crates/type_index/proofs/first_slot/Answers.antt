-- `first_slot` meets its contract. Assumes nothing.
use borrow.Author.Rules.{rules}
use Rattle.type_index.proofs.Slots.{place-is}
use Rattle.type_index.proofs.first_slot.Goals as goal

pub returns : goal.returns
returns c = search (place-is, rules)
