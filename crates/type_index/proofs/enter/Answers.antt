-- `enter` meets its contract. Assumes nothing.
use Rattle.type_index.proofs.Entries.{entered-other, entered_at, entered-full}
use Rattle.type_index.proofs.enter.Goals as goal

pub returns-then-not-is_type : goal.returns-then-not-is_type
returns-then-not-is_type c = search entered-other

pub returns-then-index-at : goal.returns-then-index-at
returns-then-index-at c = search entered-full

pub returns : goal.returns
returns c = search entered_at
