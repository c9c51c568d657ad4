-- `learn` meets its contract. Assumes nothing.
use Rattle.resolve_missing_types.proofs.Ends.{learn_same, learn_held}
use Rattle.resolve_missing_types.proofs.learn.Goals as goal

pub returns-then-before-n : goal.returns-then-before-n
returns-then-before-n c = search (learn_same, learn_held)

pub returns : goal.returns
returns c = search (learn_same, learn_held)
