-- `start` meets its contract. Assumes nothing.
use Rattle.type_index.proofs.Trusts.{unknown-trusted}
use Rattle.resolve_walk.proofs.Turns.{start-settled}
use borrow.Author.Rules.{rules}
use Rattle.resolve_walk.proofs.start.Goals as goal

pub settle-requires : goal.settle-requires
settle-requires c = (search rules, search unknown-trusted, search rules, search rules, search rules)

pub returns : goal.returns
returns c = search start-settled
