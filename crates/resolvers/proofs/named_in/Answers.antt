-- `named_in` meets its contract. Assumes nothing.
use Rattle.type_index.proofs.Trusts.{unknown-trusted}
use borrow.Author.Rules.{rules}
use Rattle.resolvers.proofs.named_in.Goals as goal

pub named_by-requires : goal.named_by-requires
named_by-requires c = (search rules, search unknown-trusted)
