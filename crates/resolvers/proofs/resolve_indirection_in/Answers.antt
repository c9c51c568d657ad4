-- `resolve_indirection_in` meets its contract. Assumes nothing.
use Rattle.type_index.proofs.Trusts.{unknown-trusted}
use borrow.Author.Rules.{rules}
use Rattle.resolvers.proofs.resolve_indirection_in.Goals as goal

pub follow-requires : goal.follow-requires
follow-requires c = (search rules, search unknown-trusted, search rules)
