-- `resolve_alias_in` meets its contract. Assumes nothing.
use Rattle.type_index.proofs.Trusts.{unknown-trusted}
use borrow.Author.Rules.{rules}
use Rattle.resolvers.proofs.resolve_alias_in.Goals as goal

pub resolve_alias_by-requires : goal.resolve_alias_by-requires
resolve_alias_by-requires c = (search rules, search unknown-trusted, search rules)
