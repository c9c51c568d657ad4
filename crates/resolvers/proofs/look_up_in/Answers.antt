-- `look_up_in` meets its contract. Assumes nothing.
use Rattle.resolvers.proofs.Chains.{found-typed, looked_nothing, looked_at}
use borrow.Author.Rules.{rules}
use Rattle.type_provider.proofs.Numbers.{found-is}
use Rattle.resolvers.proofs.look_up_in.Goals as goal

ruleset exits = (looked_nothing, looked_at, found-is)

pub returns-in_default : goal.returns-in_default
returns-in_default c = search exits

pub resolve_alias_in-requires : goal.resolve_alias_in-requires
resolve_alias_in-requires c = (search rules, search (found-typed, found-is))

pub returns : goal.returns
returns c = search exits
