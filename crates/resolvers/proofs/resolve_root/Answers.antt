-- `resolve_root` meets its contract. Assumes nothing.
use Rattle.type_index.proofs.Trusts.{unknown-trusted}
use Rattle.resolvers.proofs.Calls.{resolution-base, resolution-lacks, resolution-endless}
use Rattle.resolvers.proofs.Numbers.{resolution-says}
use borrow.Author.Rules.{rules}
use Rattle.resolvers.proofs.resolve_root.Goals as goal

ruleset exits = (resolution-base, resolution-lacks, resolution-endless)

pub follow-resolved-requires : goal.follow-resolved-requires
follow-resolved-requires c = (search rules, search unknown-trusted, search rules)

pub returns-in-Base : goal.returns-in-Base
returns-in-Base c = resolution-says _ _ (search exits)

pub returns-in-NotFound : goal.returns-in-NotFound
returns-in-NotFound c = resolution-says _ _ (search exits)

pub returns-in-TooLong : goal.returns-in-TooLong
returns-in-TooLong c = resolution-says _ _ (search exits)
