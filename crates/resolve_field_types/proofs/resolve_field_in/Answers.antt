-- `resolve_field_in` meets its contract. Assumes nothing.
use Rattle.resolvers.proofs.Chains.{found-typed}
use Rattle.resolve_field_types.proofs.Fields.{resolved-nothing, resolved-base, resolved-lacks, resolved-endless}
use borrow.Author.Rules.{rules}
use Rattle.type_provider.proofs.Numbers.{found-is}
use Rattle.resolve_field_types.proofs.resolve_field_in.Goals as goal

ruleset exits = (resolved-nothing, resolved-base, resolved-lacks, resolved-endless, found-is)

pub returns-in_default : goal.returns-in_default
returns-in_default c = search exits

pub resolve_alias_in-answer-requires : goal.resolve_alias_in-answer-requires
resolve_alias_in-answer-requires c = (search rules, search (found-typed, found-is))

pub returns-in-Base : goal.returns-in-Base
returns-in-Base c = search exits

pub returns-in-NotFound : goal.returns-in-NotFound
returns-in-NotFound c = search exits

pub returns-in-TooLong : goal.returns-in-TooLong
returns-in-TooLong c = search exits
