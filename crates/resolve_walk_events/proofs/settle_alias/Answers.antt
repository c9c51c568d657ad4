-- `settle_alias` meets its contract. Assumes nothing.
use Rattle.resolve_walk_scratch.proofs.Places.{type_bit}
use Rattle.resolve_walk_events.proofs.Settles.{settle_base, settle_lacks, settle_long, base-type}
use Rattle.type_category.proofs.Numbers.{category-is}
use borrow.Author.Rules.{rules}
use Rattle.resolve_walk_events.proofs.settle_alias.Goals as goal

ruleset typed = (rules, base-type)

ruleset exits = (settle_base, settle_lacks, settle_long, category-is)

pub expand-requires : goal.expand-requires
expand-requires c = (search rules, search typed, search typed, search rules, search rules)

pub mark-requires : goal.mark-requires
mark-requires c = search type_bit

pub mark-requires-in-TooLong : goal.mark-requires-in-TooLong
mark-requires-in-TooLong c = search type_bit

pub returns-in-Base : goal.returns-in-Base
returns-in-Base c = search exits

pub returns-in-NotFound : goal.returns-in-NotFound
returns-in-NotFound c = search exits

pub returns-in-TooLong : goal.returns-in-TooLong
returns-in-TooLong c = search exits
