use Rattle.resolve_field_plan.proofs.Plans.{alias-base, alias-lacks, alias-endless, alias-typed}
use borrow.Author.Rules.{rules}
use Rattle.type_category.proofs.Numbers.{category-is}
use Rattle.resolve_field_plan.proofs.plan_alias.Goals as goal

ruleset exits = (alias-base, alias-lacks, alias-endless, category-is)

pub resolve_alias_in-answer-requires : goal.resolve_alias_in-answer-requires
resolve_alias_in-answer-requires c = (search rules, search (alias-typed, category-is))

pub returns-in-Base : goal.returns-in-Base
returns-in-Base c = search exits

pub returns-in-NotFound : goal.returns-in-NotFound
returns-in-NotFound c = search exits

pub returns-in-TooLong : goal.returns-in-TooLong
returns-in-TooLong c = search exits
