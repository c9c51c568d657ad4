use Rattle.plan_adds.proofs.Lists.{all-ready, all-lacks, all-full, all-swept}
use borrow.Author.Rules.{rules}
use Rattle.plan_adds.proofs.add_all.Goals as goal

ruleset exits = (all-lacks, all-full, all-swept)

pub sweep-requires : goal.sweep-requires
sweep-requires c = (search rules, search rules, search all-ready)

pub returns-in-More : goal.returns-in-More
returns-in-More c = search exits

pub returns-in-NotFound : goal.returns-in-NotFound
returns-in-NotFound c = search exits

pub returns-in-Full : goal.returns-in-Full
returns-in-Full c = search exits
