use Rattle.plan_named.proofs.Ends.{first_fits, added-valid, added-holds, lacking-more, lacking-nowhere, lacking-full}
use borrow.Author.Rules.{rules}
use Rattle.plan_named.proofs.plan_lacking_in.Goals as goal

ruleset exits = (lacking-more, lacking-nowhere, lacking-full)

pub overflow_cast-root : goal.overflow_cast-root
overflow_cast-root c = search (first_fits, rules)

pub plan_in-requires : goal.plan_in-requires
plan_in-requires c = (search rules, search added-valid, search added-holds, search rules)

pub returns-in-More : goal.returns-in-More
returns-in-More c = search exits

pub returns-in-NotFound : goal.returns-in-NotFound
returns-in-NotFound c = search exits

pub returns-in-Full : goal.returns-in-Full
returns-in-Full c = search exits
