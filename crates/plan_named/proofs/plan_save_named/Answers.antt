use Rattle.type_book_check.proofs.Givens.{given_is}
use Rattle.plan_named.proofs.Ends.{named-given, named-refused, named-checked, named-block}
use Rattle.plan_named.proofs.plan_save_named.Goals as goal

ruleset exits = (named-refused, named-block, given_is)

pub plan_at-requires : goal.plan_at-requires
plan_at-requires c = search (named-checked, given_is)

pub plan_lacking-requires : goal.plan_lacking-requires
plan_lacking-requires c = search (named-given, given_is)

pub returns-in-Block : goal.returns-in-Block
returns-in-Block c = search exits

pub returns-in-Lacking : goal.returns-in-Lacking
returns-in-Lacking c = search exits

pub returns-in-Refused : goal.returns-in-Refused
returns-in-Refused c = search exits
