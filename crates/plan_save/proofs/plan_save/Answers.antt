use Rattle.plan_save.proofs.Ends.{save_refused, save_checked, save_root}
use Rattle.type_book_check.proofs.Numbers.{root_is}
use Rattle.plan_save.proofs.plan_save.Goals as goal

ruleset exits = (save_refused, save_root, root_is)

pub plan_at-requires : goal.plan_at-requires
plan_at-requires c = search (save_checked, root_is)

pub returns-in-Root : goal.returns-in-Root
returns-in-Root c = search exits

pub returns-in-Refused : goal.returns-in-Refused
returns-in-Refused c = search exits
