use Rattle.resolve_walk.proofs.States.{due-new, due-lacking, due-long}
use Rattle.resolve_missing_types.proofs.Lists.{due-room, apply_old, apply_new, apply_lacking, apply_long, apply_full}
use Rattle.resolve_missing_types.proofs.apply.Goals as goal

ruleset exits = (apply_old, apply_new, apply_lacking, apply_long, apply_full)

ruleset due = (due-new, due-lacking, due-long)

pub list_block-requires : goal.list_block-requires
list_block-requires c = search due-room

pub returns-in-Old : goal.returns-in-Old
returns-in-Old c = search exits

pub returns-in-New : goal.returns-in-New
returns-in-New c = search exits

pub returns-in-NotFound : goal.returns-in-NotFound
returns-in-NotFound c = search exits

pub returns-in-TooLong : goal.returns-in-TooLong
returns-in-TooLong c = search exits

pub returns-in-Full : goal.returns-in-Full
returns-in-Full c = search exits
