-- `decide` meets its contract. Assumes nothing.
use Rattle.resolve_walk.proofs.States.{due-new}
use Rattle.resolve_read_modify_write.proofs.Rmws.{decide-old, decide-block, decide-new, decide-lacking, decide-long, decide-full}
use Rattle.resolve_read_modify_write.proofs.decide.Goals as goal

ruleset exits = (decide-old, decide-block, decide-new, decide-lacking, decide-long, decide-full)

pub returns-then-keeps_state : goal.returns-then-keeps_state
returns-then-keeps_state c = search exits

pub overflow_sub-result : goal.overflow_sub-result
overflow_sub-result c = search due-new

pub returns-in-Old : goal.returns-in-Old
returns-in-Old c = search exits

pub returns-else-keeps_state : goal.returns-else-keeps_state
returns-else-keeps_state c = search exits

pub returns-in-NotFound : goal.returns-in-NotFound
returns-in-NotFound c = search exits

pub returns-in-TooLong : goal.returns-in-TooLong
returns-in-TooLong c = search exits

pub returns-in-Full : goal.returns-in-Full
returns-in-Full c = search exits
