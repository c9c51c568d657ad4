-- `check_first` meets its contract. The loop keeps: the first refusal of all is that of the fields left. Assumes nothing.
use Rattle.resolve_field_types.proofs.Fields.{first-start, first-end, first-lacks, first-endless, first-again, field-first, field-number}
use Rattle.resolve_field_types.proofs.check_first.Goals as goal

ruleset exits = (first-end, first-lacks, first-endless)

pub loop-i-init : goal.loop-i-init
loop-i-init c = search first-start

pub overflow_add-t : goal.overflow_add-t
overflow_add-t c = search field-first

pub overflow_add-t-in-loop-i : goal.overflow_add-t-in-loop-i
overflow_add-t-in-loop-i c = search field-number

pub returns-in-NotFound : goal.returns-in-NotFound
returns-in-NotFound c = search exits

pub returns-in-TooLong : goal.returns-in-TooLong
returns-in-TooLong c = search exits

pub loop-i-preserved : goal.loop-i-preserved
loop-i-preserved c = search first-again

pub returns : goal.returns
returns c = search exits
