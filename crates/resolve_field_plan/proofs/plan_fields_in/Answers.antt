use borrow.Author.Rules.{rules}
use Rattle.resolve_field_plan.proofs.Plans.{typed-small, named_small, planning_start, planning_end, planning_lacks, planning_endless, planning_again, planning_earlier, field-first, field-number}
use Rattle.resolve_field_plan.proofs.plan_fields_in.Goals as goal

ruleset exits = (planning_end, planning_lacks, planning_endless)

pub loop-i-init : goal.loop-i-init
loop-i-init c = (search rules, search rules, search planning_start)

pub overflow_add-t : goal.overflow_add-t
overflow_add-t c = search field-first

pub overflow_add-t-in-loop-i : goal.overflow_add-t-in-loop-i
overflow_add-t-in-loop-i c = search field-number

pub plan_next-found-requires : goal.plan_next-found-requires
plan_next-found-requires c = (search rules, search planning_earlier)

pub note-requires : goal.note-requires
note-requires c = (search named_small, search typed-small)

pub returns-in-NotFound : goal.returns-in-NotFound
returns-in-NotFound c = search exits

pub returns-in-TooLong : goal.returns-in-TooLong
returns-in-TooLong c = search exits

pub loop-i-preserved : goal.loop-i-preserved
loop-i-preserved c = (search rules, search rules, search planning_again)

pub returns : goal.returns
returns c = search exits
