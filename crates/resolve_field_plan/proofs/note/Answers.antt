use Rattle.resolve_field_plan.proofs.Plans.{note_here, note_past, note_fits}
use Rattle.resolve_field_plan.proofs.note.Goals as goal

ruleset exits = (note_here, note_past)

-- src/lib.rt:113:28
pub overflow_add-plan-then-i-plan : goal.overflow_add-plan-then-i-plan
overflow_add-plan-then-i-plan c = search note_fits

-- src/lib.rt:106:1
pub returns-then-i-plan : goal.returns-then-i-plan
returns-then-i-plan c = search exits

-- src/lib.rt:106:1
pub returns-else-i-plan : goal.returns-else-i-plan
returns-else-i-plan c = search exits
