use Rattle.resolve_field_plan.proofs.Plans.{entry_kept_lem, named_cast, resolved_cast, category_cast}
use Rattle.resolve_field_plan.proofs.planned_field.Goals as goal

ruleset casts = (named_cast, resolved_cast, category_cast)

-- src/lib.rt:89:16
pub overflow_cast-result : goal.overflow_cast-result
overflow_cast-result c = search casts

-- src/lib.rt:79:1
pub returns : goal.returns
returns c = search entry_kept_lem
