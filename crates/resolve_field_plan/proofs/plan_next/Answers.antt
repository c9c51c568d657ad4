use Rattle.resolve_field_plan.proofs.Plans.{plan-nothing, plan-found, recent_kept}
use Rattle.type_provider.proofs.Numbers.{found-is}
use borrow.Author.Rules.{rules}
use Rattle.resolve_field_plan.proofs.plan_next.Goals as goal

pub returns-in_default : goal.returns-in_default
returns-in_default c = search (plan-nothing, found-is)

pub plan_named-requires : goal.plan_named-requires
plan_named-requires c = (search rules, search (plan-found, found-is))

pub returns : goal.returns
returns c = search (recent_kept, plan-found, found-is)
