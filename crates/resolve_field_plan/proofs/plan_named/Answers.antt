use Rattle.resolve_field_plan.proofs.Plans.{named-plain}
use Rattle.type_category.proofs.Numbers.{category-is}
use Rattle.resolve_field_plan.proofs.plan_named.Goals as goal

pub returns : goal.returns
returns c = search (named-plain, category-is)
