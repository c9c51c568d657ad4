use Rattle.plan_adds.proofs.Dues.{due-field, due_of_type, due-other}
use Rattle.type_category.proofs.Numbers.{category-is}
use Rattle.plan_adds.proofs.due_at.Goals as goal

ruleset exits = (due-field, due_of_type, due-other, category-is)

-- src/lib.rt:145:9
pub returns-then-due-gt0 : goal.returns-then-due-gt0
returns-then-due-gt0 c = search exits

-- src/lib.rt:148:9
pub returns-then-is_type : goal.returns-then-is_type
returns-then-is_type c = search exits

-- src/lib.rt:141:1
pub returns : goal.returns
returns c = search exits
