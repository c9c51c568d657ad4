use Rattle.plan_adds.proofs.Dues.{due-alias, due-element, due-fields, due-nothing}
use Rattle.plan_adds.proofs.due_type.Goals as goal

ruleset exits = (due-alias, due-element, due-fields, due-nothing)

-- src/lib.rt:130:9
pub returns-then-goes_on : goal.returns-then-goes_on
returns-then-goes_on c = search exits

-- src/lib.rt:126:1
pub returns-in-Element : goal.returns-in-Element
returns-in-Element c = search exits

-- src/lib.rt:126:1
pub returns-in-Fields : goal.returns-in-Fields
returns-in-Fields c = search exits

-- src/lib.rt:126:1
pub returns-in-Nothing : goal.returns-in-Nothing
returns-in-Nothing c = search exits
