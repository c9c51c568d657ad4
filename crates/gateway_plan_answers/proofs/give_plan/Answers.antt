-- `give_plan` meets its contract. Assumes nothing.
use Rattle.gateway_plan_answers.proofs.Answers.{plan-yes, plan-no, plan-lacks, plan-refused}
use Rattle.gateway_plan_answers.proofs.give_plan.Goals as goal

pub returns-in-Yes : goal.returns-in-Yes
returns-in-Yes c = search plan-yes

pub returns-in-No : goal.returns-in-No
returns-in-No c = search plan-no

pub returns-in-NotFound : goal.returns-in-NotFound
returns-in-NotFound c = search plan-lacks

pub returns-in-Refused : goal.returns-in-Refused
returns-in-Refused c = search plan-refused
