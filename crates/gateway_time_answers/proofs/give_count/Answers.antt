use Rattle.gateway_time_answers.proofs.Answers.{count-told, count-refused}
use Rattle.gateway_time_answers.proofs.give_count.Goals as goal

pub returns : goal.returns
returns c = search (count-told, count-refused)

pub returns-in_default : goal.returns-in_default
returns-in_default c = search (count-told, count-refused)
