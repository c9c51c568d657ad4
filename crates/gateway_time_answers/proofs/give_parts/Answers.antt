use Rattle.gateway_time_answers.proofs.Answers.{parts-told, parts-refused}
use Rattle.gateway_time_answers.proofs.give_parts.Goals as goal

pub returns-in-Some : goal.returns-in-Some
returns-in-Some c = search (parts-told, parts-refused)

pub returns-in-None : goal.returns-in-None
returns-in-None c = search (parts-told, parts-refused)
