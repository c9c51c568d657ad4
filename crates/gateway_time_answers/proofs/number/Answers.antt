use Rattle.gateway_time_answers.proofs.Answers.{number_past}
use borrow.Author.Rules.{rules}
use Rattle.gateway_time_answers.proofs.number.Goals as goal

pub returns : goal.returns
returns c = search (number_past, rules)
