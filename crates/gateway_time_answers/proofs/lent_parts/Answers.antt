use Rattle.gateway_time_answers.proofs.Answers.{lent_is}
use borrow.Author.Rules.{rules}
use Rattle.gateway_time_answers.proofs.lent_parts.Goals as goal

pub returns : goal.returns
returns c = search (lent_is, rules)
