use Rattle.time_parts.proofs.Exits.{count_say}
use borrow.Author.Rules.{rules}
use Rattle.time_parts.proofs.count_of.Goals as goal

pub returns : goal.returns
returns c = search (count_say, rules)
