use Rattle.time_parts.proofs.Exits.{moment_parts-is}
use borrow.Author.Rules.{rules}
use Rattle.time_parts.proofs.moment_parts.Goals as goal

pub returns : goal.returns
returns c = search (moment_parts-is, rules)
