use Rattle.time_parts.proofs.Exits.{clock_parts-is}
use borrow.Author.Rules.{rules}
use Rattle.time_parts.proofs.clock_parts.Goals as goal

pub returns : goal.returns
returns c = search (clock_parts-is, rules)
