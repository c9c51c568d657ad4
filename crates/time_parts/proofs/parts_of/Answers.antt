use Rattle.time_parts.proofs.Exits.{parts_say}
use borrow.Author.Rules.{rules}
use Rattle.time_parts.proofs.parts_of.Goals as goal

pub returns : goal.returns
returns c = search (parts_say, rules)
