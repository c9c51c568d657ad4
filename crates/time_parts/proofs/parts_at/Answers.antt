use Rattle.time_parts.proofs.Exits.{parts-at-is}
use borrow.Author.Rules.{rules}
use Rattle.time_parts.proofs.parts_at.Goals as goal

pub returns : goal.returns
returns c = search (parts-at-is, rules)
