use Rattle.time_types.proofs.Names.{no_byte, no-first}
use borrow.Author.Rules.{rules}
use Rattle.time_types.proofs.time_type.Goals as goal

pub returns-then-name-eq0 : goal.returns-then-name-eq0
returns-then-name-eq0 c = search (no_byte, no-first, rules)

pub returns : goal.returns
returns c = search (no_byte, no-first, rules)
