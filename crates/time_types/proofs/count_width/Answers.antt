use Rattle.time_types.proofs.Widths.{width-none, width-named}
use borrow.Author.Rules.{rules}
use Rattle.time_types.proofs.count_width.Goals as goal

pub returns-then-name_counts : goal.returns-then-name_counts
returns-then-name_counts c = search (width-none, width-named, rules)

pub returns : goal.returns
returns c = search (width-none, width-named, rules)
