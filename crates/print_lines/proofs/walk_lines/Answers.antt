use Rattle.print_lines.proofs.Prints.{walk-printed}
use borrow.Author.Rules.{rules}
use Rattle.print_lines.proofs.walk_lines.Goals as goal

ruleset printing = (walk-printed, rules)

pub returns : goal.returns
returns c = search printing
