use Rattle.print_lines.proofs.Prints.{refused-printed}
use borrow.Author.Rules.{rules}
use Rattle.print_lines.proofs.refused_line.Goals as goal

ruleset printing = (refused-printed, rules)

pub returns : goal.returns
returns c = search printing
