use Rattle.tape_form.proofs.Walks.{closing_end, closing-fine, closing-other}
use Rattle.tape_form.proofs.form.closing.Goals as goal

ruleset exits = (closing_end, closing-fine, closing-other)

pub returns-in_default : goal.returns-in_default
returns-in_default c = search exits

pub returns-then-closes : goal.returns-then-closes
returns-then-closes c = search exits

pub returns : goal.returns
returns c = search exits
