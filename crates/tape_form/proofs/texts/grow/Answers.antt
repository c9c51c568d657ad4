use Rattle.tape_form.proofs.Findings.{grown}
use borrow.Author.Rules.{rules}
use Rattle.tape_form.proofs.texts.grow.Goals as goal

-- src/texts.rt:30:1
pub returns : goal.returns
returns c = search (rules, grown)
