use Rattle.tape_form.proofs.Findings.{kept}
use borrow.Author.Rules.{rules}
use Rattle.tape_form.proofs.texts.keep.Goals as goal

-- src/texts.rt:28:1
pub returns : goal.returns
returns c = search (rules, kept)
