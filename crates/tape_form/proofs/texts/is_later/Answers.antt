use Rattle.tape_form.proofs.Findings.{later-part, later-found, later-fine, later_broken}
use borrow.Author.Rules.{rules}
use Rattle.tape_form.proofs.texts.is_later.Goals as goal

ruleset exits = (later-part, later-fine, later_broken)

-- src/texts.rt:51:13
pub returns-then-e-hi : goal.returns-then-e-hi
returns-then-e-hi c = search exits

-- src/texts.rt:55:9
pub keep-requires : goal.keep-requires
keep-requires c = search (rules, later-found)

-- src/texts.rt:56:9
pub returns-then-well_formed : goal.returns-then-well_formed
returns-then-well_formed c = search exits

-- src/texts.rt:42:1
pub returns : goal.returns
returns c = search exits
