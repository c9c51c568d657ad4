use Rattle.tape_form.proofs.Findings.{known-none}
use Rattle.tape_form.proofs.Walks.{form_ends, form_broken}
use borrow.Author.Rules.{rules}
use Rattle.tape_form.proofs.form.form.Goals as goal

ruleset exits = (form_ends, form_broken)

-- src/form.rt:127:9
pub value-place-requires : goal.value-place-requires
value-place-requires c = search (rules, known-none)

-- src/form.rt:123:1
pub returns-in-Some : goal.returns-in-Some
returns-in-Some c = search exits

-- src/form.rt:123:1
pub returns-in-None : goal.returns-in-None
returns-in-None c = search exits
