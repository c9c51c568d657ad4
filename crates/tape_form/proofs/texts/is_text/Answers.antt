use Rattle.tape_form.proofs.Tests.{text-past, text-over, text-inside}
use Rattle.tape_form.proofs.Findings.{first_count, first-length, text-first}
use borrow.Author.Rules.{rules}
use Rattle.tape_form.proofs.texts.is_text.Goals as goal

ruleset exits = (text-past, text-over, text-inside, text-first)

-- src/texts.rt:69:9
pub returns-then-end-from : goal.returns-then-end-from
returns-then-end-from c = search exits

-- src/texts.rt:72:9
pub returns-then-end-from-2 : goal.returns-then-end-from-2
returns-then-end-from-2 c = search exits

-- src/texts.rt:79:33
pub slice_bounds-part_well_formed-end : goal.slice_bounds-part_well_formed-end
slice_bounds-part_well_formed-end c = search (rules, first_count)

-- src/texts.rt:79:9
pub part_well_formed-requires : goal.part_well_formed-requires
part_well_formed-requires c = search (rules, first-length)

-- src/texts.rt:79:9
pub returns-then-e-v : goal.returns-then-e-v
returns-then-e-v c = search exits

-- src/texts.rt:62:1
pub returns : goal.returns
returns c = search exits
