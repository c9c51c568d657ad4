use Rattle.tape_form.proofs.Tests.{leaf-bool, leaf-signed, leaf-unsigned, leaf-real32, leaf-real64, leaf-text, leaf-entry, leaf-unit, leaf-other}
use Rattle.tape_form.proofs.ranges.ranged.Goals as goal

ruleset exits = (leaf-bool, leaf-signed, leaf-unsigned, leaf-real32, leaf-real64, leaf-text, leaf-entry, leaf-unit, leaf-other)

pub returns-in-6 : goal.returns-in-6
returns-in-6 c = search exits

pub returns-in-7 : goal.returns-in-7
returns-in-7 c = search exits

pub returns-in-8 : goal.returns-in-8
returns-in-8 c = search exits

pub returns-in-9 : goal.returns-in-9
returns-in-9 c = search exits

pub returns-in-10 : goal.returns-in-10
returns-in-10 c = search exits

pub returns-in-11 : goal.returns-in-11
returns-in-11 c = search exits

pub returns-in-12 : goal.returns-in-12
returns-in-12 c = search exits

pub returns-in-13 : goal.returns-in-13
returns-in-13 c = search exits

pub returns-in_default : goal.returns-in_default
returns-in_default c = search exits
