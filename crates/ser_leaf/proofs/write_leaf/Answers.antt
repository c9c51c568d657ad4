use Rattle.ser_leaf.proofs.Leaves.{write_count, write_bool, write_signed, write_unsigned, write_single, write_double, write_text, write_entry, write_unit, write_none}
use Rattle.ser_leaf.proofs.write_leaf.Goals as goal

ruleset exits = (write_count, write_bool, write_signed, write_unsigned, write_single, write_double, write_text, write_entry, write_unit, write_none)

pub returns-then-count-ne0 : goal.returns-then-count-ne0
returns-then-count-ne0 c = search exits

pub returns-in-6 : goal.returns-in-6
returns-in-6 c = search exits

pub returns-in-7 : goal.returns-in-7
returns-in-7 c = search exits

pub returns-in-8 : goal.returns-in-8
returns-in-8 c = search exits

pub returns-in-9 : goal.returns-in-9
returns-in-9 c = search exits

pub returns-in-10 : goal.returns-in-10
returns-in-10 c = search exits

pub returns-in-11 : goal.returns-in-11
returns-in-11 c = search exits

pub returns-in-12 : goal.returns-in-12
returns-in-12 c = search exits

pub returns-in-13 : goal.returns-in-13
returns-in-13 c = search exits

pub returns-in_default : goal.returns-in_default
returns-in_default c = search exits
