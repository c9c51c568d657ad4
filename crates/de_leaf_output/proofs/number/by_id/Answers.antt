use Rattle.de_leaf_output.proofs.Numbers.{none-tells, by_bool, by_2, by_3, by_4, by_5, by_16, by_17, by_18, by_19, by_20, by_21}
use Rattle.de_leaf_output.proofs.number.by_id.Goals as goal

ruleset exits = (none-tells, by_bool, by_2, by_3, by_4, by_5, by_16, by_17, by_18, by_19, by_20, by_21)

pub returns-in-2 : goal.returns-in-2
returns-in-2 c = search exits

pub returns-in-3 : goal.returns-in-3
returns-in-3 c = search exits

pub returns-in-4 : goal.returns-in-4
returns-in-4 c = search exits

pub returns-in-5 : goal.returns-in-5
returns-in-5 c = search exits

pub returns-in-16 : goal.returns-in-16
returns-in-16 c = search exits

pub returns-in-17 : goal.returns-in-17
returns-in-17 c = search exits

pub returns-in-18 : goal.returns-in-18
returns-in-18 c = search exits

pub returns-in-19 : goal.returns-in-19
returns-in-19 c = search exits

pub returns-in-20 : goal.returns-in-20
returns-in-20 c = search exits

pub returns-in-21 : goal.returns-in-21
returns-in-21 c = search exits

pub returns-in-33 : goal.returns-in-33
returns-in-33 c = search exits

pub returns-in_default : goal.returns-in_default
returns-in_default c = search exits
