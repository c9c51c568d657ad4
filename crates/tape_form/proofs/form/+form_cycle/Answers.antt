-- The functions on the form of a tape meet their contracts: a law for each exit and each step of a loop. Assumes nothing.
use Rattle.std.proofs.Common.{rules}
use Rattle.tape_form.proofs.Walks.{several-start, several-again, several_broken, several-end, member-end, member-value, member-other, value_deep, value-end, value-array, value-map, value-leaf, value-other}
use Rattle.tape_form.proofs.form.+form_cycle.Goals as goal

ruleset values = (value_deep, value-end, value-array, value-map, value-leaf, value-other)

ruleset members = (member-end, member-value, member-other)

ruleset severals = (several_broken, several-end)

pub array-loop-init : goal.array-loop-init
array-loop-init t c = (search rules, search several-start)

pub array-returns-in_default : goal.array-returns-in_default
array-returns-in_default t c = search severals

pub array-loop-preserved : goal.array-loop-preserved
array-loop-preserved t c = (search rules, search several-again)

pub array-returns : goal.array-returns
array-returns t c = search severals

pub map-loop-init : goal.map-loop-init
map-loop-init t c = (search rules, search several-start)

pub map-returns-in_default : goal.map-returns-in_default
map-returns-in_default t c = search severals

pub map-loop-preserved : goal.map-loop-preserved
map-loop-preserved t c = (search rules, search several-again)

pub map-returns : goal.map-returns
map-returns t c = search severals

pub member-returns-in_default : goal.member-returns-in_default
member-returns-in_default t c = search members

pub member-returns-then-is_key : goal.member-returns-then-is_key
member-returns-then-is_key t c = search members

pub member-returns : goal.member-returns
member-returns t c = search members

pub value-returns-then-left-eq0 : goal.value-returns-then-left-eq0
value-returns-then-left-eq0 t c = search values

pub value-returns-in_default : goal.value-returns-in_default
value-returns-in_default t c = search values

pub value-returns-then-opens : goal.value-returns-then-opens
value-returns-then-opens t c = search values

pub value-returns-then-opens-2 : goal.value-returns-then-opens-2
value-returns-then-opens-2 t c = search values

pub value-returns-then-leaf : goal.value-returns-then-leaf
value-returns-then-leaf t c = search values

pub value-returns : goal.value-returns
value-returns t c = search values
