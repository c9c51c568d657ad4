-- `push` meets its contract. Assumes nothing.
use Rattle.resolve_walk_scratch.proofs.Places.{own-entry, fields-entry}
use Rattle.resolve_walk_scratch.proofs.Stacks.{push-element, push-nothing, push-none, push-fields}
use Rattle.resolve_walk_scratch.proofs.push.Goals as goal

ruleset exits = (push-element, push-nothing, push-none, push-fields)

pub overflow_mul-scratch : goal.overflow_mul-scratch
overflow_mul-scratch c = search own-entry

pub returns-then-n-eq0 : goal.returns-then-n-eq0
returns-then-n-eq0 c = search exits

pub overflow_mul-scratch-in-Fields : goal.overflow_mul-scratch-in-Fields
overflow_mul-scratch-in-Fields c = search own-entry

pub overflow_add-scratch : goal.overflow_add-scratch
overflow_add-scratch c = search fields-entry

pub returns-in-Element : goal.returns-in-Element
returns-in-Element c = search exits

pub returns-else-n-eq0 : goal.returns-else-n-eq0
returns-else-n-eq0 c = search exits

pub returns-in-Nothing : goal.returns-in-Nothing
returns-in-Nothing c = search exits
