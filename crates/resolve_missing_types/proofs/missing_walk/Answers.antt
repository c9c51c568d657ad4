-- `missing_walk` meets its contract. Assumes nothing.
use borrow.Author.Rules.{rules}
use Rattle.resolve_missing_types.proofs.Lists.{pending-start, pending-due, pending-stop, pending-end, pending-room, pending-left, pending-list, pending-again, pending-falls}
use Rattle.type_index.proofs.Trusts.{unknown-trusted}
use Rattle.resolve_missing_types.proofs.missing_walk.Goals as goal

ruleset exits = (pending-stop, pending-end)

pub loop-now-init : goal.loop-now-init
loop-now-init c = (search pending-start, search rules, search unknown-trusted)

pub apply-requires : goal.apply-requires
apply-requires c = (search pending-due, search rules, search rules)

pub returns : goal.returns
returns c = search exits

pub overflow_sub-result : goal.overflow_sub-result
overflow_sub-result c = search pending-left

pub returns-then-now-eq0 : goal.returns-then-now-eq0
returns-then-now-eq0 c = search exits

pub step-e-requires : goal.step-e-requires
step-e-requires c = (search rules, search rules, search rules, search (pending-list, c.apply.ensures, c.loop-now.invariant.0), search rules, search pending-room)

pub loop-now-smaller : goal.loop-now-smaller
loop-now-smaller c = search pending-falls

pub loop-now-preserved : goal.loop-now-preserved
loop-now-preserved c = (search pending-again, search rules, search rules)
