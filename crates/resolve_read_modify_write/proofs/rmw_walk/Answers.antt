-- `rmw_walk` meets its contract. Assumes nothing.
use Rattle.type_index.proofs.Trusts.{unknown-trusted}
use borrow.Author.Rules.{rules}
use Rattle.resolve_walk.proofs.States.{start-due, step-due}
use Rattle.resolve_read_modify_write.proofs.Rmws.{here-start, here-is, here-room, here_end, here-again, here-falls}
use Rattle.resolve_read_modify_write.proofs.rmw_walk.Goals as goal

ruleset exits = (here-is, here_end)

pub decide-here-requires : goal.decide-here-requires
decide-here-requires c = search start-due

pub loop-here-init : goal.loop-here-init
loop-here-init c = (search here-start, search rules)

pub returns-in-Break : goal.returns-in-Break
returns-in-Break c = search exits

pub returns-then-rest-eq0 : goal.returns-then-rest-eq0
returns-then-rest-eq0 c = search exits

pub step-e-requires : goal.step-e-requires
step-e-requires c = (search rules, search unknown-trusted, search rules, search rules, search rules, search here-room)

pub decide-here-requires-in-Continue : goal.decide-here-requires-in-Continue
decide-here-requires-in-Continue c = search step-due

pub loop-here-smaller : goal.loop-here-smaller
loop-here-smaller c = search here-falls

pub loop-here-preserved : goal.loop-here-preserved
loop-here-preserved c = (search here-again, search rules)
