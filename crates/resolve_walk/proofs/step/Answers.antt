-- `step` meets its contract. Assumes nothing.
use Rattle.resolvers.proofs.Chains.{found-typed}
use Rattle.resolve_walk.proofs.Places.{low_bit, found-low, lacking-low}
use Rattle.resolve_walk.proofs.Turns.{step-marked, step-full, step-new, step-listed, step_full', step-lacking}
use Rattle.type_provider.proofs.Numbers.{found-is}
use borrow.Author.Rules.{rules}
use Rattle.resolve_walk.proofs.step.Goals as goal

ruleset exits = (step-marked, step-full, step-new, step-listed, step_full', step-lacking, found-is)

pub returns-then-was_listed : goal.returns-then-was_listed
returns-then-was_listed c = search exits

pub returns-then-left-eq0 : goal.returns-then-left-eq0
returns-then-left-eq0 c = search exits

pub mark-requires : goal.mark-requires
mark-requires c = low_bit _ _ (search lacking-low) (search rules)

pub returns-in_default : goal.returns-in_default
returns-in_default c = search exits

pub marked-requires : goal.marked-requires
marked-requires c = low_bit _ _ (search (found-low, found-is)) (search rules)

pub returns-then-marked : goal.returns-then-marked
returns-then-marked c = search exits

pub returns-then-left-eq0-2 : goal.returns-then-left-eq0-2
returns-then-left-eq0-2 c = search exits

pub settle-requires : goal.settle-requires
settle-requires c = (search rules, search rules, search (found-typed, found-is), search rules, search rules)

pub returns : goal.returns
returns c = search exits
