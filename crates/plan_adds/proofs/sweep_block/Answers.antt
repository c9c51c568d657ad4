use Rattle.plan_adds.proofs.Fetches.{ready-cut, ready-fits}
use Rattle.plan_adds.proofs.Dues.{block-rest, block-named}
use Rattle.plan_adds.proofs.sweep_block.Goals as goal

pub slice_bounds-due_at-end : goal.slice_bounds-due_at-end
slice_bounds-due_at-end c = search ready-fits

pub slice_bounds-due_at-end-2 : goal.slice_bounds-due_at-end-2
slice_bounds-due_at-end-2 c = search ready-cut

pub returns-in-Rest : goal.returns-in-Rest
returns-in-Rest c = search block-rest

pub returns-in-Names : goal.returns-in-Names
returns-in-Names c = search block-named
