use Rattle.resolve_walk.proofs.Zeros.{scratch-room}
use Rattle.plan_save.proofs.Ends.{at-holds, at-valid, at-theirs, at-book, at_cut, at-short, at_done}
use Rattle.plan_save.proofs.plan_at.Goals as goal

ruleset exits = (at-theirs, at-short, at_done)

pub returns-then-refusal-ne0 : goal.returns-then-refusal-ne0
returns-then-refusal-ne0 c = search exits

pub returns-then-not-scratch_fits : goal.returns-then-not-scratch_fits
returns-then-not-scratch_fits c = search exits

pub slice_bounds-plan_in-end : goal.slice_bounds-plan_in-end
slice_bounds-plan_in-end c = search at_cut

pub plan_in-requires : goal.plan_in-requires
plan_in-requires c = (search at-book, search at-valid, search at-holds, search scratch-room)

pub returns : goal.returns
returns c = search exits
