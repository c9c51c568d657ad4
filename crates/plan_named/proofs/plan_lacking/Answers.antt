use Rattle.resolve_walk.proofs.Zeros.{scratch-room}
use Rattle.plan_named.proofs.Ends.{lacking-checked, lacking-new, lacking-theirs, theirs-book, theirs-cut, lacking-short, lacking-done}
use Rattle.plan_named.proofs.plan_lacking.Goals as goal

ruleset exits = (lacking-theirs, lacking-short, lacking-done)

pub returns-then-refusal-ne0 : goal.returns-then-refusal-ne0
returns-then-refusal-ne0 c = search exits

pub returns-then-not-scratch_fits : goal.returns-then-not-scratch_fits
returns-then-not-scratch_fits c = search exits

pub slice_bounds-plan_lacking_in-end : goal.slice_bounds-plan_lacking_in-end
slice_bounds-plan_lacking_in-end c = search theirs-cut

pub plan_lacking_in-requires : goal.plan_lacking_in-requires
plan_lacking_in-requires c = (search theirs-book, search lacking-checked, search lacking-new, search scratch-room)

pub returns : goal.returns
returns c = search exits
