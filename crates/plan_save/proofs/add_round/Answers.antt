use Rattle.plan_save.proofs.Turns.{half-cut, adds_are}
use Rattle.plan_save.proofs.add_round.Goals as goal

pub slice_bounds-add_all-end : goal.slice_bounds-add_all-end
slice_bounds-add_all-end c = search half-cut

pub returns : goal.returns
returns c = search adds_are
