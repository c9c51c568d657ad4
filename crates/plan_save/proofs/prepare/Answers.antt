use Rattle.plan_save.proofs.Turns.{half-cut, half_of_lem, half-held, prepared}
use borrow.Author.Rules.{rules}
use Rattle.plan_save.proofs.prepare.Goals as goal

pub slice_bounds-fill_held-end-2 : goal.slice_bounds-fill_held-end-2
slice_bounds-fill_held-end-2 c = search half-cut

pub slice_bounds-mark_known-end-2 : goal.slice_bounds-mark_known-end-2
slice_bounds-mark_known-end-2 c = search half_of_lem

pub mark_known-requires : goal.mark_known-requires
mark_known-requires c = (search rules, search half-held, search rules)

pub returns : goal.returns
returns c = search prepared
