use Rattle.plan_save.proofs.Turns.{prepared-trusted, prepared-ready, book-cut, book-fits}
use borrow.Author.Rules.{rules}
use Rattle.plan_save.proofs.plan_all.Goals as goal

pub slice_bounds-prepare-end : goal.slice_bounds-prepare-end
slice_bounds-prepare-end c = search book-fits

pub slice_bounds-prepare-end-2 : goal.slice_bounds-prepare-end-2
slice_bounds-prepare-end-2 c = search book-cut

pub plan_rounds-requires : goal.plan_rounds-requires
plan_rounds-requires c = (search rules, search prepared-trusted, search prepared-ready, search rules, search rules)
