use Rattle.type_block_form.proofs.Sums.{sum_head, sum_is}
use borrow.Author.Rules.{rules}
use Rattle.type_block_form.proofs.sum_right.Goals as goal

pub slice_bounds-sum-end : goal.slice_bounds-sum-end
slice_bounds-sum-end c = search (sum_head, rules)

pub returns : goal.returns
returns c = search sum_is
