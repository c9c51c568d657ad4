use Rattle.plan_type_adds.proofs.Knowing.{knows_start, knows-long, knows_again, knows-end}
use borrow.Author.Rules.{rules}
use Rattle.plan_type_adds.proofs.mark_known.Goals as goal

pub loop-i-init : goal.loop-i-init
loop-i-init c = search knows_start

pub mark_block-requires : goal.mark_block-requires
mark_block-requires c = (search rules, search rules, search knows-long)

pub loop-i-preserved : goal.loop-i-preserved
loop-i-preserved c = search knows_again

pub shape_of-known : goal.shape_of-known
shape_of-known c = search (knows-long, rules)

pub returns : goal.returns
returns c = search knows-end
