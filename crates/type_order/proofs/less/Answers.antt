use Rattle.type_order.proofs.Names.{same_none, less-never, less-here, same_more}
use Rattle.type_order.proofs.less.Goals as goal

pub loop-k-init : goal.loop-k-init
loop-k-init c = search same_none

pub returns-then-x-y : goal.returns-then-x-y
returns-then-x-y c = search less-here

pub returns-then-y-x : goal.returns-then-y-x
returns-then-y-x c = search less-never

pub loop-k-preserved : goal.loop-k-preserved
loop-k-preserved c = search same_more

pub returns : goal.returns
returns c = search less-never
