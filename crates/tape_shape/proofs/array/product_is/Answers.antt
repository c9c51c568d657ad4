use borrow.Author.Rules.{rules}
use mathlib.Core.Path.{◌∙◌}
use Rattle.tape_shape.proofs.Products.{multiplied_start, multiplied_again, multiplied_end}
use Rattle.tape_shape.proofs.array.product_is.Goals as goal

pub loop-d-init : goal.loop-d-init
loop-d-init c = multiplied_start _ _ _ _ _ _ _ c.dimensions-dims.ensures (c.from.ensures ∙ c.count.ensures) c.size.ensures c.times-p.ensures

pub loop-d-preserved : goal.loop-d-preserved
loop-d-preserved c = multiplied_again _ _ _ _ _ _ _ _ (search rules) c.count-in-loop-d.ensures c.times-p-in-loop-d.ensures c.loop-d.invariant

pub returns : goal.returns
returns c = multiplied_end _ _ _ _ _ _ _ (search rules) (search rules) c.loop-d.invariant
