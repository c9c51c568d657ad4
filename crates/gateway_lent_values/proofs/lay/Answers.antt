use mathlib.Core.Path.{◌∙◌}
use Rattle.gateway_lent_values.proofs.Lays.{laid_none, laid-next, laid-past, laid_all}
use Rattle.gateway_lent_values.proofs.lay.Goals as goal
use Rattle.gateway_lent_values.proofs.lay.Goals.{then-i-values, else-i-values}

pub loop-i-init : goal.loop-i-init
loop-i-init c = search laid_none

pub loop-i-preserved : goal.loop-i-preserved
loop-i-preserved c = elim c.if-i-values.branch [ then-i-values w ↦ w.values-is ∙ search laid-next | else-i-values w ↦ w.values-is ∙ search laid-past ]

pub returns : goal.returns
returns c = search laid_all
