use mathlib.Core.Path.{refl}
use native.Mathlib.Omega.{arith}
use Rattle.type_names.proofs.Texts.{contains-here, contains-again, contains-end}
use Rattle.type_names.proofs.text.contains.Goals as goal

pub loop-i-init : goal.loop-i-init
loop-i-init c = refl

pub returns-then-starts_with : goal.returns-then-starts_with
returns-then-starts_with c = search contains-here

pub loop-i-preserved : goal.loop-i-preserved
loop-i-preserved c = search contains-again

pub returns : goal.returns
returns c = grind (arith, contains-end)
