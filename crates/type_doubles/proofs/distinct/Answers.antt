use mathlib.Core.Path.{sym, ◌∙◌}
use native.Mathlib.Omega.{arith}
use Rattle.type_doubles.proofs.All.{all-fails, all_of}
use Rattle.type_doubles.proofs.distinct.Goals as goal

pub returns-then-not-is_alone : goal.returns-then-not-is_alone
returns-then-not-is_alone c = all-fails _ _ c.loop-i.i (omega arith) (sym c.is_alone.ensures ∙ c.if-not-is_alone.true)

pub returns : goal.returns
returns c = sym (all_of _ _ (λ m l. c.loop-i.invariant.2 m (omega arith)))
