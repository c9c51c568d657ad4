use mathlib.Core.Path.{refl}
use Rattle.type_marks.proofs.Laws.{hash_short, parts-start, parts_again, hash_end}
use Rattle.type_marks.proofs.hash.Goals as goal

pub returns-then-n-lt8 : goal.returns-then-n-lt8
returns-then-n-lt8 c = search hash_short

pub loop-i-init : goal.loop-i-init
loop-i-init c = parts-start _ _ _

pub loop-i-preserved : goal.loop-i-preserved
loop-i-preserved c = parts_again _ _ _ _ _ c.loop-i.invariant c.loop-i-test.true _ refl _ c.joined-h.ensures

pub returns : goal.returns
returns c = search hash_end
