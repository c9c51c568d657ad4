use mathlib.Core.Path.{sym}
use borrow.Author.Count.{below_more}
use native.Mathlib.Omega.{arith}
use Rattle.type_doubles.proofs.All.{all-fails, all_of}
use Rattle.type_book_check.proofs.Blocks.{sum_fails, sum-holds}
use Rattle.type_book_check.proofs.sums_right.Goals as goal

pub returns-then-not-sum_right : goal.returns-then-not-sum_right
returns-then-not-sum_right c = all-fails _ _ c.loop-i.i (omega arith) (search sum_fails)

pub loop-i-preserved : goal.loop-i-preserved
loop-i-preserved c = below_more _ _ c.loop-i.invariant (search sum-holds)

pub returns : goal.returns
returns c = sym (all_of _ _ (λ m l. c.loop-i.invariant m (omega arith)))
