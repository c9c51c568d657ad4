-- `block::same_name` meets its contract. Assumes nothing.
use native.Mathlib.Omega.{arith}
use Rattle.type_book.proofs.Names.{same-lengths}
use Rattle.type_book.proofs.Words.{none_compared, word-differs, word-no, word-again, word-last, word-last-next, two_words}
use Rattle.type_book.proofs.block.same_name.Goals as goal
use Rattle.type_book.proofs.block.same_name.Goals.{else-loop-i-test, then-loop-i-test+else-not-same_part+else-last-i-gt8}

pub returns-then-n-b : goal.returns-then-n-b
returns-then-n-b c = grind (arith, same-lengths)

pub loop-i-init : goal.loop-i-init
loop-i-init c = search none_compared

pub loop-i-preserved : goal.loop-i-preserved
loop-i-preserved c = search word-again

pub returns-then-same_part : goal.returns-then-same_part
returns-then-same_part c = search two_words

pub returns-else-same_part : goal.returns-else-same_part
returns-else-same_part c = search word-no

pub returns-then-not-same_part : goal.returns-then-not-same_part
returns-then-not-same_part c = search word-differs

pub returns : goal.returns
returns c = elim c.loop-i-test.branch [ else-loop-i-test w ↦ search word-last | then-loop-i-test+else-not-same_part+else-last-i-gt8 w ↦ search word-last-next ]
