use Rattle.printout.proofs.Exits.{walk-long, walk-short, walk_read}
use native.Mathlib.Omega.{arith}
use borrow.Author.Rules.{rules}
use Rattle.printout.proofs.walk.Goals as goal

pub returns-then-memory-gt-LONGEST_MEMORY : goal.returns-then-memory-gt-LONGEST_MEMORY
returns-then-memory-gt-LONGEST_MEMORY c = walk-long _ _ (omega arith) (search rules)

pub returns : goal.returns
returns c = walk-short _ _ (omega arith) (search walk_read)
