use Rattle.printout.proofs.Exits.{all-long, all_short, checked-walk, checked_refused}
use native.Mathlib.Omega.{arith}
use borrow.Author.Rules.{rules}
use Rattle.type_book_check.proofs.Numbers.{root_is}
use Rattle.printout.proofs.print.Goals as goal

ruleset exits = (checked-walk, checked_refused, root_is)

pub returns-then-book-gt-LONGEST_BOOK : goal.returns-then-book-gt-LONGEST_BOOK
returns-then-book-gt-LONGEST_BOOK c = all-long _ _ (omega arith) (search rules)

pub returns-in-Root : goal.returns-in-Root
returns-in-Root c = all_short _ _ (omega arith) (search exits)

pub returns-in-Refused : goal.returns-in-Refused
returns-in-Refused c = all_short _ _ (omega arith) (search exits)
