use borrow.Author.Rules.{rules}
use Rattle.std.proofs.lemmas.Result.{err_from_is_err_and}
use Rattle.plan_save.proofs.Asks.{ask-complete, ask-lists, ask-not-whole}
use Rattle.plan_save.proofs.ask.Goals as goal

pub returns-then-is_no : goal.returns-then-is_no
returns-then-is_no c = search ask-complete

pub returns-in_err-n : goal.returns-in_err-n
returns-in_err-n c = let p = err_from_is_err_and c.from_residual.result c.from_residual.ensures.1 in rw (p.1, p.2) (search (ask-not-whole, c.in_err-n.ensures))

pub returns : goal.returns
returns c = search (ask-lists, c.in_ok-n.ensures)
