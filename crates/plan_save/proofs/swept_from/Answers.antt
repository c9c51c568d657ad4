use Rattle.plan_save.proofs.Turns.{from_first, from-new, from-fits}
use borrow.Author.Rules.{rules}
use Rattle.plan_save.proofs.swept_from.Goals as goal

ruleset exits = (from_first, from-new)

pub returns-then-left-lt-SWEEP_ALL : goal.returns-then-left-lt-SWEEP_ALL
returns-then-left-lt-SWEEP_ALL c = search exits

pub overflow_cast-result : goal.overflow_cast-result
overflow_cast-result c = search (from-fits, rules)

pub returns : goal.returns
returns c = search exits
