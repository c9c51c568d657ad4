use Rattle.plan_adds.proofs.Fetches.{ready-cut, ready-fits}
use Rattle.plan_save.proofs.Turns.{ready-book, rounds-start, rounds-ready, rounds-holds, rounds-trusted, rounds-end, rounds-again, rounds-is}
use borrow.Author.Rules.{rules}
use Rattle.plan_save.proofs.plan_rounds.Goals as goal

ruleset exits = (rounds-end, rounds-is)

pub loop-left-init : goal.loop-left-init
loop-left-init c = (search rounds-start, search rules, search rules, search rules, search rules, search rules)

pub slice_bounds-swept_from-end : goal.slice_bounds-swept_from-end
slice_bounds-swept_from-end c = search ready-fits

pub slice_bounds-swept_from-end-in-loop-left : goal.slice_bounds-swept_from-end-in-loop-left
slice_bounds-swept_from-end-in-loop-left c = search ready-cut

pub swept_from-from-requires : goal.swept_from-from-requires
swept_from-from-requires c = search ready-book

pub one_round-here-requires : goal.one_round-here-requires
one_round-here-requires c = (search rules, search rounds-trusted, search rounds-ready, search rounds-holds, search rules, search rules)

pub returns-in-Break : goal.returns-in-Break
returns-in-Break c = search exits

pub loop-left-preserved : goal.loop-left-preserved
loop-left-preserved c = (search rounds-again, search rules, search rules, search rules, search rules, search rules)

pub returns : goal.returns
returns c = search exits
