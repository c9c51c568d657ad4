use Rattle.time_calendar.proofs.Years.{year_of_is, year_of_fits}
use borrow.Author.Rules.{rules}
use Rattle.time_calendar.proofs.year_of.Goals as goal

pub overflow_add-result-4 : goal.overflow_add-result-4
overflow_add-result-4 c = record { fits = search (year_of_fits, rules) }

pub returns : goal.returns
returns c = search (year_of_is, rules)
