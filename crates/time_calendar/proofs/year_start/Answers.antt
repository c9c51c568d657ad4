use Rattle.time_calendar.proofs.Years.{year_start-is, year_start-enough}
use borrow.Author.Rules.{rules}
use Rattle.time_calendar.proofs.year_start.Goals as goal

pub overflow_sub-result-2 : goal.overflow_sub-result-2
overflow_sub-result-2 c = search (year_start-enough, rules)

pub returns : goal.returns
returns c = search (year_start-is, rules)
