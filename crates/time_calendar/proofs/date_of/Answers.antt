use Rattle.time_calendar.proofs.Dates.{start-before, in_year_few, first-before, date_of_is}
use borrow.Author.Rules.{rules}
use Rattle.time_calendar.proofs.date_of.Goals as goal

pub month_of-month-requires : goal.month_of-month-requires
month_of-month-requires c = search (start-before, in_year_few, first-before, rules)

pub returns : goal.returns
returns c = search (date_of_is, rules)
