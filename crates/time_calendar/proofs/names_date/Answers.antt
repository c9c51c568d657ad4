use Rattle.time_calendar.proofs.Dates.{names-before, names-no_day, names-by_month}
use borrow.Author.Rules.{rules}
use Rattle.time_calendar.proofs.names_date.Goals as goal

pub returns-then-date-lt1970 : goal.returns-then-date-lt1970
returns-then-date-lt1970 c = search (names-before, names-no_day, names-by_month, rules)

pub returns-then-date-lt1 : goal.returns-then-date-lt1
returns-then-date-lt1 c = search (names-before, names-no_day, names-by_month, rules)

pub returns : goal.returns
returns c = search (names-before, names-no_day, names-by_month, rules)
