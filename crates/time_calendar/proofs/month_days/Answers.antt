use Rattle.time_calendar.proofs.Months.{days_none, days_other, days_february, days_not_february}
use borrow.Author.Rules.{rules}
use Rattle.time_calendar.proofs.month_days.Goals as goal

pub returns-then-month-gt12 : goal.returns-then-month-gt12
returns-then-month-gt12 c = search (days_none, days_other, days_february, days_not_february, rules)

pub returns-then-month-eq2 : goal.returns-then-month-eq2
returns-then-month-eq2 c = search (days_none, days_other, days_february, days_not_february, rules)

pub returns-then-leap : goal.returns-then-leap
returns-then-leap c = search (days_none, days_other, days_february, days_not_february, rules)

pub returns : goal.returns
returns c = search (days_none, days_other, days_february, days_not_february, rules)
