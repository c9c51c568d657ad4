use Rattle.time_calendar.proofs.Months.{start-few, start-other, start-late, start-early}
use borrow.Author.Rules.{rules}
use Rattle.time_calendar.proofs.month_start.Goals as goal

pub overflow_add-result : goal.overflow_add-result
overflow_add-result c = record { fits = search (start-few, rules) }

pub returns-then-month-gt2 : goal.returns-then-month-gt2
returns-then-month-gt2 c = search (start-other, start-late, start-early, rules)

pub returns-then-leap : goal.returns-then-leap
returns-then-leap c = search (start-other, start-late, start-early, rules)

pub returns : goal.returns
returns c = search (start-other, start-late, start-early, rules)
