use Rattle.time_calendar.proofs.Months.{even_leap_early, even_leap_late, even_early, even_late}
use borrow.Author.Rules.{rules}
use Rattle.time_calendar.proofs.even_day.Goals as goal

ruleset exits = (even_leap_early, even_leap_late, even_early, even_late, rules)

pub returns-then-day-lt60 : goal.returns-then-day-lt60
returns-then-day-lt60 c = search exits

pub returns-then-leap : goal.returns-then-leap
returns-then-leap c = search exits

pub returns-then-day-lt59 : goal.returns-then-day-lt59
returns-then-day-lt59 c = search exits

pub returns : goal.returns
returns c = search exits
