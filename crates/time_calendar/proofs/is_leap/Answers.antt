use borrow.Author.Rules.{rules}
use Rattle.time_calendar.proofs.Years.{leap_hundred, leap_other}
use Rattle.time_calendar.proofs.is_leap.Goals as goal

pub returns-then-year-eq0 : goal.returns-then-year-eq0
returns-then-year-eq0 c = search (leap_hundred, leap_other, rules)

pub returns : goal.returns
returns c = search (leap_hundred, leap_other, rules)
