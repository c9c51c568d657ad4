use Rattle.time_parts.proofs.Exits.{clock_ok, clock_short, date_ok, moment_late, moment_undated, moment_unnamed, moment_by}
use borrow.Author.Rules.{rules}
use Rattle.time_parts.proofs.moment_nanoseconds.Goals as goal

pub returns-then-p-gt-LAST_YEAR : goal.returns-then-p-gt-LAST_YEAR
returns-then-p-gt-LAST_YEAR c = search (moment_late, moment_undated, moment_unnamed, moment_by, rules)

pub day_of-requires : goal.day_of-requires
day_of-requires c = search (date_ok, clock_ok, clock_short, rules)

pub clock_of-requires : goal.clock_of-requires
clock_of-requires c = search (date_ok, clock_ok, clock_short, rules)

pub from_day-requires : goal.from_day-requires
from_day-requires c = search (date_ok, clock_ok, clock_short, rules)

pub returns-then-names_clock : goal.returns-then-names_clock
returns-then-names_clock c = search (moment_late, moment_undated, moment_unnamed, moment_by, rules)

pub returns-then-names_date : goal.returns-then-names_date
returns-then-names_date c = search (moment_late, moment_undated, moment_unnamed, moment_by, rules)

pub returns : goal.returns
returns c = search (moment_late, moment_undated, moment_unnamed, moment_by, rules)
