use Rattle.time_parts.proofs.Exits.{day_late, sum-late, sum_told}
use borrow.Author.Rules.{rules}
use Rattle.time_parts.proofs.from_day.Goals as goal

pub returns-then-day-gt-LAST_DAY : goal.returns-then-day-gt-LAST_DAY
returns-then-day-gt-LAST_DAY c = search (day_late, sum-late, sum_told, rules)

pub returns-then-start-clock : goal.returns-then-start-clock
returns-then-start-clock c = search (day_late, sum-late, sum_told, rules)

pub returns : goal.returns
returns c = search (day_late, sum-late, sum_told, rules)
