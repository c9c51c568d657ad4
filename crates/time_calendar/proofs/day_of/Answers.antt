use Rattle.time_calendar.proofs.Dates.{day_since, day_first, day_month_lo, day_month_hi, day_of_is, day_start-fits, day_sum-fits}
use borrow.Author.Rules.{rules}
use Rattle.time_calendar.proofs.day_of.Goals as goal

pub year_start-requires : goal.year_start-requires
year_start-requires c = search (day_since, day_first, day_month_lo, day_month_hi, rules)

pub month_start-requires : goal.month_start-requires
month_start-requires c = search (day_since, day_first, day_month_lo, day_month_hi, rules)

pub overflow_add-result : goal.overflow_add-result
overflow_add-result c = record { fits = search (day_start-fits, day_sum-fits, rules) }

pub overflow_sub-result : goal.overflow_sub-result
overflow_sub-result c = search (day_since, day_first, day_month_lo, day_month_hi, rules)

pub overflow_add-result-2 : goal.overflow_add-result-2
overflow_add-result-2 c = record { fits = search (day_start-fits, day_sum-fits, rules) }

pub returns : goal.returns
returns c = search (day_of_is, rules)
