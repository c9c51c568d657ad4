use native.Mathlib.Omega.{arith}
use borrow.Author.Rules.{rules}
use Rattle.time_calendar.proofs.Months.{month_of_is, day_of_year_few, even_few}
use Rattle.time_calendar.proofs.month_of.Goals as goal

pub even_day-requires : goal.even_day-requires
even_day-requires c = search (day_of_year_few, rules)

pub overflow_mul-result : goal.overflow_mul-result
overflow_mul-result c = omega (arith, even_few _ _ _ c.even_day.ensures c.requires)

pub overflow_add-result : goal.overflow_add-result
overflow_add-result c = omega (arith, even_few _ _ _ c.even_day.ensures c.requires)

pub returns : goal.returns
returns c = search (month_of_is, rules)
