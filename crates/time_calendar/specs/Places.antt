-- Where a day lies: in a year, and in a month of a year, by the days before them. Assumes nothing.
use Rattle.std.specs.Prelude.{Bool, cond, ℕ, ◌+◌, ◌-◌, ◌≤◌, ◌<◌, ltb}
use Rattle.time_calendar.specs.Calendar.{years_days, months_days}

-- a day since 1970-01-01 lies in a year
pub record InYear (day year : ℕ) : Type 0 where
  pub since : 1970 ≤ year
  pub early : year < 10000
  pub from : years_days (year - 1970) ≤ day
  pub to : day < years_days (year - 1970 + 1)

-- a day of a year, from 0, lies in a month
pub record InMonth (leap : Bool) (day month : ℕ) : Type 0 where
  pub first : 1 ≤ month
  pub last : month ≤ 12
  pub from : months_days leap (month - 1) ≤ day
  pub to : day < months_days leap month

-- a day of a year, from 0, as it were if February had 30 days
abbrev pub even_day : Bool → ℕ → ℕ
even_day leap day = cond leap (cond (ltb day 60) day (day + 1)) (cond (ltb day 59) day (day + 2))
