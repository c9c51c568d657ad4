-- The Gregorian calendar by its rule, from 1970-01-01 on (document 02, change request 7). Assumes nothing.
use Rattle.std.specs.Prelude.{Bool, cond, not, ◌&&◌, ◌||◌, List, [], ◌∷◌, ℕ, zero, suc, ◌+◌, ◌-◌, ◌%◌, get_or, eqb, leb, ltb}
use Rattle.time_calendar.specs.declared.Date.{Date}

-- a year is leap if 4 divides it, and 100 doesn't unless 400 does
unfoldable pub is_leap : ℕ → Bool
is_leap year = eqb (year % 4) 0 && (not (eqb (year % 100) 0) || eqb (year % 400) 0)

-- the days of a year
unfoldable pub year_days : ℕ → ℕ
year_days year = cond (is_leap year) 366 365

-- the days of a month, January being 1, in a leap year or another; there is no month 0 and none past 12
unfoldable pub month_days : Bool → ℕ → ℕ
month_days leap month = get_or (0 ∷ 31 ∷ cond leap 29 28 ∷ 31 ∷ 30 ∷ 31 ∷ 30 ∷ 31 ∷ 31 ∷ 30 ∷ 31 ∷ 30 ∷ 31 ∷ []) month 0

-- the days of the first k years from 1970 on
unfoldable pub years_days : ℕ → ℕ
years_days zero = 0
years_days (suc k) = years_days k + year_days (1970 + k)

-- the days of the first k months of a year
unfoldable pub months_days : Bool → ℕ → ℕ
months_days leap zero = 0
months_days leap (suc k) = months_days leap k + month_days leap (suc k)

-- the numbers name a date that is not before 1970
unfoldable pub names_date : Date → Bool
names_date t = leb 1970 t.year && (leb 1 t.day && leb t.day (month_days (is_leap t.year) t.month))

-- the days from 1970-01-01 to a date
unfoldable pub day_number : Date → ℕ
day_number t = years_days (t.year - 1970) + months_days (is_leap t.year) (t.month - 1) + (t.day - 1)

-- the day after: in the same month, else the first of the next month, after December that of the next year
unfoldable pub next_day : Date → Date
next_day t =
    cond (ltb t.day (month_days (is_leap t.year) t.month))
    (record { year = t.year; month = t.month; day = t.day + 1 })
    (cond (ltb t.month 12)
    (record { year = t.year; month = t.month + 1; day = 1 })
    (record { year = t.year + 1; month = 1; day = 1 }))

-- the date that is n days after 1970-01-01
unfoldable pub date_of : ℕ → Date
date_of zero = record { year = 1970; month = 1; day = 1 }
date_of (suc n) = next_day (date_of n)
