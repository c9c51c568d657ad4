-- Parts as nanoseconds, which the functions below the two calls count. Assumes nothing.
use Rattle.std.specs.Prelude.{cond, ◌&&◌, ℕ, ◌+◌, ◌*◌, leb, Option, Some, None}
use Rattle.time_calendar.specs.Calendar.{names_date}
use Rattle.time_parts.specs.declared.Parts.{Parts}
use Rattle.time_parts.specs.Parts.{names_clock, clock_of, dateless, date_in, moment_of, day_length, count_in}

-- the nanoseconds since midnight of parts that name a time of day
unfoldable pub clock_nanoseconds : Parts → Option ℕ
clock_nanoseconds p = cond (dateless p && names_clock p) (Some (clock_of p)) None

-- the nanoseconds since 1970-01-01 00:00:00 of parts that name a moment, if they fit 8 bytes
unfoldable pub moment_nanoseconds : Parts → Option ℕ
moment_nanoseconds p =
    cond (names_date (date_in p) && names_clock p) (cond (leb (moment_of p) 0xffff_ffff_ffff_ffff) (Some (moment_of p)) None) None

-- the nanoseconds of whole days and of a time of day, if they fit 8 bytes
unfoldable pub sum_in : ℕ → ℕ → Option ℕ
sum_in day clock = cond (leb (day * day_length + clock) 0xffff_ffff_ffff_ffff) (Some (day * day_length + clock)) None

-- nanoseconds as a count of units
unfoldable pub in_units : ℕ → ℕ → Option ℕ → Option ℕ
in_units unit largest (Some n) = count_in unit largest n
in_units unit largest None = None
