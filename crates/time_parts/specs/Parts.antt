-- A count of time as year, month, day, hour, minute, second and nanosecond, and back (document 02, change request 7). Assumes nothing.
use Rattle.std.specs.Prelude.{Bool, cond, ◌&&◌, List, [], ◌∷◌, ℕ, ◌+◌, ◌*◌, ◌/◌, ◌%◌, eqb, leb, ltb, Option, Some, None}
use Rattle.enc_number.specs.Refusals as refusal
use Rattle.time_calendar.specs.declared.Date.{Date}
use Rattle.time_calendar.specs.Calendar.{names_date, day_number, date_of}
use Rattle.time_types.specs.declared.TimeType.{TimeType}
use Rattle.time_types.specs.declared.TimeType.TheVariants as time
use Rattle.time_types.specs.Types.{time_type_of}
use Rattle.time_parts.specs.declared.Parts.{Parts}

-- ---- answers as numbers

-- document 02's number and values of the parts: 0, then the seven of them, or 24
unfoldable pub parts_numbers : Option Parts → List ℕ
parts_numbers (Some p) = 0 ∷ p.year ∷ p.month ∷ p.day ∷ p.hour ∷ p.minute ∷ p.second ∷ p.nanosecond ∷ []
parts_numbers None = refusal.no_moment ∷ []

-- document 02's number and value of a count: 0, then the count, or 24
unfoldable pub count_numbers : Option ℕ → List ℕ
count_numbers (Some n) = 0 ∷ n ∷ []
count_numbers None = refusal.no_moment ∷ []

-- ---- from a count to its parts

-- the nanoseconds of a day
abbrev pub day_length : ℕ
day_length = 86_400_000_000_000

-- the parts of a date and of n nanoseconds since midnight
unfoldable pub parts_at : Date → ℕ → Parts
parts_at d n = record {
  year = d.year;
  month = d.month;
  day = d.day;
  hour = n / 3_600_000_000_000;
  minute = n / 60_000_000_000 % 60;
  second = n / 1_000_000_000 % 60;
  nanosecond = n % 1_000_000_000;
}

-- the parts of a time of day, n nanoseconds since midnight: no date
unfoldable pub clock_parts : ℕ → Parts
clock_parts n = parts_at (record { year = 0; month = 0; day = 0 }) n

-- the parts of a moment, n nanoseconds since 1970-01-01 00:00:00
unfoldable pub moment_parts : ℕ → Parts
moment_parts n = parts_at (date_of (n / day_length)) (n % day_length)

-- the parts of a count: milliseconds or nanoseconds since midnight, which are less than a day; seconds, in 4 bytes, or nanoseconds, in 8,
-- since 1970-01-01 00:00:00; a type that counts something else has none
unfoldable pub time_parts : TimeType → ℕ → Option Parts
time_parts time.Time n = None
time_parts time.LTime n = None
time_parts time.TimeOfDay n = cond (ltb n 86_400_000) (Some (clock_parts (n * 1_000_000))) None
time_parts time.LTimeOfDay n = cond (ltb n day_length) (Some (clock_parts n)) None
time_parts time.DateTime n = cond (leb n 0xffff_ffff) (Some (moment_parts (n * 1_000_000_000))) None
time_parts time.LDateTime n = cond (leb n 0xffff_ffff_ffff_ffff) (Some (moment_parts n)) None
time_parts time.NoTime n = None

-- the parts of a count of the type of that name
abbrev pub parts_named : List ℕ → ℕ → Option Parts
parts_named name n = time_parts (time_type_of name) n

-- ---- from parts to the count

-- hour, minute, second and nanosecond name a time of day
unfoldable pub names_clock : Parts → Bool
names_clock p = ltb p.hour 24 && (ltb p.minute 60 && (ltb p.second 60 && ltb p.nanosecond 1_000_000_000))

-- the nanoseconds since midnight
unfoldable pub clock_of : Parts → ℕ
clock_of p = ((p.hour * 60 + p.minute) * 60 + p.second) * 1_000_000_000 + p.nanosecond

-- there is no date
unfoldable pub dateless : Parts → Bool
dateless p = eqb p.year 0 && (eqb p.month 0 && eqb p.day 0)

-- the date
abbrev pub date_in : Parts → Date
date_in p = record { year = p.year; month = p.month; day = p.day }

-- the nanoseconds since 1970-01-01 00:00:00
unfoldable pub moment_of : Parts → ℕ
moment_of p = day_number (date_in p) * day_length + clock_of p

-- n nanoseconds as a count of units, which is at most the largest; nothing may be left over
unfoldable pub count_in : ℕ → ℕ → ℕ → Option ℕ
count_in unit largest n = cond (eqb (n % unit) 0) (cond (leb (n / unit) largest) (Some (n / unit)) None) None

-- the count of parts that name a time of day
unfoldable pub clock_count : ℕ → Parts → Option ℕ
clock_count unit p = cond (dateless p && names_clock p) (count_in unit 0xffff_ffff_ffff_ffff (clock_of p)) None

-- the count of parts that name a moment
unfoldable pub moment_count : ℕ → ℕ → Parts → Option ℕ
moment_count unit largest p = cond (names_date (date_in p) && names_clock p) (count_in unit largest (moment_of p)) None

-- the count that has these parts
unfoldable pub time_count : TimeType → Parts → Option ℕ
time_count time.Time p = None
time_count time.LTime p = None
time_count time.TimeOfDay p = clock_count 1_000_000 p
time_count time.LTimeOfDay p = clock_count 1 p
time_count time.DateTime p = moment_count 1_000_000_000 0xffff_ffff p
time_count time.LDateTime p = moment_count 1 0xffff_ffff_ffff_ffff p
time_count time.NoTime p = None

-- the count of the type of that name that has these parts
abbrev pub count_named : List ℕ → Parts → Option ℕ
count_named name p = time_count (time_type_of name) p
