-- The types of IEC 61131-3 that count time, by their names (document 02, change request 7). Assumes nothing.
use Rattle.std.specs.Prelude.{cond, List, [], ◌∷◌, ℕ}
use Rattle.type_names.specs.Text.{ascii_bytes, is_one_of}
use Rattle.time_types.specs.declared.TimeType.{TimeType}
use Rattle.time_types.specs.declared.TimeType.TheVariants as time

-- what a type of that name counts
unfoldable pub time_type_of : List ℕ → TimeType
time_type_of name =
    cond (is_one_of name (ascii_bytes "TIME" ∷ [])) time.Time
    (cond (is_one_of name (ascii_bytes "LTIME" ∷ [])) time.LTime
    (cond (is_one_of name (ascii_bytes "TOD" ∷ ascii_bytes "TIME_OF_DAY" ∷ [])) time.TimeOfDay
    (cond (is_one_of name (ascii_bytes "DATE" ∷ ascii_bytes "DT" ∷ ascii_bytes "DATE_AND_TIME" ∷ [])) time.DateTime
    (cond (is_one_of name (ascii_bytes "LDATE" ∷ ascii_bytes "LDT" ∷ [])) time.LDateTime
    (cond (is_one_of name (ascii_bytes "LTOD" ∷ [])) time.LTimeOfDay time.NoTime)))))

-- the bytes that such a count has; 0 for a type that counts no time
abbrev pub time_width : TimeType → ℕ
time_width time.Time = 4
time_width time.LTime = 8
time_width time.TimeOfDay = 4
time_width time.LTimeOfDay = 8
time_width time.DateTime = 4
time_width time.LDateTime = 8
time_width time.NoTime = 0
