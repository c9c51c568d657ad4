-- What the functions answer at each exit. Assumes nothing.
use Rattle.std.specs.Prelude.{Option, Some, None}
use mathlib.Core.Path.{◌≡◌, refl, sym, ap, ◌∙◌}
use mathlib.Core.Bool.{Bool, true, false, cond, ◌&&◌}
use mathlib.Core.List.{List}
use Prim.Native.Nat.{ℕ, ◌+◌, ◌-◌, ◌*◌, ◌/◌, ◌%◌, ◌^◌, ◌≤◌, ◌<◌}
use native.Mathlib.Omega.{arith}
use lib.Dec.{eqb, leb}
use borrow.Author.Tests.{lt-ltb, le-ltb, le-leb, lt-leb, eq-eqb, ne_eqb, leb-false}
use Rattle.time_calendar.specs.declared.Date.{Date}
use Rattle.time_calendar.specs.Calendar.{names_date, day_number, date_of}
use Rattle.time_calendar.proofs.Dates.{late_year}
use Rattle.time_types.specs.declared.TimeType.{TimeType}
use Rattle.time_types.specs.declared.TimeType.TheVariants as time
use Rattle.time_types.specs.Types.{time_type_of}
use Rattle.time_parts.specs.declared.Parts.{Parts}
use Rattle.time_parts.specs.Parts.{parts_numbers, count_numbers, day_length, parts_at, clock_parts, moment_parts, time_parts, names_clock, clock_of, dateless, date_in, moment_of, count_in, clock_count, moment_count, time_count}
use Rattle.time_parts.specs.Nanoseconds.{clock_nanoseconds, moment_nanoseconds, sum_in, in_units}
use Rattle.time_parts.proofs.Clock.{clock_few}

-- ---- from a count to its parts

pub parts-at-is : (d : Date) (n : ℕ)
    → ◌≡◌ {A = Parts}
    (record { year = d.year; month = d.month; day = d.day; hour = n / 3_600_000_000_000; minute = n / 60_000_000_000 % 60; second = n / 1_000_000_000 % 60; nanosecond = n % 1_000_000_000 })
    (parts_at d n)
unfolding parts_at
parts-at-is d n = refl

pub clock_parts-is : (n : ℕ) (p : Parts) → p ≡ parts_at (record { year = 0; month = 0; day = 0 }) n → p ≡ clock_parts n
unfolding clock_parts
clock_parts-is n p e = e

pub moment_parts-is : (n : ℕ) (d : Date) (p : Parts) → d ≡ date_of (n / day_length) → p ≡ parts_at d (n % day_length) → p ≡ moment_parts n
unfolding moment_parts
moment_parts-is n d p e q = q ∙ ap (λ (x : Date). parts_at x (n % day_length)) e

module _ (y : TimeType) (n : ℕ) where
  pub parts-time : y ≡ time.Time → None ≡ time_parts y n
  unfolding time_parts
  parts-time e = sym (rw e)

  pub parts-ltime : y ≡ time.LTime → None ≡ time_parts y n
  unfolding time_parts
  parts-ltime e = sym (rw e)

  pub parts_none : y ≡ time.NoTime → None ≡ time_parts y n
  unfolding time_parts
  parts_none e = sym (rw e)

  pub parts-tod : y ≡ time.TimeOfDay → n < 86_400_000 → (p : Parts) → p ≡ clock_parts (n * 1_000_000) → Some p ≡ time_parts y n
  unfolding time_parts
  parts-tod e h p q = sym (rw (e, lt-ltb n 86_400_000 h, q))

  pub parts-tod-late : y ≡ time.TimeOfDay → 86_400_000 ≤ n → None ≡ time_parts y n
  unfolding time_parts
  parts-tod-late e h = sym (rw (e, le-ltb n 86_400_000 h))

  pub parts-ltod : y ≡ time.LTimeOfDay → n < day_length → (p : Parts) → p ≡ clock_parts n → Some p ≡ time_parts y n
  unfolding time_parts
  parts-ltod e h p q = sym (rw (e, lt-ltb n day_length h, q))

  pub parts-ltod-late : y ≡ time.LTimeOfDay → day_length ≤ n → None ≡ time_parts y n
  unfolding time_parts
  parts-ltod-late e h = sym (rw (e, le-ltb n day_length h))

  pub parts-dt : y ≡ time.DateTime → n ≤ 0xffff_ffff → (p : Parts) → p ≡ moment_parts (n * 1_000_000_000) → Some p ≡ time_parts y n
  unfolding time_parts
  parts-dt e h p q = sym (rw (e, le-leb n 0xffff_ffff h, q))

  pub parts-dt-late : y ≡ time.DateTime → 0xffff_ffff < n → None ≡ time_parts y n
  unfolding time_parts
  parts-dt-late e h = sym (rw (e, lt-leb n 0xffff_ffff h))

  pub parts-ldt : y ≡ time.LDateTime → n < 2 ^ 64 → (p : Parts) → p ≡ moment_parts n → Some p ≡ time_parts y n
  unfolding time_parts
  parts-ldt e h p q = sym (rw (e, le-leb n 0xffff_ffff_ffff_ffff (omega arith), q))

pub parts_say : (name : List ℕ) (n : ℕ) (y : TimeType) (r : Option Parts) → y ≡ time_type_of name → r ≡ time_parts y n → parts_numbers r ≡ parts_numbers (time_parts (time_type_of name) n)
parts_say name n y r e q = ap parts_numbers (q ∙ ap (λ (x : TimeType). time_parts x n) e)

-- ---- from parts to the count

module _ (p : Parts) where
  -- the tests have been passed
  pub clock_ok : (b : Bool) → b ≡ names_clock p → b ≡ true → names_clock p ≡ true
  clock_ok b e h = sym e ∙ h

  pub date_ok : (a : Bool) → a ≡ names_date (date_in p) → a ≡ true → names_date (date_in p) ≡ true
  date_ok a e h = sym e ∙ h

  pub clock_short : (b : Bool) → b ≡ names_clock p → b ≡ true → (n : ℕ) → n ≡ clock_of p → n < day_length
  clock_short b e h n q = omega (arith, q, clock_few p (clock_ok b e h))

  -- moment_nanoseconds
  pub moment_late : 2554 < p.year → None ≡ moment_nanoseconds p
  unfolding moment_nanoseconds moment_of
  moment_late h = by (names_date (date_in p)) refl (names_clock p)
    where
      by : (a : Bool) → names_date (date_in p) ≡ a → (b : Bool)
          → None ≡ cond (a && b) (cond (leb (day_number (date_in p) * day_length + clock_of p) 0xffff_ffff_ffff_ffff) (Some (day_number (date_in p) * day_length + clock_of p)) None) None
      by false e b = refl
      by true e false = refl
      by true e true =
          let l : 213_503 < day_number (date_in p) = late_year (date_in p) e h in
          sym (rw (lt-leb (day_number (date_in p) * day_length + clock_of p) 0xffff_ffff_ffff_ffff (omega arith)))

  module _ (a : Bool) (ea : a ≡ names_date (date_in p)) where
    pub moment_undated : a ≡ false → None ≡ moment_nanoseconds p
    unfolding moment_nanoseconds
    moment_undated h = sym (rw (← ea, h))

    module _ (h : a ≡ true) (b : Bool) (eb : b ≡ names_clock p) where
      pub moment_unnamed : b ≡ false → None ≡ moment_nanoseconds p
      unfolding moment_nanoseconds
      moment_unnamed k = sym (rw (← ea, h, ← eb, k))

      pub moment_by : b ≡ true → (d n : ℕ) → d ≡ day_number (date_in p) → n ≡ clock_of p → (r : Option ℕ) → r ≡ sum_in d n → r ≡ moment_nanoseconds p
      unfolding moment_nanoseconds moment_of sum_in
      moment_by k d n ed en r e = rw (← ea, h, ← eb, k, ← ed, ← en) e

-- from_day
module _ (day clock : ℕ) where
  pub day_late : 213_503 < day → None ≡ sum_in day clock
  unfolding sum_in
  day_late l = sym (rw (lt-leb (day * day_length + clock) 0xffff_ffff_ffff_ffff (omega arith)))

  module _ (l : day ≤ 213_503) where
    pub sum-late : 0xffff_ffff_ffff_ffff - day * day_length < clock → None ≡ sum_in day clock
    unfolding sum_in
    sum-late h = sym (rw (lt-leb (day * day_length + clock) 0xffff_ffff_ffff_ffff (omega arith)))

    pub sum_told : clock ≤ 0xffff_ffff_ffff_ffff - day * day_length → Some (day * day_length + clock) ≡ sum_in day clock
    unfolding sum_in
    sum_told h = sym (rw (le-leb (day * day_length + clock) 0xffff_ffff_ffff_ffff (omega arith)))

-- in_units
module _ (unit largest : ℕ) (m : Option ℕ) where
  pub units_refused : m ≡ None → None ≡ in_units unit largest m
  unfolding in_units
  units_refused e = sym (rw e)

  module _ (n : ℕ) (e : m ≡ Some n) where
    pub units_left : (n % unit ≡ 0 → ⊥) → None ≡ in_units unit largest m
    unfolding in_units count_in
    units_left h = sym (rw (e, ne_eqb (n % unit) 0 h))

    module _ (h : n % unit ≡ 0) where
      pub units_late : largest < n / unit → None ≡ in_units unit largest m
      unfolding in_units count_in
      units_late l = sym (rw (e, eq-eqb (n % unit) 0 h, lt-leb (n / unit) largest l))

      pub units_told : n / unit ≤ largest → Some (n / unit) ≡ in_units unit largest m
      unfolding in_units count_in
      units_told l = sym (rw (e, eq-eqb (n % unit) 0 h, le-leb (n / unit) largest l))

-- a moment past 64 bits of nanoseconds is no count of a type
past-seconds : (n : ℕ) → 0xffff_ffff_ffff_ffff < n → None ≡ count_in 1_000_000_000 0xffff_ffff n
unfolding count_in
past-seconds n h = by (eqb (n % 1_000_000_000) 0)
  where
    by : (b : Bool) → None ≡ cond b (cond (leb (n / 1_000_000_000) 0xffff_ffff) (Some (n / 1_000_000_000)) None) None
    by true = sym (rw (lt-leb (n / 1_000_000_000) 0xffff_ffff (omega arith)))
    by false = refl

past-nanoseconds : (n : ℕ) → 0xffff_ffff_ffff_ffff < n → None ≡ count_in 1 0xffff_ffff_ffff_ffff n
unfolding count_in
past-nanoseconds n h = by (eqb (n % 1) 0)
  where
    by : (b : Bool) → None ≡ cond b (cond (leb (n / 1) 0xffff_ffff_ffff_ffff) (Some (n / 1)) None) None
    by true = sym (rw (lt-leb (n / 1) 0xffff_ffff_ffff_ffff (omega arith)))
    by false = refl

module _ (unit : ℕ) (p : Parts) where
  clock_units : (largest : ℕ) → in_units unit largest (clock_nanoseconds p) ≡ cond (dateless p && names_clock p) (count_in unit largest (clock_of p)) None
  unfolding clock_nanoseconds in_units
  clock_units largest = by (dateless p && names_clock p)
    where
      by : (b : Bool) → in_units unit largest (cond b (Some (clock_of p)) None) ≡ cond b (count_in unit largest (clock_of p)) None
      by true = refl
      by false = refl

  moment_units : (largest : ℕ) → ((n : ℕ) → 0xffff_ffff_ffff_ffff < n → None ≡ count_in unit largest n) → in_units unit largest (moment_nanoseconds p) ≡ moment_count unit largest p
  unfolding moment_nanoseconds in_units moment_count
  moment_units largest past = by (names_date (date_in p) && names_clock p) (leb (moment_of p) 0xffff_ffff_ffff_ffff) refl
    where
      by : (a b : Bool) → leb (moment_of p) 0xffff_ffff_ffff_ffff ≡ b
          → in_units unit largest (cond a (cond b (Some (moment_of p)) None) None) ≡ cond a (count_in unit largest (moment_of p)) None
      by false b e = refl
      by true true e = refl
      by true false e = past (moment_of p) (leb-false _ _ e)

-- count_by
module _ (y : TimeType) (p : Parts) where
  pub count-time : y ≡ time.Time → None ≡ time_count y p
  unfolding time_count
  count-time e = sym (rw e)

  pub count-ltime : y ≡ time.LTime → None ≡ time_count y p
  unfolding time_count
  count-ltime e = sym (rw e)

  pub count_none : y ≡ time.NoTime → None ≡ time_count y p
  unfolding time_count
  count_none e = sym (rw e)

  module _ (m r : Option ℕ) where
    pub count-tod : y ≡ time.TimeOfDay → m ≡ clock_nanoseconds p → r ≡ in_units 1_000_000 0xffff_ffff_ffff_ffff m → r ≡ time_count y p
    unfolding time_count clock_count
    count-tod e em er = rw e (er ∙ rw em (clock_units 1_000_000 p 0xffff_ffff_ffff_ffff))

    pub count-ltod : y ≡ time.LTimeOfDay → m ≡ clock_nanoseconds p → r ≡ in_units 1 0xffff_ffff_ffff_ffff m → r ≡ time_count y p
    unfolding time_count clock_count
    count-ltod e em er = rw e (er ∙ rw em (clock_units 1 p 0xffff_ffff_ffff_ffff))

    pub count-dt : y ≡ time.DateTime → m ≡ moment_nanoseconds p → r ≡ in_units 1_000_000_000 0xffff_ffff m → r ≡ time_count y p
    unfolding time_count
    count-dt e em er = rw e (er ∙ rw em (moment_units 1_000_000_000 p 0xffff_ffff past-seconds))

    pub count-ldt : y ≡ time.LDateTime → m ≡ moment_nanoseconds p → r ≡ in_units 1 0xffff_ffff_ffff_ffff m → r ≡ time_count y p
    unfolding time_count
    count-ldt e em er = rw e (er ∙ rw em (moment_units 1 p 0xffff_ffff_ffff_ffff past-nanoseconds))

pub count_say : (name : List ℕ) (p : Parts) (y : TimeType) (r : Option ℕ) → y ≡ time_type_of name → r ≡ time_count y p → count_numbers r ≡ count_numbers (time_count (time_type_of name) p)
count_say name p y r e q = ap count_numbers (q ∙ ap (λ (x : TimeType). time_count x p) e)
