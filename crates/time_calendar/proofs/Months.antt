-- The months of a year: tests that are computed for each month and each day of both kinds of years, and the laws that they give. Assumes nothing.
use mathlib.Core.Path.{◌≡◌, refl, sym}
use mathlib.Core.Bool.{Bool, true, false, cond, ◌&&◌}
use mathlib.Core.List.{List, [], ◌∷◌}
use Prim.Native.Nat.{ℕ, zero, suc, ◌+◌, ◌-◌, ◌*◌, ◌/◌, ◌^◌, ◌≤◌, ◌<◌}
use native.Mathlib.Omega.{arith}
use lib.ListN.{get_or, length}
use lib.Dec.{eqb, leb, ltb}
use borrow.Author.Tests.{eqb-true, eqb-false, leb-true, ltb-true, ltb-false, lt-ltb, le-ltb, eq-eqb, ne_eqb}
use Rattle.time_calendar.specs.Calendar.{month_days, months_days}
use Rattle.time_calendar.specs.Places.{InMonth, even_day}
use Rattle.time_calendar.proofs.Rising.{rises}

-- ---- a test of all numbers below a bound

every : (ℕ → Bool) → ℕ → Bool
every f zero = true
every f (suc n) = f n && every f n

and_first : (a b : Bool) → a && b ≡ true → a ≡ true
and_first true b e = refl
and_first false b e = e

and_second : (a b : Bool) → a && b ≡ true → b ≡ true
and_second true b e = e
and_second false b e = absurd (let z : ◌≡◌ {A = Bool} false true = e in no z)
  where
    no : false ≡ true → ⊥
    no z = let y : ◌≡◌ {A = ℕ} 0 1 = cc in omega arith

each : (f : ℕ → Bool) (n : ℕ) → every f n ≡ true → (k : ℕ) → k < n → f k ≡ true
unfolding every
each f zero e k h = absurd (omega arith)
each f (suc n) e k h = by (each f n (and_second (f n) (every f n) e) k) (eqb k n) refl
  where
    by : (k < n → f k ≡ true) → (t : Bool) → eqb k n ≡ t → f k ≡ true
    by less true q = rw (eqb-true k n q) (and_first (f n) (every f n) e)
    by less false q = less (omega (arith, eqb-false k n q))

-- ---- what the code's tables have

-- the days before each month, in a year that isn't leap
abbrev pub starts : List ℕ
starts = 0 ∷ 0 ∷ 31 ∷ 59 ∷ 90 ∷ 120 ∷ 151 ∷ 181 ∷ 212 ∷ 243 ∷ 273 ∷ 304 ∷ 334 ∷ []

-- the days of each month, in a year that isn't leap
abbrev pub lengths : List ℕ
lengths = 0 ∷ 31 ∷ 28 ∷ 31 ∷ 30 ∷ 31 ∷ 30 ∷ 31 ∷ 31 ∷ 30 ∷ 31 ∷ 30 ∷ 31 ∷ []

start-short : ℕ → Bool
start-short k = eqb (get_or starts (k + 1) 0) (months_days false k)

start_leap : ℕ → Bool
start_leap k = eqb (get_or starts (k + 1) 0 + cond (ltb 1 k) 1 0) (months_days true k)

length-short : ℕ → Bool
length-short m = eqb (get_or lengths m 0) (month_days false m)

length_leap : ℕ → Bool
length_leap m = eqb (cond (eqb m 2) 29 (get_or lengths m 0)) (month_days true m)

all-starts-short : every start-short 12 ≡ true
unfolding every start-short months_days month_days
all-starts-short = refl

all-starts_leap : every start_leap 12 ≡ true
unfolding every start_leap months_days month_days
all-starts_leap = refl

all-lengths-short : every length-short 13 ≡ true
unfolding every length-short month_days
all-lengths-short = refl

all-lengths_leap : every length_leap 13 ≡ true
unfolding every length_leap month_days
all-lengths_leap = refl

-- the days of the whole year
pub months_year : (leap : Bool) → months_days leap 12 ≡ cond leap 366 365
unfolding months_days month_days
months_year true = refl
months_year false = refl

pub months_rise : (leap : Bool) (k : ℕ) → months_days leap k ≤ months_days leap (suc k)
unfolding months_days
months_rise leap k = omega arith

-- ---- month_start, by the month's place from 0

start_in_short : (k : ℕ) → k < 12 → get_or starts (k + 1) 0 ≡ months_days false k
unfolding start-short
start_in_short k h = eqb-true _ _ (each start-short 12 all-starts-short k h)

start_in_leap : (k : ℕ) → k < 12 → get_or starts (k + 1) 0 + cond (ltb 1 k) 1 0 ≡ months_days true k
unfolding start_leap
start_in_leap k h = eqb-true _ _ (each start_leap 12 all-starts_leap k h)

starts-short : (k : ℕ) → k < 12 → months_days false k ≤ 365
starts-short k h = omega (arith, months_year false, rises (months_days false) (months_rise false) k 12 (omega arith))

module _ (leap : Bool) (m : ℕ) (lo : 1 ≤ m) (hi : m ≤ 12) where
  place : m - 1 + 1 ≡ m
  place = omega arith

  -- a start and one day more fit
  pub start-few : get_or starts m 0 + 1 < 2 ^ 32
  start-few = omega (arith, (rw place at (start_in_short (m - 1) (omega arith))), starts-short (m - 1) (omega arith))

  pub start-other : leap ≡ false → get_or starts m 0 ≡ months_days leap (m - 1)
  start-other e = rw e (rw place at (start_in_short (m - 1) (omega arith)))

  pub start-late : leap ≡ true → 2 < m → get_or starts m 0 + 1 ≡ months_days leap (m - 1)
  start-late e h = rw e (rw (place, lt-ltb 1 (m - 1) (omega arith)) at (start_in_leap (m - 1) (omega arith)))

  pub start-early : leap ≡ true → m ≤ 2 → get_or starts m 0 ≡ months_days leap (m - 1)
  start-early e h = rw e (plus_zero (rw (place, le-ltb 1 (m - 1) (omega arith)) at (start_in_leap (m - 1) (omega arith))))
    where
      plus_zero : {a b : ℕ} → a + 0 ≡ b → a ≡ b
      plus_zero p = omega arith

-- ---- month_days

get_d_past : (l : List ℕ) (i : ℕ) → length l ≤ i → get_or l i 0 ≡ 0
get_d_past [] i h = refl
get_d_past (x ∷ xs) zero h = absurd (omega arith)
get_d_past (x ∷ xs) (suc i) h = get_d_past xs i (omega arith)

pub days_none : (leap : Bool) (m : ℕ) → 12 < m → 0 ≡ month_days leap m
unfolding month_days
days_none leap m h = sym (get_d_past (0 ∷ 31 ∷ cond leap 29 28 ∷ 31 ∷ 30 ∷ 31 ∷ 30 ∷ 31 ∷ 31 ∷ 30 ∷ 31 ∷ 30 ∷ 31 ∷ []) m h)

module _ (leap : Bool) (m : ℕ) (hi : m ≤ 12) where
  pub days_other : leap ≡ false → get_or lengths m 0 ≡ month_days leap m
  unfolding length-short
  days_other e = rw e (eqb-true _ _ (each length-short 13 all-lengths-short m (omega arith)))

  days_leap : cond (eqb m 2) 29 (get_or lengths m 0) ≡ month_days true m
  unfolding length_leap
  days_leap = eqb-true _ _ (each length_leap 13 all-lengths_leap m (omega arith))

  pub days_february : leap ≡ true → m ≡ 2 → 29 ≡ month_days leap m
  days_february e h = rw e (rw (eq-eqb m 2 h) at days_leap)

  pub days_not_february : leap ≡ true → (m ≡ 2 → ⊥) → get_or lengths m 0 ≡ month_days leap m
  days_not_february e h = rw e (rw (ne_eqb m 2 h) at days_leap)

-- each month has a day
month_has : Bool → ℕ → Bool
month_has leap k = leb 1 (month_days leap (k + 1))

all_have : (leap : Bool) → every (month_has leap) 12 ≡ true
unfolding every month_has month_days
all_have true = refl
all_have false = refl

pub month_some : (leap : Bool) (m : ℕ) → 1 ≤ m → m ≤ 12 → 1 ≤ month_days leap m
unfolding month_has
month_some leap m lo hi = let e : m - 1 + 1 ≡ m = omega arith in (rw e at (leb-true 1 (month_days leap (m - 1 + 1)) (each (month_has leap) 12 (all_have leap) (m - 1) (omega arith))))

-- a month that has days is one of the twelve
pub month_one : (leap : Bool) (m : ℕ) → 1 ≤ month_days leap m → (1 ≤ m) × (m ≤ 12)
unfolding month_days
month_one leap zero h = absurd (omega arith)
month_one leap (suc k) h = by (ltb 12 (suc k)) refl
  where
    by : (t : Bool) → ltb 12 (suc k) ≡ t → (1 ≤ suc k) × (suc k ≤ 12)
    by true e = absurd (omega (arith, days_none leap (suc k) (ltb-true 12 (suc k) e)))
    by false e = (omega arith, ltb-false 12 (suc k) e)

-- ---- month_of

pub day_of_year_few : (leap : Bool) (day : ℕ) → day < months_days leap 12 → day < 366
day_of_year_few true day h = omega (arith, months_year true)
day_of_year_few false day h = omega (arith, months_year false)

-- even_day
module _ (leap : Bool) (day : ℕ) where
  pub even_leap_early : leap ≡ true → day < 60 → day ≡ even_day leap day
  even_leap_early e h = sym (rw (e, lt-ltb day 60 h))

  pub even_leap_late : leap ≡ true → 60 ≤ day → day + 1 ≡ even_day leap day
  even_leap_late e h = sym (rw (e, le-ltb day 60 h))

  pub even_early : leap ≡ false → day < 59 → day ≡ even_day leap day
  even_early e h = sym (rw (e, lt-ltb day 59 h))

  pub even_late : leap ≡ false → 59 ≤ day → day + 2 ≡ even_day leap day
  even_late e h = sym (rw (e, le-ltb day 59 h))

  pub even_few : (e : ℕ) → e ≡ even_day leap day → day < months_days leap 12 → e < 369
  even_few e q l = rw q (by leap (ltb day 60) (ltb day 59) (day_of_year_few leap day l))
    where
      by : (l a b : Bool) → day < 366 → cond l (cond a day (day + 1)) (cond b day (day + 2)) < 369
      by true true b h = omega arith
      by true false b h = omega arith
      by false a true h = omega arith
      by false a false h = omega arith

month_by : Bool → ℕ → ℕ
month_by leap day = (12 * even_day leap day + 373) / 367

month_right : Bool → ℕ → Bool
month_right leap day =
    leb 1 (month_by leap day) && (leb (month_by leap day) 12 && (leb (months_days leap (month_by leap day - 1)) day && ltb day (months_days leap (month_by leap day))))

all_short : every (month_right false) 365 ≡ true
unfolding every month_right month_by months_days month_days
all_short = refl

all_leap : every (month_right true) 366 ≡ true
unfolding every month_right month_by months_days month_days
all_leap = refl

right_month : (leap : Bool) (day : ℕ) → day < months_days leap 12 → month_right leap day ≡ true
right_month true day h = each (month_right true) 366 all_leap day (omega (arith, months_year true))
right_month false day h = each (month_right false) 365 all_short day (omega (arith, months_year false))

-- the test, taken apart
by-test : (leap : Bool) (day m : ℕ) → leb 1 m && (leb m 12 && (leb (months_days leap (m - 1)) day && ltb day (months_days leap m))) ≡ true → InMonth leap day m
by-test leap day m e =
    let e1 = and_second (leb 1 m) (leb m 12 && (leb (months_days leap (m - 1)) day && ltb day (months_days leap m))) e in
    let e2 = and_second (leb m 12) (leb (months_days leap (m - 1)) day && ltb day (months_days leap m)) e1 in
    record {
      first = leb-true 1 m (and_first (leb 1 m) (leb m 12 && (leb (months_days leap (m - 1)) day && ltb day (months_days leap m))) e);
      last = leb-true m 12 (and_first (leb m 12) (leb (months_days leap (m - 1)) day && ltb day (months_days leap m)) e1);
      from = leb-true _ _ (and_first (leb (months_days leap (m - 1)) day) (ltb day (months_days leap m)) e2);
      to = ltb-true _ _ (and_second (leb (months_days leap (m - 1)) day) (ltb day (months_days leap m)) e2);
    }

pub month_of_is : (leap : Bool) (day e : ℕ) → day < months_days leap 12 → e ≡ even_day leap day → InMonth leap day ((12 * e + 373) / 367)
unfolding month_right month_by
month_of_is leap day e h q = rw q (by-test leap day ((12 * even_day leap day + 373) / 367) (right_month leap day h))
