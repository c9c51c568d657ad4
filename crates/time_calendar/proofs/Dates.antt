-- Dates and the days since 1970-01-01: each day has one date, and each date one day. Assumes nothing.
use mathlib.Core.Path.{◌≡◌, refl, sym, ap, ◌∙◌}
use mathlib.Core.Bool.{Bool, true, false, cond, ◌&&◌}
use Prim.Native.Nat.{ℕ, zero, suc, ◌+◌, ◌-◌, ◌*◌, ◌^◌, ◌≤◌, ◌<◌}
use native.Mathlib.Omega.{arith}
use lib.Dec.{leb, ltb}
use borrow.Author.Tests.{leb-true, ltb-true, ltb-false, le-leb, lt-leb}
use Rattle.time_calendar.specs.declared.Date.{Date}
use Rattle.time_calendar.specs.Calendar.{is_leap, year_days, month_days, years_days, months_days, names_date, day_number, next_day, date_of}
use Rattle.time_calendar.specs.Places.{InYear, InMonth}
use Rattle.time_calendar.proofs.Rising.{rises, one_place}
use Rattle.time_calendar.proofs.Years.{years_sum}
use Rattle.time_calendar.proofs.Months.{months_year, months_rise, month_some, month_one}

-- what it is to name a date
pub record Named (t : Date) : Type 0 where
  pub since : 1970 ≤ t.year
  pub first : 1 ≤ t.day
  pub last : t.day ≤ month_days (is_leap t.year) t.month

and_first : (a b : Bool) → a && b ≡ true → a ≡ true
and_first true b e = refl
and_first false b e = e

and_second : (a b : Bool) → a && b ≡ true → b ≡ true
and_second true b e = e
and_second false b e = absurd (let z : ◌≡◌ {A = ℕ} 0 1 = cc in omega arith)

pub named-is : (t : Date) → names_date t ≡ true → Named t
unfolding names_date
named-is t e =
    let rest = and_second (leb 1970 t.year) (leb 1 t.day && leb t.day (month_days (is_leap t.year) t.month)) e in
    record {
      since = leb-true _ _ (and_first (leb 1970 t.year) (leb 1 t.day && leb t.day (month_days (is_leap t.year) t.month)) e);
      first = leb-true _ _ (and_first (leb 1 t.day) (leb t.day (month_days (is_leap t.year) t.month)) rest);
      last = leb-true _ _ (and_second (leb 1 t.day) (leb t.day (month_days (is_leap t.year) t.month)) rest);
    }

pub names-is : (t : Date) → Named t → names_date t ≡ true
unfolding names_date
names-is t n = rw (le-leb 1970 t.year n.since, le-leb 1 t.day n.first) (le-leb _ _ n.last)

-- names_date
module _ (t : Date) where
  pub names-before : t.year < 1970 → false ≡ names_date t
  unfolding names_date
  names-before h = sym (rw (lt-leb 1970 t.year h))

  module _ (h : 1970 ≤ t.year) where
    pub names-no_day : t.day < 1 → false ≡ names_date t
    unfolding names_date
    names-no_day l = sym (rw (le-leb 1970 t.year h, lt-leb 1 t.day l))

    pub names-by_month : 1 ≤ t.day → (leap : Bool) → leap ≡ is_leap t.year → (n : ℕ) → n ≡ month_days leap t.month → leb t.day n ≡ names_date t
    unfolding names_date
    names-by_month l leap e n q = sym (rw (le-leb 1970 t.year h, le-leb 1 t.day l, ← e, ← q))

-- ---- a date lies in its year and in its month

years_rise : (k : ℕ) → years_days k ≤ years_days (suc k)
unfolding years_days
years_rise k = omega arith

months_next : (leap : Bool) (m : ℕ) → 1 ≤ m → months_days leap m ≡ months_days leap (m - 1) + month_days leap m
unfolding months_days
months_next leap zero h = absurd (omega arith)
months_next leap (suc k) h = let e : suc k - 1 ≡ k = omega arith in rw e

module _ (t : Date) (n : Named t) where
  month_lo : 1 ≤ t.month
  month_lo = (month_one (is_leap t.year) t.month (omega (arith, n.first, n.last))).0

  month_hi : t.month ≤ 12
  month_hi = (month_one (is_leap t.year) t.month (omega (arith, n.first, n.last))).1

  -- the day of the year
  day_in_year : ℕ
  day_in_year = months_days (is_leap t.year) (t.month - 1) + (t.day - 1)

  pub lies_in_month : InMonth (is_leap t.year) (months_days (is_leap t.year) (t.month - 1) + (t.day - 1)) t.month
  lies_in_month = record {
    first = month_lo;
    last = month_hi;
    from = omega arith;
    to = omega (arith, months_next (is_leap t.year) t.month month_lo, n.first, n.last);
  }

  day_few : months_days (is_leap t.year) (t.month - 1) + (t.day - 1) < months_days (is_leap t.year) 12
  day_few = omega (arith, lies_in_month.to, rises (months_days (is_leap t.year)) (months_rise (is_leap t.year)) t.month 12 month_hi)

  year_next : years_days (suc (t.year - 1970)) ≡ years_days (t.year - 1970) + months_days (is_leap t.year) 12
  unfolding years_days year_days
  year_next = let e : 1970 + (t.year - 1970) ≡ t.year = omega (arith, n.since) in rw (e, months_year)

  pub lies_from : years_days (t.year - 1970) ≤ day_number t
  unfolding day_number
  lies_from = omega arith

  pub lies_to : day_number t < years_days (suc (t.year - 1970))
  unfolding day_number
  lies_to = omega (arith, year_next, day_few)

-- dates of the same numbers are the same
date-is : (t u : Date) → t.year ≡ u.year → t.month ≡ u.month → t.day ≡ u.day → t ≡ u
date-is t u p q r = rw (p, q, r)

-- a day has one date
pub one-date : (t u : Date) → Named t → Named u → day_number t ≡ day_number u → t ≡ u
unfolding day_number
one-date t u nt nu e =
    let ky = one_place years_days years_rise (t.year - 1970) (u.year - 1970) (day_number t) (lies_from t nt) (lies_to t nt) (rw e (lies_from u nu)) (rw e (lies_to u nu)) in
    let y : t.year ≡ u.year = omega (arith, nt.since, nu.since) in
    same_year t u nt nu y (omega (arith, ap years_days ky))
  where
    same_month : (l : Bool) (a b d f : ℕ) → InMonth l d a → InMonth l f b → d ≡ f → a ≡ b
    same_month l a b d f h g e =
        let p : suc (a - 1) ≡ a = omega (arith, h.first) in
        let q : suc (b - 1) ≡ b = omega (arith, g.first) in
        let same = one_place (months_days l) (months_rise l) (a - 1) (b - 1) d h.from (rw p h.to) (rw e g.from) (rw (e, q) g.to) in
        omega (arith, h.first, g.first)

    same_year : (t u : Date) → Named t → Named u → t.year ≡ u.year
        → months_days (is_leap t.year) (t.month - 1) + (t.day - 1) ≡ months_days (is_leap u.year) (u.month - 1) + (u.day - 1) → t ≡ u
    same_year t u nt nu y f =
        let m = same_month (is_leap u.year) t.month u.month _ _ (rw y at (lies_in_month t nt)) (lies_in_month u nu) (rw y at f) in
        let g : months_days (is_leap u.year) (u.month - 1) + (t.day - 1) ≡ months_days (is_leap u.year) (u.month - 1) + (u.day - 1) = (rw (y, m) at f) in
        date-is t u y m (omega (arith, nt.first, nu.first))

-- ---- the day after

none : (leap : Bool) → months_days leap 0 ≡ 0
unfolding months_days
none leap = refl

pub record Follows (t u : Date) : Type 0 where
  pub named : Named u
  pub number : day_number u ≡ suc (day_number t)

module _ (t : Date) (n : Named t) where
  follows_day : t.day < month_days (is_leap t.year) t.month → Follows t (record { year = t.year; month = t.month; day = t.day + 1 })
  unfolding day_number
  follows_day h = record {
    named = record { since = n.since; first = omega arith; last = omega arith };
    number = omega (arith, n.first);
  }

  module _ (h : month_days (is_leap t.year) t.month ≤ t.day) where
    follows_month : t.month < 12 → Follows t (record { year = t.year; month = t.month + 1; day = 1 })
    unfolding day_number
    follows_month l = record {
      named = record { since = n.since; first = omega arith; last = month_some (is_leap t.year) (t.month + 1) (omega arith) (omega arith) };
      number =
          let e : t.month + 1 - 1 ≡ t.month = omega arith in
          rw e (omega (arith, months_next (is_leap t.year) t.month (month_lo t n), n.first, n.last));
    }

    follows_year : 12 ≤ t.month → Follows t (record { year = t.year + 1; month = 1; day = 1 })
    unfolding day_number
    follows_year l =
        let m : t.month ≡ 12 = omega (arith, month_hi t n) in
        let e : t.year + 1 - 1970 ≡ suc (t.year - 1970) = omega (arith, n.since) in
        let z : months_days (is_leap (t.year + 1)) 0 ≡ 0 = none (is_leap (t.year + 1)) in
        record {
          named = record { since = omega (arith, n.since); first = omega arith; last = month_some (is_leap (t.year + 1)) 1 (omega arith) (omega arith) };
          number = rw (e, z) (omega (arith, year_next t n, months_next (is_leap t.year) t.month (month_lo t n), ap (months_days (is_leap t.year)) m, n.first, n.last));
        }

  pub next-follows : Follows t (next_day t)
  unfolding next_day
  next-follows = by (ltb t.day (month_days (is_leap t.year) t.month)) refl (ltb t.month 12) refl
    where
      by : (a : Bool) → ltb t.day (month_days (is_leap t.year) t.month) ≡ a → (b : Bool) → ltb t.month 12 ≡ b
          → Follows t (cond a (record { year = t.year; month = t.month; day = t.day + 1 }) (cond b (record { year = t.year; month = t.month + 1; day = 1 }) (record { year = t.year + 1; month = 1; day = 1 })))
      by true p b q = follows_day (ltb-true _ _ p)
      by false p true q = follows_month (ltb-false _ _ p) (ltb-true _ _ q)
      by false p false q = follows_year (ltb-false _ _ p) (ltb-false _ _ q)

-- ---- the date of a day

first_day : day_number (record { year = 1970; month = 1; day = 1 }) ≡ 0
unfolding day_number years_days months_days
first_day = refl

pub date-named : (n : ℕ) → Named (date_of n)
unfolding date_of month_days
date-named zero = record { since = omega arith; first = omega arith; last = omega arith }
date-named (suc n) = (next-follows (date_of n) (date-named n)).named

-- there and back
pub date-number : (n : ℕ) → day_number (date_of n) ≡ n
unfolding date_of
date-number zero = first_day
date-number (suc n) = (next-follows (date_of n) (date-named n)).number ∙ ap suc (date-number n)

-- back and there
pub number-date : (t : Date) → names_date t ≡ true → date_of (day_number t) ≡ t
number-date t e = one-date (date_of (day_number t)) t (date-named (day_number t)) (named-is t e) (date-number (day_number t))

-- ---- date_of and day_of

module _ (day year start : ℕ) (leap : Bool) (y : InYear day year) (el : leap ≡ is_leap year) (es : start ≡ years_days (year - 1970)) where
  pub start-before : start ≤ day
  start-before = omega (arith, es, y.from)

  days_next : years_days (year - 1970 + 1) ≡ years_days (year - 1970) + months_days leap 12
  unfolding years_days year_days
  days_next =
      let n : year - 1970 + 1 ≡ suc (year - 1970) = omega arith in
      let e : 1970 + (year - 1970) ≡ year = omega (arith, y.since) in
      rw (n, e, el, months_year)

  pub in_year_few : day - start < months_days leap 12
  in_year_few = omega (arith, es, y.from, y.to, days_next)

  module _ (month first : ℕ) (m : InMonth leap (day - start) month) (ef : first ≡ months_days leap (month - 1)) where
    pub first-before : first ≤ day - start
    first-before = omega (arith, ef, m.from)

    made-named : Named (record { year = year; month = month; day = day - start - first + 1 })
    made-named = record {
      since = y.since;
      first = omega arith;
      last = rw (← el) (omega (arith, ef, m.from, m.to, months_next leap month m.first));
    }

    made-number : day_number (record { year = year; month = month; day = day - start - first + 1 }) ≡ day
    unfolding day_number
    made-number = rw (← el, ← es, ← ef) (omega (arith, start-before, first-before))

    pub date_of_is : ◌≡◌ {A = Date} (record { year = year; month = month; day = day - start - first + 1 }) (date_of day)
    date_of_is = one-date _ (date_of day) made-named (date-named day) (made-number ∙ sym (date-number day))

year_most : (y : ℕ) → year_days y ≤ 366
unfolding year_days
year_most y = by (is_leap y)
  where
    by : (b : Bool) → cond b 366 365 ≤ 366
    by true = omega arith
    by false = omega arith

months_most : (leap : Bool) → months_days leap 12 ≤ 366
months_most true = omega (arith, months_year true)
months_most false = omega (arith, months_year false)

years_few : (k : ℕ) → years_days k ≤ 366 * k
unfolding years_days
years_few zero = omega arith
years_few (suc k) = omega (arith, years_few k, year_most (1970 + k))

module _ (t : Date) (e : names_date t ≡ true) where
  pub day_since : 1970 ≤ t.year
  day_since = (named-is t e).since

  pub day_first : 1 ≤ t.day
  day_first = (named-is t e).first

  pub day_month_lo : 1 ≤ t.month
  day_month_lo = month_lo t (named-is t e)

  pub day_month_hi : t.month ≤ 12
  day_month_hi = month_hi t (named-is t e)

  module _ (l : t.year < 10000) (start first : ℕ) (leap : Bool) (es : start ≡ years_days (t.year - 1970)) (el : leap ≡ is_leap t.year) (ef : first ≡ months_days leap (t.month - 1)) where
    pub day_of_is : start + first + (t.day - 1) ≡ day_number t
    unfolding day_number
    day_of_is = rw (es, ef, el)

    day_start-few : start ≤ 3000000
    day_start-few = omega (arith, years_few (t.year - 1970), es)

    day_few_days : first + (t.day - 1) < 366
    day_few_days = few leap el (omega (arith, day_few t (named-is t e)))
      where
        few : (leap : Bool) → leap ≡ is_leap t.year → months_days (is_leap t.year) (t.month - 1) + (t.day - 1) < months_days (is_leap t.year) 12 → first + (t.day - 1) < 366
        few x q h = omega (arith, h, months_most (is_leap t.year), ef, ap (λ (z : Bool). months_days z (t.month - 1)) el)

    -- the sums fit
    pub day_start-fits : start + first < 2 ^ 32
    day_start-fits = omega (arith, day_start-few, day_few_days)

    pub day_sum-fits : start + first + (t.day - 1) < 2 ^ 32
    day_sum-fits = omega (arith, day_start-few, day_few_days)

-- a date after 2554 is past day 213,503
pub late_year : (t : Date) → names_date t ≡ true → 2554 < t.year → 213_503 < day_number t
late_year t e h =
    omega (arith, lies_from t (named-is t e), rises years_days years_rise 585 (t.year - 1970) (omega arith), years_sum 585)
