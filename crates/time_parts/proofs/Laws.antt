-- From a count to its parts and back. Assumes nothing.
use Rattle.std.specs.Prelude.{Option, Some, None}
use mathlib.Core.Path.{◌≡◌, refl, sym, ◌∙◌}
use mathlib.Core.Bool.{Bool, true, false, cond, ◌&&◌}
use mathlib.Core.List.{List}
use Prim.Native.Nat.{ℕ, ◌+◌, ◌*◌, ◌/◌, ◌%◌, ◌≤◌, ◌<◌}
use native.Mathlib.Omega.{arith}
use lib.Dec.{eqb, leb, ltb}
use borrow.Author.Tests.{ltb-true, leb-true, lt-ltb, le-leb, eq-eqb, eqb-true}
use Rattle.time_calendar.specs.declared.Date.{Date}
use Rattle.time_calendar.specs.Calendar.{names_date, day_number, date_of}
use Rattle.time_calendar.proofs.Dates.{names-is, date-named, date-number, number-date}
use Rattle.time_types.specs.declared.TimeType.{TimeType}
use Rattle.time_types.specs.declared.TimeType.TheVariants as time
use Rattle.time_types.specs.Types.{time_type_of}
use Rattle.time_parts.specs.declared.Parts.{Parts}
use Rattle.time_parts.specs.Parts.{day_length, parts_at, clock_parts, moment_parts, time_parts, names_clock, clock_of, dateless, date_in, moment_of, count_in, clock_count, moment_count, time_count}
use Rattle.time_parts.specs.Laws.{Exact}
use Rattle.time_parts.proofs.Clock.{and_first, and_second, clock_few, clock_there, clock_back, hour_back, minute_back, second_back, nanosecond_back}

-- parts of the same numbers are the same
parts_is : (p q : Parts) → p.year ≡ q.year → p.month ≡ q.month → p.day ≡ q.day → p.hour ≡ q.hour → p.minute ≡ q.minute → p.second ≡ q.second → p.nanosecond ≡ q.nanosecond → p ≡ q
parts_is p q a b c d e f g = rw (a, b, c, d, e, f, g)

-- ---- in nanoseconds

year_at : (d : Date) (n : ℕ) → (parts_at d n).year ≡ d.year
unfolding parts_at
year_at d n = refl

month_at : (d : Date) (n : ℕ) → (parts_at d n).month ≡ d.month
unfolding parts_at
month_at d n = refl

day_at : (d : Date) (n : ℕ) → (parts_at d n).day ≡ d.day
unfolding parts_at
day_at d n = refl

date-at : (d : Date) (n : ℕ) → date_in (parts_at d n) ≡ d
unfolding parts_at
date-at d n = refl

dateless-none : (n : ℕ) → dateless (parts_at (record { year = 0; month = 0; day = 0 }) n) ≡ true
unfolding parts_at dateless
dateless-none n = refl

-- a time of day
module _ (n : ℕ) (h : n < day_length) where
  clock_dateless : dateless (clock_parts n) && names_clock (clock_parts n) ≡ true
  unfolding clock_parts
  clock_dateless = rw (dateless-none n) (clock_there (record { year = 0; month = 0; day = 0 }) n h)

  clock_n : clock_of (clock_parts n) ≡ n
  unfolding clock_parts
  clock_n = clock_back (record { year = 0; month = 0; day = 0 }) n h

-- a moment
module _ (n : ℕ) where
  rest-few : n % day_length < day_length
  rest-few = omega arith

  moment_names : names_date (date_in (moment_parts n)) && names_clock (moment_parts n) ≡ true
  unfolding moment_parts
  moment_names =
      rw (date-at (date_of (n / day_length)) (n % day_length), names-is (date_of (n / day_length)) (date-named (n / day_length)))
      (clock_there (date_of (n / day_length)) (n % day_length) rest-few)

  moment_n : moment_of (moment_parts n) ≡ n
  unfolding moment_parts moment_of
  moment_n =
      rw (date-at (date_of (n / day_length)) (n % day_length), date-number (n / day_length), clock_back (date_of (n / day_length)) (n % day_length) rest-few)
      (omega arith)

-- parts that name a time of day
module _ (p : Parts) (h : dateless p && names_clock p ≡ true) where
  no-date : dateless p ≡ true
  no-date = and_first (dateless p) (names_clock p) h

  clock_named : names_clock p ≡ true
  clock_named = and_second (dateless p) (names_clock p) h

  clock_fits : clock_of p < day_length
  clock_fits = clock_few p clock_named

  clock_p : clock_parts (clock_of p) ≡ p
  unfolding clock_parts dateless
  clock_p =
      let rest = and_second (eqb p.year 0) (eqb p.month 0 && eqb p.day 0) no-date in
      parts_is (parts_at (record { year = 0; month = 0; day = 0 }) (clock_of p)) p
      (year_at (record { year = 0; month = 0; day = 0 }) (clock_of p) ∙ sym (eqb-true p.year 0 (and_first (eqb p.year 0) (eqb p.month 0 && eqb p.day 0) no-date)))
      (month_at (record { year = 0; month = 0; day = 0 }) (clock_of p) ∙ sym (eqb-true p.month 0 (and_first (eqb p.month 0) (eqb p.day 0) rest)))
      (day_at (record { year = 0; month = 0; day = 0 }) (clock_of p) ∙ sym (eqb-true p.day 0 (and_second (eqb p.month 0) (eqb p.day 0) rest)))
      (hour_back (record { year = 0; month = 0; day = 0 }) p clock_named)
      (minute_back (record { year = 0; month = 0; day = 0 }) p clock_named)
      (second_back (record { year = 0; month = 0; day = 0 }) p clock_named)
      (nanosecond_back (record { year = 0; month = 0; day = 0 }) p clock_named)

-- parts that name a moment
module _ (p : Parts) (h : names_date (date_in p) && names_clock p ≡ true) where
  dated : names_date (date_in p) ≡ true
  dated = and_first (names_date (date_in p)) (names_clock p) h

  timed : names_clock p ≡ true
  timed = and_second (names_date (date_in p)) (names_clock p) h

  date-p : date_of (moment_of p / day_length) ≡ date_in p
  unfolding moment_of
  date-p =
      let f = clock_few p timed in
      let e : (day_number (date_in p) * day_length + clock_of p) / day_length ≡ day_number (date_in p) = omega arith in
      rw e (number-date (date_in p) dated)

  rest-p : moment_of p % day_length ≡ clock_of p
  unfolding moment_of
  rest-p = let f = clock_few p timed in omega arith

  moment_p : moment_parts (moment_of p) ≡ p
  unfolding moment_parts
  moment_p =
      rw (date-p, rest-p)
      (parts_is (parts_at (date_in p) (clock_of p)) p
      (year_at (date_in p) (clock_of p))
      (month_at (date_in p) (clock_of p))
      (day_at (date_in p) (clock_of p))
      (hour_back (date_in p) p timed)
      (minute_back (date_in p) p timed)
      (second_back (date_in p) p timed)
      (nanosecond_back (date_in p) p timed))

-- ---- by the type

-- a count that was told passed its tests
told-true : (b : Bool) (x : Option ℕ) (n : ℕ) → cond b x None ≡ Some n → (b ≡ true) × (x ≡ Some n)
told-true true x n e = (refl, e)
told-true false x n e = absurd (let z : ◌≡◌ {A = ℕ} 0 1 = cc in omega arith)

parts-true : (b : Bool) (x p : Parts) → cond b (Some x) None ≡ Some p → (b ≡ true) × (x ≡ p)
parts-true true x p e = (refl, (let z : x ≡ p = cc in z))
parts-true false x p e = absurd (let z : ◌≡◌ {A = ℕ} 0 1 = cc in omega arith)

same-told : (n m : ℕ) → Some n ≡ Some m → n ≡ m
same-told n m e = cc

-- units of nanoseconds: what is counted, and nothing left over
pub record Units (unit largest n k : ℕ) : Type 0 where
  pub left : n % unit ≡ 0
  pub few : k ≤ largest
  pub is : n / unit ≡ k

units_of : (unit largest n k : ℕ) → count_in unit largest n ≡ Some k → Units unit largest n k
unfolding count_in
units_of unit largest n k e =
    let a = told-true (eqb (n % unit) 0) (cond (leb (n / unit) largest) (Some (n / unit)) None) k e in
    let b = told-true (leb (n / unit) largest) (Some (n / unit)) k a.1 in
    let q : n / unit ≡ k = same-told (n / unit) k b.1 in
    record { left = eqb-true (n % unit) 0 a.0; few = rw q at (leb-true (n / unit) largest b.0); is = q }

count_units : (unit largest n k : ℕ) → n % unit ≡ 0 → n / unit ≡ k → k ≤ largest → count_in unit largest n ≡ Some k
unfolding count_in
count_units unit largest n k a q l = rw (eq-eqb (n % unit) 0 a, q, le-leb k largest l)

module _ (p : Parts) (n : ℕ) where
  there-by : (y : TimeType) → time_parts y n ≡ Some p → time_count y p ≡ Some n
  unfolding time_parts time_count clock_count moment_count
  there-by time.Time e = absurd (let z : ◌≡◌ {A = ℕ} 0 1 = cc in omega arith)
  there-by time.LTime e = absurd (let z : ◌≡◌ {A = ℕ} 0 1 = cc in omega arith)
  there-by time.NoTime e = absurd (let z : ◌≡◌ {A = ℕ} 0 1 = cc in omega arith)
  there-by time.TimeOfDay e =
      let t = parts-true (ltb n 86_400_000) (clock_parts (n * 1_000_000)) p e in
      let l : n < 86_400_000 = ltb-true n 86_400_000 t.0 in
      let few : n * 1_000_000 < day_length = omega arith in
      rw (← t.1, clock_dateless (n * 1_000_000) few, clock_n (n * 1_000_000) few) (count_units 1_000_000 _ (n * 1_000_000) n (omega arith) (omega arith) (omega arith))
  there-by time.LTimeOfDay e =
      let t = parts-true (ltb n day_length) (clock_parts n) p e in
      let l : n < day_length = ltb-true n day_length t.0 in
      rw (← t.1, clock_dateless n l, clock_n n l) (count_units 1 _ n n (omega arith) (omega arith) (omega arith))
  there-by time.DateTime e =
      let t = parts-true (leb n 0xffff_ffff) (moment_parts (n * 1_000_000_000)) p e in
      let l : n ≤ 0xffff_ffff = leb-true n 0xffff_ffff t.0 in
      rw (← t.1, moment_names (n * 1_000_000_000), moment_n (n * 1_000_000_000)) (count_units 1_000_000_000 _ (n * 1_000_000_000) n (omega arith) (omega arith) l)
  there-by time.LDateTime e =
      let t = parts-true (leb n 0xffff_ffff_ffff_ffff) (moment_parts n) p e in
      let l : n ≤ 0xffff_ffff_ffff_ffff = leb-true n 0xffff_ffff_ffff_ffff t.0 in
      rw (← t.1, moment_names n, moment_n n) (count_units 1 _ n n (omega arith) (omega arith) l)

  back_by : (y : TimeType) → time_count y p ≡ Some n → time_parts y n ≡ Some p
  unfolding time_parts time_count clock_count moment_count
  back_by time.Time e = absurd (let z : ◌≡◌ {A = ℕ} 0 1 = cc in omega arith)
  back_by time.LTime e = absurd (let z : ◌≡◌ {A = ℕ} 0 1 = cc in omega arith)
  back_by time.NoTime e = absurd (let z : ◌≡◌ {A = ℕ} 0 1 = cc in omega arith)
  back_by time.TimeOfDay e =
      let t = told-true (dateless p && names_clock p) (count_in 1_000_000 0xffff_ffff_ffff_ffff (clock_of p)) n e in
      let u = units_of 1_000_000 0xffff_ffff_ffff_ffff (clock_of p) n t.1 in
      let f = clock_fits p t.0 in
      let w : n * 1_000_000 ≡ clock_of p = omega (arith, u.left, u.is) in
      rw (lt-ltb n 86_400_000 (omega arith), w, clock_p p t.0)
  back_by time.LTimeOfDay e =
      let t = told-true (dateless p && names_clock p) (count_in 1 0xffff_ffff_ffff_ffff (clock_of p)) n e in
      let u = units_of 1 0xffff_ffff_ffff_ffff (clock_of p) n t.1 in
      let f = clock_fits p t.0 in
      let w : n ≡ clock_of p = omega (arith, u.is) in
      rw (w, lt-ltb (clock_of p) day_length f, clock_p p t.0)
  back_by time.DateTime e =
      let t = told-true (names_date (date_in p) && names_clock p) (count_in 1_000_000_000 0xffff_ffff (moment_of p)) n e in
      let u = units_of 1_000_000_000 0xffff_ffff (moment_of p) n t.1 in
      let w : n * 1_000_000_000 ≡ moment_of p = omega (arith, u.left, u.is) in
      rw (le-leb n 0xffff_ffff u.few, w, moment_p p t.0)
  back_by time.LDateTime e =
      let t = told-true (names_date (date_in p) && names_clock p) (count_in 1 0xffff_ffff_ffff_ffff (moment_of p)) n e in
      let u = units_of 1 0xffff_ffff_ffff_ffff (moment_of p) n t.1 in
      let w : n ≡ moment_of p = omega (arith, u.is) in
      rw (le-leb n 0xffff_ffff_ffff_ffff u.few, w, moment_p p t.0)

-- the two calls, for the type of any name
pub exact : (name : List ℕ) → Exact name
exact name = record {
  there = λ n p e. there-by p n (time_type_of name) e;
  back = λ p n e. back_by p n (time_type_of name) e;
  one = λ n m p e f. same-told n m (sym (there-by p n (time_type_of name) e) ∙ there-by p m (time_type_of name) f);
  refused = λ p r n e. never n (sym r ∙ there-by p n (time_type_of name) e);
  unnamed = λ p none. by p none (time_count (time_type_of name) p) refl;
}
  where
    never : (n : ℕ) → None ≡ Some n → ⊥
    never n e = let z : ◌≡◌ {A = ℕ} 0 1 = cc in omega arith

    by : (p : Parts) → ((n : ℕ) → time_parts (time_type_of name) n ≡ Some p → ⊥) → (r : Option ℕ) → time_count (time_type_of name) p ≡ r → r ≡ None
    by p none (Some n) e = absurd (none n (back_by p n (time_type_of name) e))
    by p none None e = refl
