-- The time of day: hour, minute, second and nanosecond, and the nanoseconds since midnight. Assumes nothing.
use mathlib.Core.Path.{◌≡◌, refl}
use mathlib.Core.Bool.{Bool, true, false, ◌&&◌}
use Prim.Native.Nat.{ℕ, ◌+◌, ◌*◌, ◌/◌, ◌%◌, ◌<◌}
use native.Mathlib.Omega.{arith}
use lib.Dec.{ltb}
use borrow.Author.Tests.{ltb-true, lt-ltb}
use Rattle.time_calendar.specs.declared.Date.{Date}
use Rattle.time_parts.specs.declared.Parts.{Parts}
use Rattle.time_parts.specs.Parts.{day_length, parts_at, names_clock, clock_of}

pub and_first : (a b : Bool) → a && b ≡ true → a ≡ true
and_first true b e = refl
and_first false b e = e

pub and_second : (a b : Bool) → a && b ≡ true → b ≡ true
and_second true b e = e
and_second false b e = absurd (let z : ◌≡◌ {A = ℕ} 0 1 = cc in omega arith)

-- what it is to name a time of day
pub record Clock (p : Parts) : Type 0 where
  pub hours : p.hour < 24
  pub minutes : p.minute < 60
  pub seconds : p.second < 60
  pub nanoseconds : p.nanosecond < 1_000_000_000

pub clock_named : (p : Parts) → names_clock p ≡ true → Clock p
unfolding names_clock
clock_named p e =
    let e1 = and_second (ltb p.hour 24) (ltb p.minute 60 && (ltb p.second 60 && ltb p.nanosecond 1_000_000_000)) e in
    let e2 = and_second (ltb p.minute 60) (ltb p.second 60 && ltb p.nanosecond 1_000_000_000) e1 in
    record {
      hours = ltb-true _ _ (and_first (ltb p.hour 24) (ltb p.minute 60 && (ltb p.second 60 && ltb p.nanosecond 1_000_000_000)) e);
      minutes = ltb-true _ _ (and_first (ltb p.minute 60) (ltb p.second 60 && ltb p.nanosecond 1_000_000_000) e1);
      seconds = ltb-true _ _ (and_first (ltb p.second 60) (ltb p.nanosecond 1_000_000_000) e2);
      nanoseconds = ltb-true _ _ (and_second (ltb p.second 60) (ltb p.nanosecond 1_000_000_000) e2);
    }

pub clock_names : (p : Parts) → Clock p → names_clock p ≡ true
unfolding names_clock
clock_names p k = rw (lt-ltb p.hour 24 k.hours, lt-ltb p.minute 60 k.minutes, lt-ltb p.second 60 k.seconds) (lt-ltb _ _ k.nanoseconds)

-- the four bounds
module _ (p : Parts) (e : names_clock p ≡ true) where
  pub hours-few : p.hour < 24
  hours-few = (clock_named p e).hours

  pub minutes-few : p.minute < 60
  minutes-few = (clock_named p e).minutes

  pub seconds-few : p.second < 60
  seconds-few = (clock_named p e).seconds

  pub nanoseconds-few : p.nanosecond < 1_000_000_000
  nanoseconds-few = (clock_named p e).nanoseconds

-- clock_of
pub clock_of_is : (p : Parts) → ((p.hour * 60 + p.minute) * 60 + p.second) * 1_000_000_000 + p.nanosecond ≡ clock_of p
unfolding clock_of
clock_of_is p = refl

-- a time of day is less than a day
pub clock_few : (p : Parts) → names_clock p ≡ true → clock_of p < day_length
unfolding clock_of
clock_few p e = let k = clock_named p e in omega (arith, k.hours, k.minutes, k.seconds, k.nanoseconds)

-- from nanoseconds to the parts and back
module _ (d : Date) (n : ℕ) (h : n < day_length) where
  pub clock_there : names_clock (parts_at d n) ≡ true
  unfolding parts_at
  clock_there = clock_names (parts_at d n) (record { hours = omega arith; minutes = omega arith; seconds = omega arith; nanoseconds = omega arith })

  pub clock_back : clock_of (parts_at d n) ≡ n
  unfolding parts_at clock_of
  clock_back = whole (n / 3_600_000_000_000) (n / 60_000_000_000) (n / 1_000_000_000) hours minutes refl
    where
      hours : n / 60_000_000_000 / 60 ≡ n / 3_600_000_000_000
      hours = omega arith

      minutes : n / 1_000_000_000 / 60 ≡ n / 60_000_000_000
      minutes = omega arith

      whole : (x y z : ℕ) → y / 60 ≡ x → z / 60 ≡ y → z ≡ n / 1_000_000_000 → ((x * 60 + y % 60) * 60 + z % 60) * 1_000_000_000 + n % 1_000_000_000 ≡ n
      whole x y z p q r = omega arith

-- the parts of the nanoseconds of a time of day are its own
module _ (d : Date) (p : Parts) (e : names_clock p ≡ true) where
  pub hour_back : (parts_at d (clock_of p)).hour ≡ p.hour
  unfolding parts_at clock_of
  hour_back = let k = clock_named p e in omega (arith, k.minutes, k.seconds, k.nanoseconds)

  pub minute_back : (parts_at d (clock_of p)).minute ≡ p.minute
  unfolding parts_at clock_of
  minute_back =
      let k = clock_named p e in
      let q : (((p.hour * 60 + p.minute) * 60 + p.second) * 1_000_000_000 + p.nanosecond) / 60_000_000_000 ≡ p.hour * 60 + p.minute = omega (arith, k.seconds, k.nanoseconds) in
      rw q (omega (arith, k.minutes))

  pub second_back : (parts_at d (clock_of p)).second ≡ p.second
  unfolding parts_at clock_of
  second_back =
      let k = clock_named p e in
      let q : (((p.hour * 60 + p.minute) * 60 + p.second) * 1_000_000_000 + p.nanosecond) / 1_000_000_000 ≡ (p.hour * 60 + p.minute) * 60 + p.second = omega (arith, k.nanoseconds) in
      rw q (omega (arith, k.seconds))

  pub nanosecond_back : (parts_at d (clock_of p)).nanosecond ≡ p.nanosecond
  unfolding parts_at clock_of
  nanosecond_back = let k = clock_named p e in omega (arith, k.nanoseconds)
