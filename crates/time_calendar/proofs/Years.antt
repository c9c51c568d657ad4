-- The days before a year in one sum, and the year in which a day lies. Assumes nothing.
use mathlib.Core.Path.{◌≡◌, refl, sym}
use mathlib.Core.Bool.{Bool, true, false, cond, not, ◌&&◌, ◌||◌}
use Prim.Native.Nat.{ℕ, zero, suc, ◌+◌, ◌-◌, ◌*◌, ◌/◌, ◌%◌, ◌^◌, ◌≤◌, ◌<◌, min}
use native.Mathlib.Omega.{arith}
use lib.Dec.{eqb, ltb}
use borrow.Author.Tests.{eqb-true, eqb-false, eq-eqb, ne_eqb, ltb-true, ltb-false}
use Rattle.time_calendar.specs.Calendar.{is_leap, year_days, years_days}
use Rattle.time_calendar.specs.Places.{InYear}

-- ---- leap years

-- is_leap
module _ (y : ℕ) where
  pub leap_hundred : y % 100 ≡ 0 → eqb (y % 400) 0 ≡ is_leap y
  unfolding is_leap
  leap_hundred h = let e : y % 4 ≡ 0 = omega arith in sym (rw (eq-eqb (y % 4) 0 e, eq-eqb (y % 100) 0 h))

  pub leap_other : (y % 100 ≡ 0 → ⊥) → eqb (y % 4) 0 ≡ is_leap y
  unfolding is_leap
  leap_other h = sym (rw (ne_eqb (y % 100) 0 h) (and-true (eqb (y % 4) 0)))
    where
      and-true : (b : Bool) → b && true ≡ b
      and-true true = refl
      and-true false = refl

-- the days of a year from 1601 on: 365, and one more for each of the three cycles that it ends
pub leap_day : (y : ℕ) → year_days (y + 1601) + y / 4 + y / 400 + (y + 1) / 100 ≡ 365 + (y + 1) / 4 + (y + 1) / 400 + y / 100
unfolding year_days is_leap
leap_day y = by (eqb ((y + 1601) % 4) 0) refl (eqb ((y + 1601) % 100) 0) refl (eqb ((y + 1601) % 400) 0) refl
  where
    by : (a : Bool) → eqb ((y + 1601) % 4) 0 ≡ a → (b : Bool) → eqb ((y + 1601) % 100) 0 ≡ b → (c : Bool) → eqb ((y + 1601) % 400) 0 ≡ c
        → cond (a && (not b || c)) 366 365 + y / 4 + y / 400 + (y + 1) / 100 ≡ 365 + (y + 1) / 4 + (y + 1) / 400 + y / 100
    by true p true q true r =
        let x : (y + 1601) % 4 ≡ 0 = eqb-true _ _ p in let z : (y + 1601) % 100 ≡ 0 = eqb-true _ _ q in let w : (y + 1601) % 400 ≡ 0 = eqb-true _ _ r in omega arith
    by true p true q false r =
        let x : (y + 1601) % 4 ≡ 0 = eqb-true _ _ p in let z : (y + 1601) % 100 ≡ 0 = eqb-true _ _ q in let w : (y + 1601) % 400 ≡ 0 → ⊥ = eqb-false _ _ r in omega arith
    by true p false q c r =
        let x : (y + 1601) % 4 ≡ 0 = eqb-true _ _ p in let z : (y + 1601) % 100 ≡ 0 → ⊥ = eqb-false _ _ q in omega arith
    by false p b q c r =
        let x = eqb-false _ _ p in
        let four : (y + 1) / 4 ≡ y / 4 = stays-four x in
        let hundred : (y + 1) / 100 ≡ y / 100 = stays-hundred x in
        let long : (y + 1) / 400 ≡ y / 400 = stays-long x in
        rw (four, hundred, long)
      where
        stays-four : ((y + 1601) % 4 ≡ 0 → ⊥) → (y + 1) / 4 ≡ y / 4
        stays-four h = omega arith

        stays-hundred : ((y + 1601) % 4 ≡ 0 → ⊥) → (y + 1) / 100 ≡ y / 100
        stays-hundred h = omega arith

        stays-long : ((y + 1601) % 4 ≡ 0 → ⊥) → (y + 1) / 400 ≡ y / 400
        stays-long h = omega arith

-- the days before a year: 365 for each since 1601, and the leap days among them
pub years_sum : (k : ℕ) → years_days k + 134774 + (k + 369) / 100 ≡ 365 * (k + 369) + (k + 369) / 4 + (k + 369) / 400
unfolding years_days
years_sum zero = refl
years_sum (suc k) =
    let e : 1970 + k ≡ k + 369 + 1601 = omega arith in
    let n : suc k + 369 ≡ k + 369 + 1 = omega arith in
    let step : year_days (1970 + k) + (k + 369) / 4 + (k + 369) / 400 + (k + 369 + 1) / 100 ≡ 365 + (k + 369 + 1) / 4 + (k + 369 + 1) / 400 + (k + 369) / 100 = rw e (leap_day (k + 369)) in
    let before = years_sum k in
    rw n (with_step (years_days k) (year_days (1970 + k)) ((k + 369) / 100) ((k + 369 + 1) / 100) ((k + 369) / 4) ((k + 369 + 1) / 4) ((k + 369) / 400) ((k + 369 + 1) / 400) (k + 369) before step)
  where
    with_step : (d s h h1 f f1 l l1 x : ℕ) → d + 134774 + h ≡ 365 * x + f + l → s + f + l + h1 ≡ 365 + f1 + l1 + h
        → d + s + 134774 + h1 ≡ 365 * (x + 1) + f1 + l1
    with_step d s h h1 f f1 l l1 x p q = omega arith

-- year_start
pub year_start-is : (year : ℕ) → 1970 ≤ year → 365 * (year - 1601) + (year - 1601) / 4 - (year - 1601) / 100 + (year - 1601) / 400 - 134774 ≡ years_days (year - 1970)
year_start-is year h =
    let e : year - 1601 ≡ year - 1970 + 369 = omega arith in
    rw e (whole (years_days (year - 1970)) (year - 1970 + 369) ((year - 1970 + 369) / 4) ((year - 1970 + 369) / 100) ((year - 1970 + 369) / 400) (years_sum (year - 1970)) (hundreds (year - 1970 + 369)))
  where
    hundreds : (x : ℕ) → x / 100 ≤ x
    hundreds x = omega arith

    whole : (d x f c l : ℕ) → d + 134774 + c ≡ 365 * x + f + l → c ≤ x → 365 * x + f - c + l - 134774 ≡ d
    whole d x f c l p q = omega arith

-- what is taken off last is there
pub year_start-enough : (year : ℕ) → 1970 ≤ year → 134774 ≤ 365 * (year - 1601) + (year - 1601) / 4 - (year - 1601) / 100 + (year - 1601) / 400
year_start-enough year h = omega (arith, enough (year - 1601) (omega arith))
  where
    enough : (x : ℕ) → 369 ≤ x → 134774 ≤ 365 * x + x / 4 - x / 100 + x / 400
    enough x l =
        let e : x - 369 + 369 ≡ x = omega arith in
        let s = rw e at (years_sum (x - 369)) in
        omega arith

-- ---- the year of a day

-- the sum of the cycles of a year
module _ (a b c d : ℕ) (hb : b ≤ 3) (hc : c ≤ 24) (hd : d ≤ 3) where
  fours : (a * 400 + b * 100 + c * 4 + d) / 4 ≡ 100 * a + 25 * b + c
  fours = omega arith

  hundreds : (a * 400 + b * 100 + c * 4 + d) / 100 ≡ 4 * a + b
  hundreds = omega arith

  longs : (a * 400 + b * 100 + c * 4 + d) / 400 ≡ a
  longs = omega arith

  sum_is : 365 * (a * 400 + b * 100 + c * 4 + d) + (a * 400 + b * 100 + c * 4 + d) / 4 + (a * 400 + b * 100 + c * 4 + d) / 400
      ≡ 146097 * a + 36524 * b + 1461 * c + 365 * d + (a * 400 + b * 100 + c * 4 + d) / 100
  sum_is = rw (fours, hundreds, longs) (omega arith)

-- the days before the year 1601 + x, from 1601 on
module _ (x z : ℕ) where
  -- a day z since 1601 is not before that year
  pub record From : Type 0 where
    pub from : 365 * x + x / 4 + x / 400 ≤ z + x / 100

  -- and before the next
  pub record Before : Type 0 where
    pub to : z + (x + 1) / 100 < 365 * (x + 1) + (x + 1) / 4 + (x + 1) / 400

module _ (a b c d e : ℕ) (hb : b ≤ 3) (hc : c ≤ 24) (hd : d ≤ 3) where
  from_cycles : From (a * 400 + b * 100 + c * 4 + d) (146097 * a + 36524 * b + 1461 * c + 365 * d + e)
  from_cycles = record { from = omega (arith, sum_is a b c d hb hc hd) }

  -- where the next year has the cycles f g h i
  next_cycles : (f g h i : ℕ) → g ≤ 3 → h ≤ 24 → i ≤ 3 → a * 400 + b * 100 + c * 4 + d + 1 ≡ f * 400 + g * 100 + h * 4 + i
      → (z : ℕ) → z < 146097 * f + 36524 * g + 1461 * h + 365 * i → Before (a * 400 + b * 100 + c * 4 + d) z
  next_cycles f g h i lg lh li e z lz = record { to = rw e (omega (arith, sum_is f g h i lg lh li)) }

-- the cycles of a day z since 1601: what is left of it after each
pub record Cycles (z a b c d r s t : ℕ) : Type 0 where
  pub long : z ≡ 146097 * a + r
  pub in_long : r < 146097
  pub hundred : r ≡ 36524 * b + s
  pub hundreds : b ≤ 3
  pub in_hundred : b < 3 → s < 36524
  pub four : s ≡ 1461 * c + t
  pub in_four : t < 1461
  pub ones : d ≤ 3
  pub one : 365 * d ≤ t
  pub in_one : d < 3 → t < 365 * d + 365

module _ (z a b c d r s t : ℕ) (h : Cycles z a b c d r s t) where
  fours-few : c ≤ 24
  fours-few = by (ltb b 3) refl
    where
      by : (x : Bool) → ltb b 3 ≡ x → c ≤ 24
      by true e = let l = h.in_hundred (ltb-true b 3 e) in omega arith
      by false e = let l = ltb-false b 3 e in omega arith

  whole : z ≡ 146097 * a + 36524 * b + 1461 * c + 365 * d + (t - 365 * d)
  whole = let l = h.one in omega (arith, h.long, h.hundred, h.four)

  cycles_from : From (a * 400 + b * 100 + c * 4 + d) z
  cycles_from = rw whole (from_cycles a b c d (t - 365 * d) h.hundreds fours-few h.ones)

  -- the next year has one more year, one more cycle of 4 years, of 100 or of 400
  cycles_to : Before (a * 400 + b * 100 + c * 4 + d) z
  cycles_to = by_one (ltb d 3) refl
    where
      by-hundred : (x : Bool) → ltb b 3 ≡ x → 3 ≤ d → 24 ≤ c → Before (a * 400 + b * 100 + c * 4 + d) z
      by-hundred true e ld lc =
          let l = ltb-true b 3 e in let m = h.in_hundred l in
          next_cycles a b c d 0 h.hundreds fours-few h.ones a (b + 1) 0 0 (omega arith) (omega arith) (omega arith) (omega (arith, h.ones, fours-few)) z (omega (arith, h.long, h.hundred))
      by-hundred false e ld lc =
          let l = ltb-false b 3 e in
          next_cycles a b c d 0 h.hundreds fours-few h.ones (a + 1) 0 0 0 (omega arith) (omega arith) (omega arith) (omega (arith, h.ones, fours-few, h.hundreds)) z (omega (arith, h.long, h.in_long))

      by-four : (x : Bool) → ltb c 24 ≡ x → 3 ≤ d → Before (a * 400 + b * 100 + c * 4 + d) z
      by-four true e ld =
          let l = ltb-true c 24 e in
          next_cycles a b c d 0 h.hundreds fours-few h.ones a b (c + 1) 0 h.hundreds (omega arith) (omega arith) (omega (arith, h.ones)) z (omega (arith, h.long, h.hundred, h.four, h.in_four))
      by-four false e ld = by-hundred (ltb b 3) refl ld (ltb-false c 24 e)

      by_one : (x : Bool) → ltb d 3 ≡ x → Before (a * 400 + b * 100 + c * 4 + d) z
      by_one true e =
          let l = ltb-true d 3 e in let m = h.in_one l in
          next_cycles a b c d 0 h.hundreds fours-few h.ones a b c (d + 1) h.hundreds fours-few (omega arith) (omega arith) z (omega (arith, h.long, h.hundred, h.four))
      by_one false e = by-four (ltb c 24) refl (ltb-false d 3 e)

-- a year after 1969, where the day is
past_1969 : (x z : ℕ) → 134774 ≤ z → Before x z → 369 ≤ x
past_1969 x z h b = few (x + 1) ((x + 1) / 4) ((x + 1) / 100) ((x + 1) / 400) refl refl refl (omega (arith, b.to))
  where
    few : (y f c l : ℕ) → f ≡ y / 4 → c ≡ y / 100 → l ≡ y / 400 → 134774 + c < 365 * y + f + l → 369 ≤ x
    few y f c l p q r g = omega arith

pub in_year : (day x : ℕ) → day < 1000000 → From x (day + 134774) → Before x (day + 134774) → InYear day (1601 + x)
in_year day x hd f b =
    let p = past_1969 x (day + 134774) (omega arith) b in
    let k : 1601 + x - 1970 + 369 ≡ x = omega arith in
    let s : years_days (1601 + x - 1970) + 134774 + x / 100 ≡ 365 * x + x / 4 + x / 400 = (rw k at (years_sum (1601 + x - 1970))) in
    let j : 1601 + x - 1970 + 1 + 369 ≡ x + 1 = omega arith in
    let n : years_days (1601 + x - 1970 + 1) + 134774 + (x + 1) / 100 ≡ 365 * (x + 1) + (x + 1) / 4 + (x + 1) / 400 = (rw j at (years_sum (1601 + x - 1970 + 1))) in
    record {
      since = omega arith;
      early = soon x (x / 100) (x / 4) (x / 400) (omega arith) f.from;
      from = lower (years_days (1601 + x - 1970)) (x / 100) (365 * x + x / 4 + x / 400) s f.from;
      to = upper (years_days (1601 + x - 1970 + 1)) ((x + 1) / 100) (365 * (x + 1) + (x + 1) / 4 + (x + 1) / 400) n b.to;
    }
  where
    soon : (x c f l : ℕ) → c ≤ x → 365 * x + f + l ≤ day + 134774 + c → 1601 + x < 10000
    soon x c f l h g = omega arith

    lower : (d c s : ℕ) → d + 134774 + c ≡ s → s ≤ day + 134774 + c → d ≤ day
    lower d c s e h = omega arith

    upper : (d c s : ℕ) → d + 134774 + c ≡ s → day + 134774 + c < s → day < d
    upper d c s e h = omega arith

-- the cycles that the divisions give
cycles_of : (z b d r s : ℕ) → r ≡ z % 146097 → b ≡ min (r / 36524) 3 → s ≡ r - b * 36524 → d ≡ min (s % 1461 / 365) 3
    → Cycles z (z / 146097) b (s / 1461) d r s (s % 1461)
cycles_of z b d r s er eb es ed =
    record {
      long = omega (arith, er);
      in_long = omega (arith, er);
      hundred = hundred-is;
      hundreds = omega (arith, eb);
      in_hundred = λ l. short l;
      four = omega arith;
      in_four = omega arith;
      ones = omega (arith, ed);
      one = one-is (s % 1461) ed;
      in_one = λ l. one-short (s % 1461) ed l;
    }
  where
    hundred_le : b * 36524 ≤ r
    hundred_le = omega (arith, eb)

    hundred-is : r ≡ 36524 * b + s
    hundred-is = omega (arith, es, hundred_le)

    short : b < 3 → s < 36524
    short l = omega (arith, eb, es)

    one-is : (t : ℕ) → d ≡ min (t / 365) 3 → 365 * d ≤ t
    one-is t e = omega (arith, e)

    one-short : (t : ℕ) → d ≡ min (t / 365) 3 → d < 3 → t < 365 * d + 365
    one-short t e l = omega (arith, e)

-- year_of
pub year_of_is : (day b d : ℕ) → day < 1000000 → b ≡ min ((day + 134774) % 146097 / 36524) 3 → d ≡ min (((day + 134774) % 146097 - b * 36524) % 1461 / 365) 3
    → InYear day (1601 + (day + 134774) / 146097 * 400 + b * 100 + ((day + 134774) % 146097 - b * 36524) / 1461 * 4 + d)
year_of_is day b d hd eb ed =
    let y = cycles_of (day + 134774) b d _ _ refl eb refl ed in
    grouped ((day + 134774) / 146097 * 400) (b * 100) (((day + 134774) % 146097 - b * 36524) / 1461 * 4)
    (in_year day _ hd (cycles_from _ _ _ _ _ _ _ _ y) (cycles_to _ _ _ _ _ _ _ _ y))
  where
    grouped : (p q s : ℕ) → InYear day (1601 + (p + q + s + d)) → InYear day (1601 + p + q + s + d)
    grouped p q s h = let e : 1601 + p + q + s + d ≡ 1601 + (p + q + s + d) = omega arith in rw e h

pub year_of_fits : (day b d : ℕ) → day < 1000000 → b ≡ min ((day + 134774) % 146097 / 36524) 3 → d ≡ min (((day + 134774) % 146097 - b * 36524) % 1461 / 365) 3
    → 1601 + (day + 134774) / 146097 * 400 + b * 100 + ((day + 134774) % 146097 - b * 36524) / 1461 * 4 + d < 2 ^ 32
year_of_fits day b d hd eb ed =
    soon (1601 + (day + 134774) / 146097 * 400 + b * 100 + ((day + 134774) % 146097 - b * 36524) / 1461 * 4 + d) (year_of_is day b d hd eb ed).early
  where
    soon : (y : ℕ) → y < 10000 → y < 2 ^ 32
    soon y h = omega arith
