-- The numbers of what the two calls answer tell it. Assumes nothing.
use Rattle.std.specs.Prelude.{Option, Some, None}
use mathlib.Core.Path.{◌≡◌, refl, ap}
use Prim.Native.Nat.{ℕ}
use native.Mathlib.Omega.{arith}
use lib.ListN.{length}
use Rattle.time_parts.specs.declared.Parts.{Parts}
use Rattle.time_parts.specs.Parts.{parts_numbers, count_numbers}

-- parts of the same seven numbers are the same
pub parts_same : (p q : Parts) → p.year ≡ q.year → p.month ≡ q.month → p.day ≡ q.day → p.hour ≡ q.hour → p.minute ≡ q.minute
    → p.second ≡ q.second → p.nanosecond ≡ q.nanosecond → p ≡ q
parts_same p q a b c d e f g = rw (a, b, c, d, e, f, g)

-- answers of the same numbers are the same: parts
pub parts_is : (r a : Option Parts) → parts_numbers r ≡ parts_numbers a → r ≡ a
unfolding parts_numbers
parts_is (Some p) (Some q) e = ap Some (parts_same p q (cc) (cc) (cc) (cc) (cc) (cc) (cc))
parts_is (Some p) None e = absurd (let z : ◌≡◌ {A = ℕ} 8 1 = ap length e in omega arith)
parts_is None (Some q) e = absurd (let z : ◌≡◌ {A = ℕ} 1 8 = ap length e in omega arith)
parts_is None None e = refl

-- the same answer has the same numbers
pub parts_says : (r a : Option Parts) → r ≡ a → parts_numbers r ≡ parts_numbers a
parts_says r a e = ap parts_numbers e

-- answers of the same numbers are the same: a count
pub count_is : (r a : Option ℕ) → count_numbers r ≡ count_numbers a → r ≡ a
unfolding count_numbers
count_is (Some n) (Some m) e = let q : n ≡ m = cc in ap Some q
count_is (Some n) None e = absurd (let z : ◌≡◌ {A = ℕ} 2 1 = ap length e in omega arith)
count_is None (Some m) e = absurd (let z : ◌≡◌ {A = ℕ} 1 2 = ap length e in omega arith)
count_is None None e = refl

-- the same answer has the same numbers
pub count_says : (r a : Option ℕ) → r ≡ a → count_numbers r ≡ count_numbers a
count_says r a e = ap count_numbers e
