-- The numbers of an answer tell it; where it is no refusal. Assumes nothing.
use mathlib.Core.Path.{◌≡◌, refl, sym, ap}
use mathlib.Core.Bool.{Bool, true, false, cond}
use mathlib.Core.List.{List, []}
use Prim.Native.Nat.{ℕ}
use native.Mathlib.Omega.{arith}
use lib.ListN.{length}
use Rattle.enc_number.specs.Answer.{refusal_of}
use Rattle.type_category.specs.Category.{category_of}
use Rattle.resolvers.specs.declared.Resolved.TheVariants.{Base, NotFound, TooLong}
use Rattle.resolve_walk.specs.Walk.{Walk, over, full, met}
use Rattle.resolve_walk.specs.Reads.{listed, whole}
use Rattle.resolve_walk.proofs.Reach.{true-false}
use Rattle.resolve_read_modify_write.specs.declared.Rmw.{Rmw}
use Rattle.resolve_read_modify_write.specs.declared.Rmw.TheVariants as rmw
use Rattle.resolve_read_modify_write.specs.Reads.{keeps_state, rmw_of}
use Rattle.resolve_read_modify_write.specs.Calls.{rmw_numbers}

-- answers of the same numbers are the same
pub rmw_is : (r a : Rmw) → rmw_numbers r ≡ rmw_numbers a → r ≡ a
unfolding rmw_numbers
rmw_is rmw.Yes rmw.Yes e = refl
rmw_is rmw.Yes rmw.No e = absurd (let z : ◌≡◌ {A = ℕ} 1 0 = cc in omega arith)
rmw_is rmw.Yes (rmw.NotFound c) e = absurd (let z : ◌≡◌ {A = ℕ} 0 7 = cc in omega arith)
rmw_is rmw.Yes (rmw.Refused m) e = absurd (let z : ◌≡◌ {A = ℕ} 2 1 = ap length e in omega arith)
rmw_is rmw.No rmw.Yes e = absurd (let z : ◌≡◌ {A = ℕ} 0 1 = cc in omega arith)
rmw_is rmw.No rmw.No e = refl
rmw_is rmw.No (rmw.NotFound c) e = absurd (let z : ◌≡◌ {A = ℕ} 0 7 = cc in omega arith)
rmw_is rmw.No (rmw.Refused m) e = absurd (let z : ◌≡◌ {A = ℕ} 2 1 = ap length e in omega arith)
rmw_is (rmw.NotFound b) rmw.Yes e = absurd (let z : ◌≡◌ {A = ℕ} 7 0 = cc in omega arith)
rmw_is (rmw.NotFound b) rmw.No e = absurd (let z : ◌≡◌ {A = ℕ} 7 0 = cc in omega arith)
rmw_is (rmw.NotFound b) (rmw.NotFound c) e = let q : b ≡ c = cc in ap rmw.NotFound q
rmw_is (rmw.NotFound b) (rmw.Refused m) e = absurd (let z : ◌≡◌ {A = ℕ} 2 1 = ap length e in omega arith)
rmw_is (rmw.Refused n) rmw.Yes e = absurd (let z : ◌≡◌ {A = ℕ} 1 2 = ap length e in omega arith)
rmw_is (rmw.Refused n) rmw.No e = absurd (let z : ◌≡◌ {A = ℕ} 1 2 = ap length e in omega arith)
rmw_is (rmw.Refused n) (rmw.NotFound c) e = absurd (let z : ◌≡◌ {A = ℕ} 1 2 = ap length e in omega arith)
rmw_is (rmw.Refused n) (rmw.Refused m) e = let q : n ≡ m = cc in ap rmw.Refused q

-- the same answer has the same numbers
pub rmw_says : (r a : Rmw) → r ≡ a → rmw_numbers r ≡ rmw_numbers a
rmw_says r a e = ap rmw_numbers e

-- where the walk is whole and lists nothing, read-modify-write is not refused
pub rmw_number : (book : List ℕ) (width : ℕ) (w : Walk) → whole w ≡ true → listed w ≡ [] → refusal_of (rmw_numbers (rmw_of book width w)) ≡ 0
unfolding whole listed rmw_of rmw_numbers
rmw_number book width over h l = refl
rmw_number book width (full b x) h l = true-false (sym h)
rmw_number book width (met b x (Base t) w) h l = by (keeps_state (category_of book width t)) (rmw_number book width w h l)
  where
    by : (g : Bool) → refusal_of (rmw_numbers (rmw_of book width w)) ≡ 0 → refusal_of (rmw_numbers (cond g rmw.Yes (rmw_of book width w))) ≡ 0
    by true q = refl
    by false q = q
rmw_number book width (met b x (NotFound c) w) h l = absurd (let z = ap length l in omega arith)
rmw_number book width (met b x TooLong w) h l = true-false (sym h)
