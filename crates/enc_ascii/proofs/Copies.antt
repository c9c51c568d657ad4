-- The exits and the loop of `copy`; and a copy over bytes from the first on. Assumes nothing.
use Rattle.std.specs.Prelude.{Some, None}
use mathlib.Core.Path.{◌≡◌, refl, ap}
use mathlib.Core.Bool.{true, false}
use mathlib.Core.List.{List, [], ◌∷◌, ◌++◌, append-nil}
use Prim.Native.Nat.{ℕ, zero, suc, ◌+◌, ◌-◌, ◌≤◌, ◌<◌}
use native.Mathlib.Omega.{arith}
use native.Mathlib.Nat.{add-zero}
use native.Mathlib.Numerals.{add-one}
use lib.Dec.{eqb}
use lib.ListN.{length, get_or, take, drop, set, length-drop, drop_of_length-le}
use lib.Seq.{drop-cons, take_all}
use borrow.Author.Tests.{eqb-true, eqb-false}
use Rattle.enc_utf_8.specs.Buffer.{Wrote}
use Rattle.enc_utf_8.proofs.Splices.{wrote_as, wrote_none}
use Rattle.enc_utf_8.proofs.Lays.{laid_one, Rest, rest_all, rest-next, rest_end, wrote-laid, wrote-over}

no_bytes : (xs : List ℕ) → length xs ≡ 0 → xs ≡ []
no_bytes [] h = refl
no_bytes (x ∷ xs) h = absurd (omega arith)

module _ (xs out : List ℕ) (at : ℕ) where
  pub copy_none : eqb (length xs) 0 ≡ true → Wrote xs out at (Some at) out
  copy_none e = wrote_as (no_bytes xs (eqb-true (length xs) 0 e)) (wrote_none out at)

  pub copy_past : eqb (length xs) 0 ≡ false → length out < at → Wrote xs out at None out
  copy_past e h = wrote-over xs out at (omega (arith, eqb-false (length xs) 0 e)) (omega (arith, eqb-false (length xs) 0 e))

  pub copy_over : eqb (length xs) 0 ≡ false → at ≤ length out → length out - at < length xs → Wrote xs out at None out
  copy_over e l h = wrote-over xs out at (omega arith) (omega arith)

  pub copy_start : at ≤ length out → length xs ≤ length out - at → Rest xs out at (drop 0 xs) out (at + 0)
  copy_start l h = rw add-zero (rest_all (omega arith))

  module _ (out₁ : List ℕ) (i : ℕ) (q : Rest xs out at (drop i xs) out₁ (at + i)) where
    pub copy_again : i < length xs → Rest xs out at (drop (i + 1) xs) (set out₁ (at + i) (get_or xs i 0)) (at + (i + 1))
    copy_again h =
        let k : at + i < length out₁ = omega (arith, q.room, length-drop i xs) in
        let e : at + (i + 1) ≡ at + i + 1 = omega arith in
        rw (e, add-one i)
        (rest-next q (drop-cons xs i 0 h) (laid_one out₁ (at + i) (get_or xs i 0) k))

    pub copy_end : at ≤ length out → length xs ≤ length out - at → length xs ≤ i → i ≤ length xs → Wrote xs out at (Some (at + length xs)) out₁
    copy_end l k h g =
        let e : at + i ≡ at + length xs = omega arith in
        wrote-laid xs out at (omega arith) (rw e at (rest_end q (drop_of_length-le xs h)))

-- ---- a copy over as many bytes, of which the first i are written: for the crates above

pub first_none : (xs out : List ℕ) → out ≡ take 0 xs ++ drop 0 out
first_none xs out = refl

next : (xs out : List ℕ) (i : ℕ) → length xs ≤ length out → i < length xs → set (take i xs ++ drop i out) i (get_or xs i 0) ≡ take (suc i) xs ++ drop (suc i) out
next [] out i e h = absurd (omega arith)
next (x ∷ xs) [] i e h = absurd (omega arith)
next (x ∷ xs) (y ∷ out) zero e h = refl
next (x ∷ xs) (y ∷ out) (suc i) e h = ap {B = List ℕ} (λ w. x ∷ w) (next xs out i (omega arith) (omega arith))

module _ (xs out : List ℕ) (i : ℕ) (now : List ℕ) (inv : now ≡ take i xs ++ drop i out) where
  pub first-next : length xs ≤ length out → i < length xs → set now i (get_or xs i 0) ≡ take (i + 1) xs ++ drop (i + 1) out
  first-next e h = rw (inv, add-one) (next xs out i e h)

  pub first_all : length out ≤ length xs → length xs ≤ i → now ≡ xs
  first_all e h = let k : length out ≤ i = omega arith in rw (inv, take_all i xs h, drop_of_length-le out k, append-nil)
