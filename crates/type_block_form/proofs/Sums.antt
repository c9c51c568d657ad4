-- The sum of a block, by the two halves of its 508 first bytes. Assumes nothing.
use mathlib.Core.Path.{◌≡◌, sym, ap, ◌∙◌}
use mathlib.Core.List.{List, [], ◌∷◌, ◌++◌}
use Prim.Native.Nat.{ℕ, ◌+◌, ◌≤◌}
use native.Mathlib.Omega.{arith}
use lib.ListN.{length, take, drop}
use lib.Seq.{length-take-le, take-take, take-add}
use lib.Dec.{eqb, lit≤}
use Rattle.enc_number.specs.Le.{le_value}
use Rattle.type_block_form.specs.Form.{sum_of, sum_right}

-- a head of at most half a block, as the code cuts it
module _ (b : List ℕ) (h : length b ≡ 512) (n : ℕ) (l : n ≤ 254) where
  pub sum_head : n ≡ length (take n b)
  sum_head = sym (length-take-le n b (omega arith))

  pub sum-short : length (take n b) ≤ 254
  sum-short = omega (arith, sum_head)

pub sum_append : (xs ys : List ℕ) → sum_of (xs ++ ys) ≡ sum_of xs + sum_of ys
unfolding sum_of
sum_append [] ys = omega arith
sum_append (x ∷ xs) ys = omega (arith, sum_append xs ys)

sum-halves : (b : List ℕ) → sum_of (take 508 b) ≡ sum_of (take 254 b) + sum_of (take 254 (drop 254 b))
sum-halves b = ap sum_of (take-add 254 254 b) ∙ sum_append (take 254 b) (take 254 (drop 254 b))

pub sum_is : (b : List ℕ) (s f r : ℕ) → s ≡ le_value (take 4 (take 4 (drop 508 b))) → f ≡ sum_of (take 254 b) → r ≡ sum_of (take 254 (drop 254 b)) → eqb s (f + r) ≡ sum_right b
unfolding sum_right
sum_is b s f r e p q = rw (e, p, q, take-take 4 4 (drop 508 b) (lit≤ tt), sum-halves b)
