-- A list of bytes from the front: its sum, and a test of every byte. Each loop keeps: the whole is what is left. Assumes nothing.
use mathlib.Core.Path.{◌≡◌, refl, sym, ◌∙◌}
use mathlib.Core.Bool.{Bool, true, false, ◌&&◌}
use mathlib.Core.List.{List, [], ◌∷◌}
use Prim.Native.Nat.{ℕ, suc, ◌+◌, ◌≤◌, ◌<◌, max}
use native.Mathlib.Omega.{arith}
use native.Mathlib.Numerals.{add-one}
use lib.ListN.{length, get_or, drop, drop_of_length-le}
use lib.Seq.{drop-cons}
use lib.Dec.{eqb}
use borrow.Author.Tests.{not-true, not-false, ltb-true, ltb-false, eqb-true, eqb-false, lt-ltb, le-ltb, le-leb, lt-leb, eq-eqb, ne_eqb}
use Rattle.std.specs.List.{list_all}
use Rattle.type_block_form.specs.Form.{sum_of, every, is_zero}

-- what a call said of a test, and how the test went
pub said : {t b x : Bool} → t ≡ x → t ≡ b → x ≡ b
said p q = sym p ∙ q

-- two tests in a row
pub and-stop : (a b : Bool) → a ≡ false → false ≡ a && b
and-stop a b e = rw e

pub and-go : (a b r : Bool) → a ≡ true → r ≡ b → r ≡ a && b
and-go a b r e q = rw e q

pub and_left : (a b : Bool) → a && b ≡ true → a ≡ true
and_left true b e = refl
and_left false b e = e

pub and_right : (a b : Bool) → a && b ≡ true → b ≡ true
and_right true b e = e
and_right false b e = cc

pub ruleset tests = (and-stop, and-go, said, not-true, not-false, lt-ltb, le-ltb, le-leb, lt-leb, eq-eqb, ne_eqb)

module _ (p : ℕ → Bool) (xs : List ℕ) (i : ℕ) (inv : every p xs ≡ every p (drop i xs)) where
  module _ (l : i < length xs) where
    turn : every p xs ≡ p (get_or xs i 0) && every p (drop (i + 1) xs)
    unfolding every
    turn = inv ∙ rw (add-one, drop-cons xs i 0 l)

    pub every-stop : p (get_or xs i 0) ≡ false → false ≡ every p xs
    every-stop e = sym (turn ∙ rw e)

    pub every-again : p (get_or xs i 0) ≡ true → every p xs ≡ every p (drop (i + 1) xs)
    every-again e = turn ∙ rw e

  pub every-end : length xs ≤ i → true ≡ every p xs
  unfolding every
  every-end l = sym (inv ∙ rw (drop_of_length-le xs l))

-- the same test by the library's word
pub every_all : (p : ℕ → Bool) (xs : List ℕ) → list_all p xs ≡ every p xs
unfolding every
every_all p [] = refl
every_all p (x ∷ xs) = rw (every_all p xs)

-- ---- the loop of `all_zero`: all is 0 where the highest byte so far and what is left are

and_assoc : (a b c : Bool) → a && (b && c) ≡ (a && b) && c
and_assoc true b c = refl
and_assoc false b c = refl

max_zero : (a b : ℕ) → eqb (max a b) 0 ≡ eqb a 0 && eqb b 0
max_zero a b = by (eqb a 0) (eqb b 0) refl refl
  where
    by : (s t : Bool) → eqb a 0 ≡ s → eqb b 0 ≡ t → eqb (max a b) 0 ≡ s && t
    by true true p q = eq-eqb (max a b) 0 (omega (arith, eqb-true a 0 p, eqb-true b 0 q))
    by true false p q = ne_eqb (max a b) 0 (λ e. eqb-false b 0 q (omega arith))
    by false t p q = ne_eqb (max a b) 0 (λ e. eqb-false a 0 p (omega arith))

module _ (xs : List ℕ) (i highest : ℕ) (inv : every is_zero xs ≡ eqb highest 0 && every is_zero (drop i xs)) where
  pub zero-again : (n : ℕ) → i < length xs → n ≡ max highest (get_or xs i 0) → every is_zero xs ≡ eqb n 0 && every is_zero (drop (i + 1) xs)
  unfolding every
  zero-again n l e = inv ∙ rw (add-one, drop-cons xs i 0 l, e, max_zero highest (get_or xs i 0)) (and_assoc (eqb highest 0) (eqb (get_or xs i 0) 0) (every is_zero (drop (suc i) xs)))

  pub zero-end : length xs ≤ i → eqb highest 0 ≡ every is_zero xs
  unfolding every
  zero-end l = sym (inv ∙ rw (drop_of_length-le xs l) (by (eqb highest 0)))
    where
      by : (b : Bool) → b && true ≡ b
      by true = refl
      by false = refl

module _ (xs : List ℕ) (i total : ℕ) (inv : sum_of xs ≡ total + sum_of (drop i xs)) where
  pub sum-again : i < length xs → sum_of xs ≡ total + get_or xs i 0 + sum_of (drop (i + 1) xs)
  unfolding sum_of
  sum-again l =
      let e : sum_of (drop i xs) ≡ get_or xs i 0 + sum_of (drop (i + 1) xs) = rw (add-one, drop-cons xs i 0 l) in
      omega arith

  pub sum-end : length xs ≤ i → total ≡ sum_of xs
  unfolding sum_of
  sum-end l =
      let e : sum_of (drop i xs) ≡ 0 = rw (drop_of_length-le xs l) in
      omega arith
