-- Names compared byte by byte. Assumes nothing.
use mathlib.Core.Path.{◌≡◌, refl, sym, ap, ◌∙◌}
use mathlib.Core.Bool.{Bool, true, false, ◌&&◌}
use mathlib.Core.List.{List, [], ◌∷◌}
use Prim.Native.Nat.{ℕ, ◌+◌, ◌≤◌, ◌<◌}
use native.Mathlib.Omega.{arith}
use native.Mathlib.Numerals.{add-one}
use lib.ListN.{length, get_or, drop, drop_of_length-le}
use lib.Seq.{drop-cons}
use lib.Dec.{eqb}
use borrow.Author.Tests.{eq-eqb, ne_eqb, eqb-true}
use Rattle.type_book.specs.Book.{same_name}

pub same_refl : (a : List ℕ) → same_name a a ≡ true
unfolding same_name
same_refl [] = refl
same_refl (x ∷ xs) = rw (eq-eqb x x refl) (same_refl xs)

pub same_eq : (a b : List ℕ) → same_name a b ≡ true → a ≡ b
unfolding same_name
same_eq [] [] h = refl
same_eq [] (y ∷ ys) h = absurd (let z : ◌≡◌ {A = ℕ} 0 1 = cc in omega arith)
same_eq (x ∷ xs) [] h = absurd (let z : ◌≡◌ {A = ℕ} 0 1 = cc in omega arith)
same_eq (x ∷ xs) (y ∷ ys) h = both (eqb x y) refl (same_eq xs ys) h
  where
    both : (g : Bool) → eqb x y ≡ g → (same_name xs ys ≡ true → xs ≡ ys) → g && same_name xs ys ≡ true → x ∷ xs ≡ y ∷ ys
    both true e ih h = let p : x ≡ y = eqb-true x y e in let q : xs ≡ ys = ih h in cc
    both false e ih h = absurd (let z : ◌≡◌ {A = ℕ} 0 1 = cc in omega arith)

pub eq_same : (a b : List ℕ) → a ≡ b → same_name a b ≡ true
eq_same a b e = rw e (same_refl b)

-- ---- the loop of `same_bytes`

-- other bytes are another name
pub other_name : (a b : List ℕ) → (a ≡ b → ⊥) → false ≡ same_name a b
other_name a b n = by (same_name a b) refl
  where
    by : (g : Bool) → same_name a b ≡ g → false ≡ same_name a b
    by true h = absurd (n (same_eq a b h))
    by false h = sym h

pub same-lengths : (a b : List ℕ) → (length a ≡ length b → ⊥) → false ≡ same_name a b
same-lengths a b n = other_name a b (λ e. n (ap length e))

module _ (a b : List ℕ) (i : ℕ) (inv : same_name a b ≡ same_name (drop i a) (drop i b)) where
  turn : i < length a → i < length b → same_name a b ≡ eqb (get_or a i 0) (get_or b i 0) && same_name (drop (i + 1) a) (drop (i + 1) b)
  unfolding same_name
  turn ha hb = inv ∙ rw (add-one, drop-cons a i 0 ha, drop-cons b i 0 hb)

  pub same_differ : i < length a → length a ≡ length b → (get_or a i 0 ≡ get_or b i 0 → ⊥) → false ≡ same_name a b
  same_differ ha e n = sym (turn ha (omega arith) ∙ rw (ne_eqb (get_or a i 0) (get_or b i 0) n))

  pub same-again : i < length a → length a ≡ length b → get_or a i 0 ≡ get_or b i 0 → same_name a b ≡ same_name (drop (i + 1) a) (drop (i + 1) b)
  same-again ha e q = turn ha (omega arith) ∙ rw (eq-eqb (get_or a i 0) (get_or b i 0) q)

  pub same_end : length a ≤ i → length a ≡ length b → true ≡ same_name a b
  unfolding same_name
  same_end ha e =
      let hb : length b ≤ i = omega arith in
      sym (inv ∙ rw (drop_of_length-le a ha, drop_of_length-le b hb))
