-- A product that is known up to a top: once it is more than any length, what it is needs not be known. Assumes nothing.
use mathlib.Core.Path.{◌≡◌, refl, sym, ◌∙◌}
use mathlib.Core.Bool.{Bool, true, false}
use mathlib.Core.List.{List}
use Prim.Native.Nat.{ℕ, zero, suc, ◌+◌, ◌*◌, ◌-◌, ◌/◌, ◌≤◌, ◌<◌, min}
use native.Mathlib.Omega.{arith}
use native.Mathlib.Nat.{mul_assoc, mul-one, mul-zero, mul-suc, min-eq_left, min-eq_right, mul-div_cancel_left}
use lib.Dec.{eqb, leb}
use borrow.Author.Tests.{ne_eqb, leb-true, leb-false}
use Rattle.type_book.specs.Book.{size_of, count_of, dimensions_of}
use Rattle.tape_shape.specs.Array.{product_from, stride_of, array_bytes, StrideIs}

-- the top: no slice is as long
abbrev pub top : ℕ
top = 0x8000_0000_0000_0000

-- one of the two
split : {X : Type 0} (a b : ℕ) → (a ≤ b → X) → (b < a → X) → X
split {X} a b f g = by (leb a b) refl
  where
    by : (t : Bool) → leb a b ≡ t → X
    by true e = f (leb-true a b e)
    by false e = g (leb-false a b e)

-- the top stays the top, unless a factor is 0
pub times_again : (x b : ℕ) → min (min x top * b) top ≡ min (x * b) top
times_again x zero = rw (mul-zero, mul-zero)
times_again x (suc b) = split x top (λ h. rw (min-eq_left h)) over
  where
    over : top < x → min (min x top * suc b) top ≡ min (x * suc b) top
    over h =
        let e : min x top ≡ top = min-eq_right (omega arith) in
        let l : top ≤ top * suc b = rw mul-suc (omega arith) in
        let m : top ≤ x * suc b = rw mul-suc (omega arith) in
        rw (e, min-eq_right l, min-eq_right m)

-- the loop over the counts: what was multiplied so far, times the rest, is the whole
pub record Multiplied (book : List ℕ) (t e d k p : ℕ) : Type 0 where
  pub so_far : ℕ
  pub is : p ≡ min so_far top
  pub rest : so_far * product_from book t d k ≡ array_bytes book t e

pub multiplied_start : (book : List ℕ) (t e n c s p : ℕ) → n ≡ dimensions_of book t → c ≡ count_of book t 0 → s ≡ size_of book e → p ≡ min (c * s) top → Multiplied book t e 1 (n - 1) p
unfolding array_bytes stride_of
multiplied_start book t e n c s p en ec es ep = record { so_far = c * s; is = ep; rest = rw (en, ec, es) (mul_assoc (count_of book t 0) (size_of book e) (product_from book t 1 (dimensions_of book t - 1))) }

pub multiplied_again : (book : List ℕ) (t e d n c p q : ℕ) → d < n → c ≡ count_of book t d → q ≡ min (p * c) top → Multiplied book t e d (n - d) p → Multiplied book t e (d + 1) (n - (d + 1)) q
unfolding product_from
multiplied_again book t e d n c p q l ec eq m =
    let k : n - d ≡ suc (n - (d + 1)) = omega arith in
    record {
      so_far = m.so_far * c;
      is = eq ∙ rw m.is (times_again m.so_far c);
      rest = rw ec (mul_assoc m.so_far (count_of book t d) (product_from book t (d + 1) (n - (d + 1))) ∙ (rw k at m.rest));
    }

eqb-top : (x n : ℕ) → n < top → eqb (min x top) n ≡ eqb x n
eqb-top x n h =
    split x top (λ l. rw (min-eq_left l))
    (λ l. let z : min x top ≡ top = min-eq_right (omega arith) in rw (z, ne_eqb top n (λ e. omega arith)) (sym (ne_eqb x n (λ e. omega arith))))

pub multiplied_end : (book : List ℕ) (t e d n p len : ℕ) → n ≤ d → len < top → Multiplied book t e d (n - d) p → eqb p len ≡ eqb (array_bytes book t e) len
unfolding product_from
multiplied_end book t e d n p len h l m =
    let k : n - d ≡ 0 = omega arith in
    let z : m.so_far ≡ array_bytes book t e = sym (mul-one m.so_far) ∙ (rw k at m.rest) in
    rw (m.is, eqb-top m.so_far len l, z)

-- the bytes of one of n equal parts
pub stride_is : (n len : ℕ) → (n ≡ 0 → ⊥) → StrideIs n len (len / n)
stride_is n len h = record { part = rw (ne_eqb n 0 h); is = λ k l e. rw (← e) (mul-div_cancel_left k l) }

pub stride_none : (n len : ℕ) → n ≡ 0 → StrideIs n len 0
stride_none n len h = record { part = rw h; is = λ k l e. absurd (omega arith) }
