-- An order of names: a name does not stand before itself, and three names go in a row. Assumes nothing.
use mathlib.Core.Path.{◌≡◌, refl, sym, ◌∙◌}
use mathlib.Core.Bool.{Bool, true, false}
use mathlib.Core.List.{List}
use Prim.Native.Nat.{ℕ, ◌+◌, ◌≤◌, ◌<◌}
use native.Mathlib.Omega.{arith}
use lib.Dec.{ltb, eqb}
use borrow.Author.Count.{below_more}
use borrow.Author.Tests.{ltb-true, ltb-false, eqb-true, eqb-false}
use Rattle.type_order.specs.Names.{word_at, SameTo, Less, LessIs}

-- ---- the turns of a comparison

module _ (a b : List ℕ) where
  pub same_none : SameTo a b 0
  same_none = record { all = λ j l. absurd (omega arith) }

  pub less-never : LessIs a b false
  less-never = record { is = λ e. absurd (let z : ◌≡◌ {A = ℕ} 0 1 = cc in omega arith) }

  module _ (k : ℕ) (s : SameTo a b k) (x : ℕ) (ex : x ≡ word_at a k) (y : ℕ) (ey : y ≡ word_at b k) where
    pub less-here : x < y → LessIs a b true
    less-here l = record { is = λ e. record { place = k; same = s; less = rw (← ex, ← ey) l } }

    pub same_more : y ≤ x → x ≤ y → SameTo a b (k + 1)
    same_more l g =
        let q : x ≡ y = omega arith in
        record { all = below_more (λ j. word_at a j ≡ word_at b j) k s.all (sym ex ∙ q ∙ ey) }

-- ---- the order

pub less_other : (a b : List ℕ) → Less a b → a ≡ b → ⊥
less_other a b l e =
    let w : word_at a l.place ≡ word_at b l.place = rw e in
    let g : word_at a l.place < word_at b l.place = l.less in
    omega arith

module _ (a b c : List ℕ) (p : Less a b) (q : Less b c) where
  both : (k : ℕ) → k ≤ p.place → k ≤ q.place → SameTo a c k
  both k l g = record { all = λ j h. p.same.all j (omega arith) ∙ q.same.all j (omega arith) }

  pub less_trans : Less a c
  less_trans = by (ltb p.place q.place) refl
    where
      after : (t : Bool) → eqb q.place p.place ≡ t → q.place ≤ p.place → Less a c
      after true e l =
          let k : q.place ≡ p.place = eqb-true _ _ e in
          let u : word_at a p.place < word_at b p.place = p.less in
          let v : word_at b p.place < word_at c p.place = (rw k at q.less) in
          record { place = p.place; same = both p.place (omega arith) (omega arith); less = omega arith }
      after false e l =
          let n : q.place ≡ p.place → ⊥ = eqb-false _ _ e in
          let u : word_at a q.place ≡ word_at b q.place = p.same.all q.place (omega (arith, n)) in
          let v : word_at b q.place < word_at c q.place = q.less in
          record { place = q.place; same = both q.place l (omega arith); less = omega arith }

      by : (t : Bool) → ltb p.place q.place ≡ t → Less a c
      by true e =
          let l : p.place < q.place = ltb-true _ _ e in
          let u : word_at a p.place < word_at b p.place = p.less in
          let v : word_at b p.place ≡ word_at c p.place = q.same.all p.place l in
          record { place = p.place; same = both p.place (omega arith) (omega arith); less = omega arith }
      by false e = after (eqb q.place p.place) refl (ltb-false _ _ e)
