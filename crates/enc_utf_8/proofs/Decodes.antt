-- What `next_from` finds at each exit of the decoder's functions. Assumes nothing.
use mathlib.Core.Path.{◌≡◌, refl, sym, ap, ◌∙◌}
use mathlib.Core.Bool.{Bool, true, false, cond, ◌&&◌}
use mathlib.Core.List.{List, [], ◌∷◌}
use Prim.Native.Nat.{ℕ, suc, ◌+◌, ◌*◌, ◌%◌, ◌-◌, ◌≤◌, ◌<◌}
use native.Mathlib.Omega.{arith}
use native.Mathlib.Numerals.{add-one}
use lib.ListN.{length, get_or, drop, drop_of_length-le}
use lib.Seq.{drop-cons, drop-drop}
use lib.Dec.{T, leb, ltb, eqb, ltb→lt, eqb-suc-zero, eqb-zero-suc, eqb-suc-suc}
use borrow.Author.Tests.{lt-ltb, le-ltb, le-leb, lt-leb, eq-eqb, ne_eqb}
use Rattle.enc_utf_8.specs.declared.Char.{Char}
use Rattle.enc_utf_8.specs.declared.Char.TheVariants.{Code, Error, End}
use Rattle.enc_utf_8.specs.Utf8.{State, state, lower_of, upper_of, leading, following, found, next_from, next_at}

-- ---- the exits of `lower_of` and `upper_of`

module _ (b : ℕ) where
  pub lower-other : (b ≡ 0xe0 → ⊥) → (b ≡ 0xf0 → ⊥) → 0x80 ≡ lower_of b
  lower-other h k = rw (ne_eqb b 0xe0 h, ne_eqb b 0xf0 k)

  pub lower-f0 : (b ≡ 0xe0 → ⊥) → b ≡ 0xf0 → 0x90 ≡ lower_of b
  lower-f0 h k = rw (ne_eqb b 0xe0 h, eq-eqb b 0xf0 k)

  pub lower-e0 : b ≡ 0xe0 → 0xa0 ≡ lower_of b
  lower-e0 h = rw (eq-eqb b 0xe0 h)

  pub upper-other : (b ≡ 0xed → ⊥) → (b ≡ 0xf4 → ⊥) → 0xbf ≡ upper_of b
  upper-other h k = rw (ne_eqb b 0xed h, ne_eqb b 0xf4 k)

  pub upper-f4 : (b ≡ 0xed → ⊥) → b ≡ 0xf4 → 0x8f ≡ upper_of b
  upper-f4 h k = rw (ne_eqb b 0xed h, eq-eqb b 0xf4 k)

  pub upper-ed : b ≡ 0xed → 0x9f ≡ upper_of b
  upper-ed h = rw (eq-eqb b 0xed h)

-- ---- the exits of `one_more`

module _ (text : List ℕ) (at : ℕ) where
  here : at < length text → drop at text ≡ get_or text at 0 ∷ drop (at + 1) text
  here h = rw (add-one, drop-cons text at 0 h)

  module _ (code lower upper : ℕ) where
    pub more-end : length text ≤ at → Error at ≡ next_from (state code 0 1 lower upper) at (drop at text)
    unfolding next_from
    more-end h = rw (drop_of_length-le text h)

    pub more-below : at < length text → get_or text at 0 < lower → Error at ≡ next_from (state code 0 1 lower upper) at (drop at text)
    unfolding next_from
    more-below h l = rw (here h, lt-leb lower (get_or text at 0) l)

    pub more-above : at < length text → lower ≤ get_or text at 0 → upper < get_or text at 0 → Error at ≡ next_from (state code 0 1 lower upper) at (drop at text)
    unfolding next_from
    more-above h l u = rw (here h, le-leb lower (get_or text at 0) l, lt-leb (get_or text at 0) upper u)

    pub more-last : at < length text → lower ≤ get_or text at 0 → get_or text at 0 ≤ upper → (w : ℕ) → w ≡ get_or text at 0
        → Code (code * 64 + w % 64) (at + 1) ≡ next_from (state code 0 1 lower upper) at (drop at text)
    unfolding next_from following found
    more-last h l u w e = rw (here h, le-leb lower (get_or text at 0) l, le-leb (get_or text at 0) upper u, e)

-- ---- the exits of `two_more` and `three_more`

cond_both : {X : Type 0} (t : Bool) {x y z w : X} → x ≡ z → y ≡ w → cond t x y ≡ cond t z w
cond_both true p q = p
cond_both false p q = q

-- only how many bytes are still to come counts
pub fewer : (code seen needed lower upper at : ℕ) (bs : List ℕ) → next_from (state code (suc seen) (suc (suc needed)) lower upper) at bs ≡ next_from (state code seen (suc needed) lower upper) at bs
unfolding next_from following found
fewer code seen needed lower upper at [] = rw (eqb-suc-zero (suc needed), eqb-suc-zero needed)
fewer code seen needed lower upper at (b ∷ bs) =
    rw (eqb-suc-zero (suc needed), eqb-suc-zero needed)
    (cond_both (leb lower b && leb b upper) (step (eqb (seen + 1) (suc needed)) refl (fewer (code * 64 + b % 64) (seen + 1) needed 0x80 0xbf (at + 1) bs)) refl)
  where
    step : (t : Bool) → eqb (seen + 1) (suc needed) ≡ t
        → next_from (state (code * 64 + b % 64) (suc (seen + 1)) (suc (suc needed)) 0x80 0xbf) (at + 1) bs ≡ next_from (state (code * 64 + b % 64) (seen + 1) (suc needed) 0x80 0xbf) (at + 1) bs
        → found (following code (suc seen) (suc (suc needed)) b) at (λ s. next_from s (at + 1) bs)
        ≡ found (following code seen (suc needed) b) at (λ s. next_from s (at + 1) bs)
    step true e ih = let k : suc seen + 1 ≡ suc (seen + 1) = omega arith in rw (k, eqb-suc-suc (seen + 1) (suc needed), e)
    step false e ih = let k : suc seen + 1 ≡ suc (seen + 1) = omega arith in rw (k, eqb-suc-suc (seen + 1) (suc needed), e) ih

-- one byte, and then as many as are still needed, from where the first one ends
unfoldable then-more : Char → ℕ → (State → ℕ → Char) → Char
then-more (Code c e) needed rest = rest (state c 0 needed 0x80 0xbf) e
then-more (Error e) needed rest = Error e
then-more End needed rest = End

module _ (text : List ℕ) (at code lower upper needed : ℕ) where
  split : (bs : List ℕ) → drop at text ≡ bs
      → next_from (state code 0 (suc (suc needed)) lower upper) at bs
      ≡ then-more (next_from (state code 0 1 lower upper) at bs) (suc needed) (λ s e. next_from s e (drop e text))
  unfolding next_from following found then-more
  split [] q = rw (eqb-suc-zero (suc needed))
  split (b ∷ bs) q = rw (eqb-suc-zero (suc needed)) (step (leb lower b && leb b upper))
    where
      rest : bs ≡ drop (at + 1) text
      rest = ap (λ (l : List ℕ). drop 1 l) (sym q) ∙ drop-drop 1 at text

      step : (t : Bool)
          → cond t (found (following code 0 (suc (suc needed)) b) at (λ s. next_from s (at + 1) bs)) (Error at)
          ≡ then-more (cond t (found (following code 0 1 b) at (λ s. next_from s (at + 1) bs)) (Error at)) (suc needed) (λ s e. next_from s e (drop e text))
      step true = rw (← rest, eqb-suc-suc 0 (suc needed), eqb-zero-suc needed) (fewer (code * 64 + b % 64) 0 needed 0x80 0xbf (at + 1) bs)
      step false = refl

-- `total` bytes are needed, `left` of them after the first
module _ (text : List ℕ) (at code lower upper total : ℕ) (many : T (ltb 1 total)) (one : Char) (h : one ≡ next_from (state code 0 1 lower upper) at (drop at text)) where
  whole : next_from (state code 0 total lower upper) at (drop at text) ≡ then-more one (total - 1) (λ s e. next_from s e (drop e text))
  whole =
      let k : total ≡ suc (suc (total - 2)) = omega (arith, ltb→lt 1 total many) in
      let l : total - 1 ≡ suc (total - 2) = omega (arith, ltb→lt 1 total many) in
      rw (l, h) (ap (λ (n : ℕ). next_from (state code 0 n lower upper) at (drop at text)) k ∙ split text at code lower upper (total - 2) (drop at text) refl)

  pub more-on : (c e left : ℕ) (r : Char) → one ≡ Code c e → r ≡ next_from (state c 0 left 0x80 0xbf) e (drop e text) → left ≡ total - 1
      → r ≡ next_from (state code 0 total lower upper) at (drop at text)
  unfolding then-more
  more-on c e left r k q l = q ∙ sym (whole ∙ rw (k, ← l))

  pub more-error : (e : ℕ) → one ≡ Error e → Error e ≡ next_from (state code 0 total lower upper) at (drop at text)
  unfolding then-more
  more-error e k = sym (whole ∙ rw k)

  pub more-none : one ≡ End → End ≡ next_from (state code 0 total lower upper) at (drop at text)
  unfolding then-more
  more-none k = sym (whole ∙ rw k)

-- one more byte adds six bits
pub more-small : (bs : List ℕ) (at code lower upper c e : ℕ) (one : Char) → one ≡ next_from (state code 0 1 lower upper) at bs → one ≡ Code c e → c < code * 64 + 64
unfolding next_from following found
more-small [] at code lower upper c e one h k = absurd (let z : ◌≡◌ {A = ℕ} 0 1 = cc in omega arith)
more-small (b ∷ bs) at code lower upper c e one h k = by (leb lower b && leb b upper) (sym k ∙ h)
  where
    by : (t : Bool) → Code c e ≡ cond t (Code (code * 64 + b % 64) (at + 1)) (Error at) → c < code * 64 + 64
    by true q = let z : c ≡ code * 64 + b % 64 = cc in omega arith
    by false q = absurd (let z : ◌≡◌ {A = ℕ} 0 1 = cc in omega arith)

-- the code point stays small enough for another byte
module _ (bs : List ℕ) (at code lower upper c e : ℕ) (one : Char) (h : one ≡ next_from (state code 0 1 lower upper) at bs) (k : one ≡ Code c e) where
  pub more-two : code < 0x1000 → c < 0x100000
  more-two l = omega (arith, more-small bs at code lower upper c e one h k)

  pub more-three : code < 0x20 → c < 0x1000
  more-three l = omega (arith, more-small bs at code lower upper c e one h k)

-- ---- the exits of `next`

module _ (text : List ℕ) (at : ℕ) where
  pub next-end : length text ≤ at → End ≡ next_at text at
  unfolding next_from
  next-end h = rw (drop_of_length-le text h)

  module _ (h : at < length text) where
    pub next_one : get_or text at 0 < 0x80 → Code (get_or text at 0) (at + 1) ≡ next_at text at
    unfolding next_from leading found
    next_one l = rw (here text at h, lt-ltb (get_or text at 0) 0x80 l)

    pub next-trail : 0x80 ≤ get_or text at 0 → get_or text at 0 < 0xc2 → Error (at + 1) ≡ next_at text at
    unfolding next_from leading found
    next-trail l u = rw (here text at h, le-ltb (get_or text at 0) 0x80 l, lt-ltb (get_or text at 0) 0xc2 u)

    pub next_past : 0xf5 ≤ get_or text at 0 → Error (at + 1) ≡ next_at text at
    unfolding next_from leading found
    next_past l = rw (here text at h, le-ltb (get_or text at 0) 0x80 (omega arith), le-ltb (get_or text at 0) 0xc2 (omega arith), le-ltb (get_or text at 0) 0xe0 (omega arith), le-ltb (get_or text at 0) 0xf0 (omega arith), le-ltb (get_or text at 0) 0xf5 l)

    module _ (w : ℕ) (e : w ≡ get_or text at 0) (r : Char) where
      pub next-two : 0xc2 ≤ get_or text at 0 → get_or text at 0 < 0xe0 → r ≡ next_from (state (w % 32) 0 1 0x80 0xbf) (at + 1) (drop (at + 1) text) → r ≡ next_at text at
      unfolding next_from leading found
      next-two l u q = q ∙ rw (here text at h, le-ltb (get_or text at 0) 0x80 (omega arith), le-ltb (get_or text at 0) 0xc2 l, lt-ltb (get_or text at 0) 0xe0 u, e)

      module _ (lower upper : ℕ) (el : lower ≡ lower_of (get_or text at 0)) (eu : upper ≡ upper_of (get_or text at 0)) where
        pub next-three : 0xe0 ≤ get_or text at 0 → get_or text at 0 < 0xf0 → r ≡ next_from (state (w % 16) 0 2 lower upper) (at + 1) (drop (at + 1) text) → r ≡ next_at text at
        unfolding next_from leading found
        next-three l u q =
            q ∙ rw (here text at h, le-ltb (get_or text at 0) 0x80 (omega arith), le-ltb (get_or text at 0) 0xc2 (omega arith), le-ltb (get_or text at 0) 0xe0 l, lt-ltb (get_or text at 0) 0xf0 u, e, el, eu)

        pub next-four : 0xf0 ≤ get_or text at 0 → get_or text at 0 < 0xf5 → r ≡ next_from (state (w % 8) 0 3 lower upper) (at + 1) (drop (at + 1) text) → r ≡ next_at text at
        unfolding next_from leading found
        next-four l u q =
            q ∙ rw (here text at h, le-ltb (get_or text at 0) 0x80 (omega arith), le-ltb (get_or text at 0) 0xc2 (omega arith), le-ltb (get_or text at 0) 0xe0 (omega arith), le-ltb (get_or text at 0) 0xf0 l, lt-ltb (get_or text at 0) 0xf5 u, e, el, eu)
