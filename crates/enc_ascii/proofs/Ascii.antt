-- Laws of `is_ascii`: the only place that opens it; and the ends of blocks. Assumes nothing.
use mathlib.Core.Path.{◌≡◌, refl, sym, ◌∙◌}
use mathlib.Core.Bool.{Bool, true, false, cond}
use mathlib.Core.List.{List, [], ◌∷◌, ◌++◌}
use Prim.Native.Nat.{ℕ, zero, suc, ◌+◌, ◌-◌, ◌≤◌, ◌<◌, min}
use native.Mathlib.Omega.{arith}
use native.Mathlib.Numerals.{add-one}
use lib.ListN.{length, get_or, drop, drop_of_length-le}
use lib.Seq.{drop-cons}
use lib.Dec.{ltb}
use borrow.Author.Tests.{ltb-true, ltb-false}
use Rattle.enc_ascii.specs.Ascii.{is_ascii, block_end}

-- ---- its bytes

-- what a list that is ASCII begins with
pub record First (b : ℕ) (bs : List ℕ) : Type 0 where
  pub low : b < 0x80
  pub rest : is_ascii bs ≡ true

pub ascii-first : (b : ℕ) (bs : List ℕ) → is_ascii (b ∷ bs) ≡ true → First b bs
unfolding is_ascii
ascii-first b bs h = by (ltb b 0x80) refl h
  where
    by : (t : Bool) → ltb b 0x80 ≡ t → cond t (is_ascii bs) false ≡ true → First b bs
    by true q h = record { low = ltb-true b 0x80 q; rest = h }
    by false q h = absurd (let z : ◌≡◌ {A = ℕ} 0 1 = cc in omega arith)

pub ascii-each : (bs : List ℕ) → is_ascii bs ≡ true → (i : ℕ) → get_or bs i 0 < 0x80
ascii-each [] h i = omega arith
ascii-each (b ∷ bs) h zero = (ascii-first b bs h).low
ascii-each (b ∷ bs) h (suc i) = ascii-each bs (ascii-first b bs h).rest i

pub ascii-none : is_ascii [] ≡ true
unfolding is_ascii
ascii-none = refl

pub ascii_append : (xs ys : List ℕ) → is_ascii xs ≡ true → is_ascii ys ≡ true → is_ascii (xs ++ ys) ≡ true
unfolding is_ascii
ascii_append [] ys h k = k
ascii_append (x ∷ xs) ys h k = by (ltb x 0x80) h (λ q. ascii_append xs ys q k)
  where
    by : (t : Bool) → cond t (is_ascii xs) false ≡ true → (is_ascii xs ≡ true → is_ascii (xs ++ ys) ≡ true) → cond t (is_ascii (xs ++ ys)) false ≡ true
    by true h rest = rest h
    by false h rest = h

-- ---- the end of a block

pub end-min : (at len n : ℕ) → at < len → n ≡ min (len - at) 64 → at + n ≡ block_end at len
end-min at len n h e = by (ltb (len - at) 64) refl
  where
    by : (t : Bool) → ltb (len - at) 64 ≡ t → at + n ≡ cond t len (at + 64)
    by true q = omega (arith, ltb-true (len - at) 64 q)
    by false q = omega (arith, ltb-false (len - at) 64 q)

-- ---- the loop of `is_ascii`: all is ASCII where the highest byte so far and what is left are

module _ (bytes : List ℕ) (i highest : ℕ) (inv : is_ascii bytes ≡ cond (ltb highest 0x80) (is_ascii (drop i bytes)) false) where
  turn : i < length bytes → is_ascii bytes ≡ cond (ltb highest 0x80) (cond (ltb (get_or bytes i 0) 0x80) (is_ascii (drop (i + 1) bytes)) false) false
  unfolding is_ascii
  turn h = inv ∙ rw (add-one, drop-cons bytes i 0 h)

  pub highest-again : (n : ℕ) → i < length bytes → n ≡ cond (ltb highest (get_or bytes i 0)) (get_or bytes i 0) highest → is_ascii bytes ≡ cond (ltb n 0x80) (is_ascii (drop (i + 1) bytes)) false
  highest-again n h e = turn h ∙ by (ltb highest (get_or bytes i 0)) (ltb highest 0x80) (ltb (get_or bytes i 0) 0x80) refl refl refl e
    where
      by : (o s t : Bool) → ltb highest (get_or bytes i 0) ≡ o → ltb highest 0x80 ≡ s → ltb (get_or bytes i 0) 0x80 ≡ t → n ≡ cond o (get_or bytes i 0) highest
          → cond s (cond t (is_ascii (drop (i + 1) bytes)) false) false ≡ cond (ltb n 0x80) (is_ascii (drop (i + 1) bytes)) false
      by true true t o p q e = rw (e, q)
      by true false true o p q e = absurd (omega (arith, ltb-true highest (get_or bytes i 0) o, ltb-false highest 0x80 p, ltb-true (get_or bytes i 0) 0x80 q))
      by true false false o p q e = rw (e, q)
      by false true true o p q e = rw (e, p)
      by false true false o p q e = absurd (omega (arith, ltb-false highest (get_or bytes i 0) o, ltb-true highest 0x80 p, ltb-false (get_or bytes i 0) 0x80 q))
      by false false t o p q e = rw (e, p)

  pub highest-end : length bytes ≤ i → ltb highest 0x80 ≡ is_ascii bytes
  unfolding is_ascii
  highest-end h = sym (inv ∙ rw (drop_of_length-le bytes h) (by (ltb highest 0x80)))
    where
      by : (t : Bool) → cond t true false ≡ t
      by true = refl
      by false = refl
