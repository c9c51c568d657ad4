-- The end of a WSTRING, pair by pair. This module alone opens `end16_from`. Assumes nothing.
use mathlib.Core.Path.{◌≡◌, refl, sym, ap, ◌∙◌}
use mathlib.Core.Bool.{Bool, true, false, cond, ◌&&◌}
use mathlib.Core.List.{List, [], ◌∷◌}
use Prim.Native.Nat.{ℕ, zero, suc, ◌+◌, ◌*◌, ◌/◌, ◌-◌, ◌≤◌, ◌<◌}
use native.Mathlib.Omega.{arith}
use lib.ListN.{length, get_or, drop, length-drop}
use lib.Seq.{drop-cons}
use lib.Dec.{eqb}
use Rattle.std.specs.Prelude.{Option, Some, None}
use Rattle.std.specs.Cmp.Lexicographic.{pointwise}
use Rattle.std.specs.List.{position, position_from}
use Rattle.std.specs.Simd.{first_chunks}
use Rattle.std.proofs.lemmas.Iterator.Adapters.{position_from-zero}
use Rattle.enc_utf_8.specs.declared.TextEnd.{TextEnd}
use Rattle.enc_utf_8.specs.declared.TextEnd.TheVariants.{Terminated, Unterminated}
use Rattle.enc_utf_16.specs.WString.{end16_from, wstring_end}

pub drop-two : (bytes : List ℕ) (at : ℕ) → at + 2 ≤ length bytes → drop at bytes ≡ get_or bytes at 0 ∷ get_or bytes (at + 1) 0 ∷ drop (at + 2) bytes
drop-two bytes at h =
    let a : at < length bytes = omega arith in
    let b : suc at < length bytes = omega arith in
    let e : at + 1 ≡ suc at = omega arith in
    let k : at + 2 ≡ suc (suc at) = omega arith in
    rw (e, k, drop-cons bytes at 0 a, drop-cons bytes (suc at) 0 b)

-- ---- the pairs of `wstring_end`

-- both bytes of a pair are zero
abbrev pub is_zero_pair : List ℕ → Bool
is_zero_pair unit = pointwise eqb unit (0 ∷ 0 ∷ [])

-- the end of `size` bytes, by the place of the first zero pair
abbrev ended : ℕ → Option ℕ → TextEnd
ended size None = Unterminated size
ended size (Some n) = Terminated (2 * n)

pairs : (k i : ℕ) (xs : List ℕ) → length xs / 2 ≡ k → end16_from (2 * i) xs ≡ ended (2 * i + length xs) (position_from is_zero_pair i (first_chunks 2 k xs))
unfolding end16_from
pairs k i [] h = let e : k ≡ 0 = omega arith in rw e (ap Unterminated (omega arith))
pairs k i (x ∷ []) h = let e : k ≡ 0 = omega arith in rw e (ap Unterminated (omega arith))
pairs zero i (x ∷ y ∷ xs) h = absurd (omega arith)
pairs (suc k) i (x ∷ y ∷ xs) h =
    let e : 2 * i + 2 ≡ 2 * (i + 1) = omega arith in
    let f : 2 * i + suc (suc (length xs)) ≡ 2 * (i + 1) + length xs = omega arith in
    by (eqb x 0) (eqb y 0) (rw (e, f) (pairs k (i + 1) xs (omega arith)))
  where
    by : (s t : Bool) → end16_from (2 * i + 2) xs ≡ ended (2 * i + suc (suc (length xs))) (position_from is_zero_pair (i + 1) (first_chunks 2 k xs))
        → cond (s && t) (Terminated (2 * i)) (end16_from (2 * i + 2) xs)
        ≡ ended (2 * i + suc (suc (length xs))) (cond (s && (t && true)) (Some i) (position_from is_zero_pair (i + 1) (first_chunks 2 k xs)))
    by true true later = refl
    by true false later = later
    by false t later = later

module _ (bytes : List ℕ) (units : List (List ℕ)) (r : Option ℕ) (u : units ≡ first_chunks 2 (length bytes / 2) bytes) (e : r ≡ position is_zero_pair units) where
  by-pairs : wstring_end bytes ≡ ended (length bytes) r
  by-pairs =
      let z : 2 * 0 + length bytes ≡ length bytes = omega arith in
      rw z at (pairs (length bytes / 2) 0 bytes refl) ∙ ap (ended (length bytes)) (sym (position_from-zero is_zero_pair (first_chunks 2 (length bytes / 2) bytes)) ∙ ap (position is_zero_pair) (sym u) ∙ sym e)

  pub pair-here : (n : ℕ) → r ≡ Some n → Terminated (2 * n) ≡ wstring_end bytes
  pair-here n q = sym (by-pairs ∙ ap (ended (length bytes)) q)

  pub no-pair : r ≡ None → Unterminated (length bytes) ≡ wstring_end bytes
  no-pair q = sym (by-pairs ∙ ap (ended (length bytes)) q)

-- ---- the end from a place on, pair by pair

module _ (bytes : List ℕ) (at : ℕ) (inv : wstring_end bytes ≡ end16_from at (drop at bytes)) where
  module _ (left : 2 ≤ length bytes - at) (t : Bool) (e : t ≡ (eqb (get_or bytes at 0) 0 && eqb (get_or bytes (at + 1) 0) 0)) where
    turn : wstring_end bytes ≡ cond t (Terminated at) (end16_from (at + 2) (drop (at + 2) bytes))
    unfolding end16_from
    turn = inv ∙ rw (drop-two bytes at (omega arith), ← e)

    pub end-here : t ≡ true → Terminated at ≡ wstring_end bytes
    end-here q = sym (turn ∙ rw q)

    pub end-again : t ≡ false → wstring_end bytes ≡ end16_from (at + 2) (drop (at + 2) bytes)
    end-again q = turn ∙ rw q

  pub end_none : at ≤ length bytes → length bytes - at < 2 → Unterminated (length bytes) ≡ wstring_end bytes
  unfolding end16_from
  end_none a h = sym (inv ∙ by (drop at bytes) refl)
    where
      by : (xs : List ℕ) → drop at bytes ≡ xs → end16_from at xs ≡ Unterminated (length bytes)
      by [] d = ap Unterminated (omega (arith, simp length-drop at (ap length d)))
      by (x ∷ []) d = ap Unterminated (omega (arith, simp length-drop at (ap length d)))
      by (x ∷ y ∷ xs) d = absurd (omega (arith, simp length-drop at (ap length d)))

-- ---- where the end lies

inside-by : (k n size : ℕ) (rest : TextEnd) (b : Bool) → (rest ≡ Terminated n → n + 2 ≤ k + 2 + size) → cond b (Terminated k) rest ≡ Terminated n → n + 2 ≤ k + suc (suc size)
inside-by k n size rest true ih e = let q : k ≡ n = cc in omega arith
inside-by k n size rest false ih e = omega (arith, ih e)

inside : (k n : ℕ) (xs : List ℕ) → end16_from k xs ≡ Terminated n → n + 2 ≤ k + length xs
unfolding end16_from
inside k n [] e = absurd (let z : ◌≡◌ {A = ℕ} 0 1 = cc in omega arith)
inside k n (x ∷ []) e = absurd (let z : ◌≡◌ {A = ℕ} 0 1 = cc in omega arith)
inside k n (x ∷ y ∷ xs) e = inside-by k n (length xs) (end16_from (k + 2) xs) (eqb x 0 && eqb y 0) (inside (k + 2) n xs) e

-- the zero pair lies within the bytes
pub end-inside : (bytes : List ℕ) (n : ℕ) (r : TextEnd) → r ≡ wstring_end bytes → r ≡ Terminated n → n + 2 ≤ length bytes
end-inside bytes n r e q = omega (arith, inside 0 n bytes (sym e ∙ q))

whole_by : (k n size : ℕ) (rest : TextEnd) (b : Bool) → (rest ≡ Unterminated n → n ≡ k + 2 + size) → cond b (Terminated k) rest ≡ Unterminated n → n ≡ k + suc (suc size)
whole_by k n size rest true ih e = absurd (let z : ◌≡◌ {A = ℕ} 0 1 = cc in omega arith)
whole_by k n size rest false ih e = omega (arith, ih e)

whole : (k n : ℕ) (xs : List ℕ) → end16_from k xs ≡ Unterminated n → n ≡ k + length xs
unfolding end16_from
whole k n [] e = let q : k ≡ n = cc in omega arith
whole k n (x ∷ []) e = let q : k + 1 ≡ n = cc in omega arith
whole k n (x ∷ y ∷ xs) e = whole_by k n (length xs) (end16_from (k + 2) xs) (eqb x 0 && eqb y 0) (whole (k + 2) n xs) e

-- with no zero pair the text is all the bytes
pub end_whole : (bytes : List ℕ) (n : ℕ) (r : TextEnd) → r ≡ wstring_end bytes → r ≡ Unterminated n → n ≡ length bytes
end_whole bytes n r e q = omega (arith, whole 0 n bytes (sym e ∙ q))
