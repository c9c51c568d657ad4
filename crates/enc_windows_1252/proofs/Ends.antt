-- Laws of the end of a text: the only place that opens `end_from`. Assumes nothing.
use mathlib.Core.Path.{◌≡◌, sym, ap, ◌∙◌}
use mathlib.Core.Bool.{Bool, true, false, cond}
use mathlib.Core.List.{List, [], ◌∷◌}
use Prim.Native.Nat.{ℕ, zero, suc, ◌+◌, ◌≤◌, ◌<◌}
use native.Mathlib.Omega.{arith}
use native.Mathlib.Numerals.{add-one}
use lib.ListN.{length, get_or, drop, drop_of_length-le}
use lib.Seq.{drop-cons}
use lib.Dec.{eqb}
use borrow.Author.Tests.{eq-eqb, ne_eqb}
use Rattle.enc_utf_8.specs.declared.TextEnd.{TextEnd}
use Rattle.enc_utf_8.specs.declared.TextEnd.TheVariants.{Terminated, Unterminated}
use Rattle.enc_windows_1252.specs.Text.{end_from, string_end}

-- ---- the end of a text: the place of its first zero

zero_from : (bytes : List ℕ) (n i : ℕ) → i < length bytes → get_or bytes i 0 ≡ 0 → ((k : ℕ) → k < i → get_or bytes k 0 ≡ 0 → ⊥) → end_from n bytes ≡ Terminated (n + i)
unfolding end_from
zero_from [] n i l z m = absurd (omega arith)
zero_from (b ∷ bs) n zero l z m = rw (eq-eqb b 0 z) (ap Terminated (omega arith))
zero_from (b ∷ bs) n (suc i) l z m =
    rw (ne_eqb b 0 (m 0 (omega arith)), zero_from bs (n + 1) i (omega arith) z (λ k h. m (suc k) (omega arith))) (ap Terminated (omega arith))

no_zero-from : (bytes : List ℕ) (n : ℕ) → ((k : ℕ) → k < length bytes → get_or bytes k 0 ≡ 0 → ⊥) → end_from n bytes ≡ Unterminated (n + length bytes)
unfolding end_from
no_zero-from [] n m = ap Unterminated (omega arith)
no_zero-from (b ∷ bs) n m =
    rw (ne_eqb b 0 (m 0 (omega arith)), no_zero-from bs (n + 1) (λ k h. m (suc k) (omega arith))) (ap Unterminated (omega arith))

pub first_zero : (bytes : List ℕ) (i : ℕ) → i < length bytes → get_or bytes i 0 ≡ 0 → ((k : ℕ) → k < i → get_or bytes k 0 ≡ 0 → ⊥) → Terminated i ≡ string_end bytes
first_zero bytes i l z m = sym (zero_from bytes 0 i l z m ∙ ap Terminated (omega arith))

pub no_zero : (bytes : List ℕ) → ((k : ℕ) → k < length bytes → get_or bytes k 0 ≡ 0 → ⊥) → Unterminated (length bytes) ≡ string_end bytes
no_zero bytes m = sym (no_zero-from bytes 0 m ∙ ap Unterminated (omega arith))

-- ---- the end of a text: what is left of the search gives the whole

module _ (bytes : List ℕ) (i : ℕ) (inv : string_end bytes ≡ end_from i (drop i bytes)) where
  turn : i < length bytes → string_end bytes ≡ cond (eqb (get_or bytes i 0) 0) (Terminated i) (end_from (i + 1) (drop (i + 1) bytes))
  unfolding end_from
  turn h = inv ∙ rw (drop-cons bytes i 0 h, add-one)

  pub end-here : i < length bytes → get_or bytes i 0 ≡ 0 → Terminated i ≡ string_end bytes
  end-here h e = sym (turn h ∙ rw (eq-eqb (get_or bytes i 0) 0 e))

  pub end-again : i < length bytes → (get_or bytes i 0 ≡ 0 → ⊥) → string_end bytes ≡ end_from (i + 1) (drop (i + 1) bytes)
  end-again h n = turn h ∙ rw (ne_eqb (get_or bytes i 0) 0 n)

  pub end_none : length bytes ≤ i → Unterminated i ≡ string_end bytes
  unfolding end_from
  end_none h = sym (inv ∙ rw (drop_of_length-le bytes h))

-- ---- where a text ends

-- a place at or after i, with the bytes before and after it
pub record Ended (i n len : ℕ) : Type 0 where
  pub from : i ≤ n
  pub within : n < i + len

ended-from : (bytes : List ℕ) (i n : ℕ) → end_from i bytes ≡ Terminated n → Ended i n (length bytes)
unfolding end_from
ended-from [] i n e = absurd (let z : ◌≡◌ {A = ℕ} 0 1 = cc in omega arith)
ended-from (b ∷ bs) i n e = by (eqb b 0) e (ended-from bs (i + 1) n)
  where
    by : (t : Bool) → cond t (Terminated i) (end_from (i + 1) bs) ≡ Terminated n → (end_from (i + 1) bs ≡ Terminated n → Ended (i + 1) n (length bs)) → Ended i n (suc (length bs))
    by true e rest = let z : i ≡ n = cc in record { from = omega arith; within = omega arith }
    by false e rest = let r = rest e in record { from = omega (arith, r.from); within = omega (arith, r.within) }

open_from : (bytes : List ℕ) (i n : ℕ) → end_from i bytes ≡ Unterminated n → n ≡ i + length bytes
unfolding end_from
open_from [] i n e = let z : i ≡ n = cc in omega arith
open_from (b ∷ bs) i n e = by (eqb b 0) e (open_from bs (i + 1) n)
  where
    by : (t : Bool) → cond t (Terminated i) (end_from (i + 1) bs) ≡ Unterminated n → (end_from (i + 1) bs ≡ Unterminated n → n ≡ i + 1 + length bs) → n ≡ i + suc (length bs)
    by true e rest = absurd (let z : ◌≡◌ {A = ℕ} 0 1 = cc in omega arith)
    by false e rest = omega (arith, rest e)

module _ (bytes : List ℕ) (r : TextEnd) (h : r ≡ string_end bytes) (n : ℕ) where
  pub terminated-within : r ≡ Terminated n → n < length bytes
  terminated-within q = omega (arith, (ended-from bytes 0 n (sym h ∙ q)).within)

  pub unterminated_all : r ≡ Unterminated n → n ≡ length bytes
  unterminated_all q = omega (arith, open_from bytes 0 n (sym h ∙ q))
