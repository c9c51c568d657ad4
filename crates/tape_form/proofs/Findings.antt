-- What the check keeps of the text buffer, and what each test of a text answers by it, exit by exit. Assumes nothing.
use mathlib.Core.Path.{◌≡◌, refl, sym, ap, ◌∙◌}
use mathlib.Core.Bool.{Bool, true, false}
use mathlib.Core.List.{List, [], ◌∷◌}
use Prim.Native.Nat.{ℕ, ◌+◌, ◌-◌, ◌≤◌, ◌<◌}
use native.Mathlib.Omega.{arith}
use lib.ListN.{length, get_or, take, drop, set, length-set}
use lib.Seq.{get_or-set_same, get_or-set_other, length-take-le}
use Rattle.enc_utf_8.specs.Utf8.{well_formed, ValidTo, Stretch}
use Rattle.enc_utf_8.proofs.Cuts.{valid-none, stretch_none, valid-more, part_of_stretch, part_of_first}
use Rattle.tape_form.specs.Known.{KnownTexts}
use Rattle.tape_form.specs.Ranges.{text_in}
use Rattle.tape_form.proofs.Tests.{text-inside}

-- at first nothing is known
pub known-none : (text : List ℕ) → KnownTexts text (0 ∷ 0 ∷ 0 ∷ [])
known-none text = record { numbers = refl; first = valid-none text; later = stretch_none text }

module _ (text known : List ℕ) (h : KnownTexts text known) where
  pub first_count : get_or known 0 0 ≡ length (take (get_or known 0 0) text)
  first_count = sym (length-take-le (get_or known 0 0) text h.first.within)

  pub first-length : (e : ℕ) → e ≤ get_or known 0 0 → e ≤ length (take (get_or known 0 0) text)
  first-length e l = omega (arith, length-take-le (get_or known 0 0) text h.first.within)

  pub grown : (e to r : ℕ) → get_or known 0 0 < e → e ≤ to → to ≤ length text → ValidTo (take (to - get_or known 0 0) (drop (get_or known 0 0) text)) r
      → KnownTexts text (set known 0 (get_or known 0 0 + r))
  grown e to r l n m v = record {
    numbers = length-set known 0 (get_or known 0 0 + r) ∙ h.numbers;
    first = rw (get_or-set_same known 0 (get_or known 0 0 + r) 0 (omega (arith, h.numbers))) (valid-more text (get_or known 0 0) to r h.first (omega arith) m v);
    later = rw (get_or-set_other known 0 1 (get_or known 0 0 + r) 0 (λ z. omega arith), get_or-set_other known 0 2 (get_or known 0 0 + r) 0 (λ z. omega arith)) h.later;
  }

  pub kept : (a e : ℕ) → Stretch text a e → KnownTexts text (set (set known 1 a) 2 e)
  kept a e s = record {
    numbers = length-set (set known 1 a) 2 e ∙ length-set known 1 a ∙ h.numbers;
    first = rw (get_or-set_other (set known 1 a) 2 0 e 0 (λ z. omega arith), get_or-set_other known 1 0 a 0 (λ z. omega arith)) h.first;
    later = rw (get_or-set_other (set known 1 a) 2 1 e 0 (λ z. omega arith), get_or-set_same known 1 a 0 (omega (arith, h.numbers)), get_or-set_same (set known 1 a) 2 e 0 (omega (arith, length-set known 1 a, h.numbers))) s;
  }

-- ---- is_later

module _ (text : List ℕ) (a e : ℕ) (t : Bool) where
  pub later-part : (lo hi : ℕ) → lo ≤ a → a ≤ e → e ≤ hi → t ≡ well_formed (take (e - lo - (a - lo)) (drop (a - lo) (take (hi - lo) (drop lo text))))
      → t ≡ well_formed (take (e - a) (drop a text))
  later-part lo hi l m n q = q ∙ ap well_formed (part_of_stretch text lo hi a e l m n)

  module _ (q : t ≡ well_formed (take (e - a) (drop a text))) where
    pub later-found : a ≤ e → e ≤ length text → t ≡ true → Stretch text a e
    later-found l m u = record { order = l; within = m; formed = sym q ∙ u }

    pub later-fine : t ≡ true → true ≡ well_formed (take (e - a) (drop a text))
    later-fine u = sym u ∙ q

    pub later_broken : t ≡ false → false ≡ well_formed (take (e - a) (drop a text))
    later_broken u = sym u ∙ q

-- ---- is_text

pub text-first : (text : List ℕ) (from len v : ℕ) (t : Bool) → from ≤ length text → len ≤ length text - from → from + len ≤ v → t ≡ well_formed (take (from + len - from) (drop from (take v text)))
    → t ≡ text_in text from len
text-first text from len v t l m n q = text-inside text from len l m t (q ∙ ap well_formed (part_of_first text v from (from + len) n))
