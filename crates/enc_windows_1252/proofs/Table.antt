-- A table of a rule has the rule's value at each place. Assumes nothing.
use mathlib.Core.Path.{◌≡◌, sym, ap, ◌∙◌}
use mathlib.Core.List.{List}
use Prim.Native.Nat.{ℕ, zero, suc, ◌+◌, ◌<◌}
use native.Mathlib.Nat.{add-zero, zero-add, add-suc, suc-add, le_of_suc-le-suc, not-suc-le-zero}
use lib.ListN.{get_or}
use Rattle.enc_windows_1252.specs.Index.{table}

module _ {A : Type 0} where
  from : (f : ℕ → A) (i n k : ℕ) (d : A) → k < n → get_or (table f i n) k d ≡ f (i + k)
  from f i zero k d h = absurd (not-suc-le-zero h)
  from f i (suc n) zero d h = sym (ap f (add-zero i))
  from f i (suc n) (suc k) d h = from f (suc i) n k d (le_of_suc-le-suc h) ∙ ap f (suc-add i k ∙ sym (add-suc i k))

  pub at : (f : ℕ → A) (n k : ℕ) (d : A) → k < n → get_or (table f 0 n) k d ≡ f k
  at f n k d h = from f 0 n k d h ∙ ap f (zero-add k)

  -- two rules that have the same table agree at each place
  pub same : (f g : ℕ → A) (n k : ℕ) (d : A) → table f 0 n ≡ table g 0 n → k < n → f k ≡ g k
  same f g n k d e h = sym (at f n k d h) ∙ ap (λ (l : List A). get_or l k d) e ∙ at g n k d h
