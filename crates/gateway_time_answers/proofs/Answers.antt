-- What each answer of the two calls gives: one law for each variant. Assumes nothing.
use Rattle.std.specs.Prelude.{Option, Some, None}
use mathlib.Core.Path.{◌≡◌, refl}
use mathlib.Core.List.{List, [], ◌∷◌}
use Prim.Native.Nat.{ℕ, ◌≤◌}
use lib.ListN.{length, get_or, get_or-eq_default}
use Rattle.time_parts.specs.declared.Parts.{Parts}
use Rattle.time_parts.specs.Parts.{parts_numbers, count_numbers}
use Rattle.gateway_lent_values.specs.Values.{Gives}
use Rattle.gateway_lent_values.proofs.Lays.{none}
use Rattle.gateway_time_answers.specs.Lent.{lent_parts}

pub number_past : (ns : List ℕ) (i : ℕ) → length ns ≤ i → 0 ≡ get_or ns i 0
number_past ns i h = rw (get_or-eq_default ns 0 h)

pub lent_is : (ns : List ℕ) (a b c d e f g : ℕ) → a ≡ get_or ns 0 0 → b ≡ get_or ns 1 0 → c ≡ get_or ns 2 0 → d ≡ get_or ns 3 0 → e ≡ get_or ns 4 0 → f ≡ get_or ns 5 0 → g ≡ get_or ns 6 0
    → ◌≡◌ {A = Parts} (record { year = a; month = b; day = c; hour = d; minute = e; second = f; nanosecond = g }) (lent_parts ns)
unfolding lent_parts
lent_is ns a b c d e f g pa pb pc pd pe pf pg = rw (pa, pb, pc, pd, pe, pf, pg)

module _ {before after : List ℕ} {r : ℕ} where
  pub parts-told : (x : Option Parts) (p : Parts) → x ≡ Some p
      → Gives (0 ∷ p.year ∷ p.month ∷ p.day ∷ p.hour ∷ p.minute ∷ p.second ∷ p.nanosecond ∷ []) before r after → Gives (parts_numbers x) before r after
  unfolding parts_numbers
  parts-told x p e g = rw e g

  pub count-told : (x : Option ℕ) (n : ℕ) → x ≡ Some n → Gives (0 ∷ n ∷ []) before r after → Gives (count_numbers x) before r after
  unfolding count_numbers
  count-told x n e g = rw e g

pub parts-refused : (x : Option Parts) (before : List ℕ) → x ≡ None → Gives (parts_numbers x) before 24 before
unfolding parts_numbers
parts-refused x before e = rw e (none 24 before)

pub count-refused : (x : Option ℕ) (before : List ℕ) → x ≡ None → Gives (count_numbers x) before 24 before
unfolding count_numbers
count-refused x before e = rw e (none 24 before)
