-- Numbers laid over the lent array. Assumes nothing.
use mathlib.Core.Path.{◌≡◌, refl, ap}
use mathlib.Core.List.{List, [], ◌∷◌}
use Prim.Native.Nat.{ℕ, zero, suc, ◌+◌, ◌≤◌, ◌<◌}
use native.Mathlib.Omega.{arith}
use native.Mathlib.Numerals.{add-one}
use lib.ListN.{length, get_or, take, set}
use lib.Seq.{take_all}
use Rattle.gateway_lent_values.specs.Values.{laid, Gives}

next : (new v : List ℕ) (i : ℕ) → i < length new → i < length v → set (laid (take i new) v) i (get_or new i 0) ≡ laid (take (suc i) new) v
unfolding laid
next [] v i h k = absurd (omega arith)
next (x ∷ new) [] i h k = absurd (omega arith)
next (x ∷ new) (y ∷ v) zero h k = refl
next (x ∷ new) (y ∷ v) (suc i) h k = ap {B = List ℕ} (λ w. x ∷ w) (next new v i (omega arith) (omega arith))

past : (new v : List ℕ) (i : ℕ) → length v ≤ i → laid (take i new) v ≡ laid (take (suc i) new) v
unfolding laid
past [] v zero h = refl
past [] v (suc i) h = refl
past (x ∷ new) [] zero h = refl
past (x ∷ new) [] (suc i) h = refl
past (x ∷ new) (y ∷ v) zero h = absurd (omega arith)
past (x ∷ new) (y ∷ v) (suc i) h = ap {B = List ℕ} (λ w. x ∷ w) (past new v i (omega arith))

-- ---- the loop of `lay`: the first i numbers are laid

module _ (new v : List ℕ) where
  pub laid_none : v ≡ laid (take 0 new) v
  unfolding laid
  laid_none = refl

  module _ (i : ℕ) (now : List ℕ) (inv : now ≡ laid (take i new) v) where
    pub laid-next : length now ≡ length v → i < length new → i < length now → set now i (get_or new i 0) ≡ laid (take (i + 1) new) v
    laid-next e h k = let g : i < length v = omega arith in rw (inv, add-one) (next new v i h g)

    pub laid-past : length now ≡ length v → length now ≤ i → now ≡ laid (take (i + 1) new) v
    laid-past e h = let g : length v ≤ i = omega arith in rw (inv, add-one) (past new v i g)

    pub laid_all : length new ≤ i → now ≡ laid new v
    laid_all h = rw (inv, take_all i new h)

-- a refusal without a value
pub none : (n : ℕ) (before : List ℕ) → Gives (n ∷ []) before n before
unfolding laid
none n before = record { is = refl; values = refl }
