-- A test of every block, from the first on. Assumes nothing.
use mathlib.Core.Path.{◌≡◌, refl, sym, ◌∙◌}
use mathlib.Core.Bool.{Bool, true, false}
use Prim.Native.Nat.{ℕ, zero, suc, ◌+◌, ◌≤◌, ◌<◌}
use native.Mathlib.Omega.{arith}
use lib.Dec.{eqb}
use borrow.Author.Tests.{eqb-true, eqb-false}
use Rattle.type_block_form.proofs.Bytes.{and_left, and_right}
use lib.ListN.{length}
use Rattle.std.proofs.Common.{zero-add}
use Rattle.std.proofs.lemmas.List.FromFn.{length-range_with_len, get_or-range_with_len}
use Rattle.std.specs.Bool.{MatchBool}
use Rattle.std.specs.List.{range_with_len, AllWithin, HoldsAt}
use Rattle.type_doubles.specs.Doubles.{all_from}

-- what every block passes, and back
all-from : (p : ℕ → Bool) (i k : ℕ) → ((m : ℕ) → i ≤ m → m < i + k → p m ≡ true) → all_from p i k ≡ true
unfolding all_from
all-from p i zero h = refl
all-from p i (suc k) h = rw (h i (omega arith) (omega arith)) (all-from p (i + 1) k (λ m l g. h m (omega arith) (omega arith)))

pub all_of : (p : ℕ → Bool) (n : ℕ) → ((m : ℕ) → m < n → p m ≡ true) → all_from p 0 n ≡ true
all_of p n h = all-from p 0 n (λ m l g. h m (omega arith))

each_from : (p : ℕ → Bool) (i k : ℕ) → all_from p i k ≡ true → (m : ℕ) → i ≤ m → m < i + k → p m ≡ true
unfolding all_from
each_from p i zero h m l g = absurd (omega arith)
each_from p i (suc k) h m l g = by (eqb m i) refl (each_from p (i + 1) k (and_right (p i) _ h) m)
  where
    by : (t : Bool) → eqb m i ≡ t → (i + 1 ≤ m → m < i + 1 + k → p m ≡ true) → p m ≡ true
    by true e go = rw (eqb-true m i e) (and_left _ _ h)
    by false e go = let n : m ≡ i → ⊥ = eqb-false m i e in go (omega (arith, n)) (omega arith)

pub each_of : (p : ℕ → Bool) (n : ℕ) → all_from p 0 n ≡ true → (m : ℕ) → m < n → p m ≡ true
each_of p n h m l = each_from p 0 n h m (omega arith) (omega arith)

-- one block that fails
pub all-fails : (p : ℕ → Bool) (n i : ℕ) → i < n → p i ≡ false → false ≡ all_from p 0 n
all-fails p n i l f = by (all_from p 0 n) refl
  where
    by : (t : Bool) → all_from p 0 n ≡ t → false ≡ t
    by false e = refl
    by true e = sym f ∙ each_of p n e i l

-- what a chain over the numbers of the blocks says: each passes, or one does not
pub all-cases : (p : ℕ → Bool) (n : ℕ) (r : Bool)
    → MatchBool r (AllWithin (λ m. p m ≡ true) (range_with_len 0 n) 0 (length (range_with_len 0 n))) ((k : ℕ) × (k < length (range_with_len 0 n)) × HoldsAt (λ m. p m ≡ false) (range_with_len 0 n) k)
    → r ≡ all_from p 0 n
all-cases p n true h =
    sym (all_of p n (λ m l. rw (get_or-range_with_len 0 n m 0 l, zero-add m) at (h m 0 (omega arith) (omega (arith, length-range_with_len 0 n)))))
all-cases p n false h =
    all-fails p n h.0 (omega (arith, h.1, length-range_with_len 0 n)) (rw (get_or-range_with_len 0 n h.0 0 (omega (arith, h.1, length-range_with_len 0 n)), zero-add h.0) at (h.2 0))
