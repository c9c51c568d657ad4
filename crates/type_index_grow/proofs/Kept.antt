-- A number put into an empty slot: what the index led to it leads to still, and it leads to what the number stands for. Assumes nothing.
use Rattle.std.specs.Prelude.{Option, Some, None}
use mathlib.Core.Path.{◌≡◌, refl, sym, ap, ◌∙◌}
use mathlib.Core.Bool.{Bool, true, false, cond, ◌&&◌}
use mathlib.Core.List.{List}
use Prim.Native.Nat.{ℕ, zero, suc, ◌+◌, ◌≤◌, ◌<◌}
use native.Mathlib.Omega.{arith}
use lib.ListN.{length, get_or, set}
use lib.Seq.{get_or-set_same, get_or-set_other}
use lib.Dec.{eqb, ltb}
use borrow.Author.Tests.{eq-eqb, ne_eqb, eqb-true, eqb-false, ltb-true, lt-ltb}
use Rattle.type_provider.specs.Find.{searched, NamedBlock, is_found}
use Rattle.type_book.specs.Book.{is_named}
use Rattle.type_block_form.proofs.Bytes.{and_left, and_right}
use Rattle.type_index.specs.Index.{next_of, led_to, first_found, probe_from, free_from}

-- the slot that is given out is empty
pub free-empty : (index : List ℕ) (n k at : ℕ) → free_from index n at k < length index → get_or index (free_from index n at k) 0 ≡ 0
unfolding free_from
free-empty index n zero at l = absurd (omega arith)
free-empty index n (suc k) at l = by (eqb (get_or index at 0) 0) refl (free-empty index n k (next_of n at)) l
  where
    by : (g : Bool) → eqb (get_or index at 0) 0 ≡ g
        → (free_from index n (next_of n at) k < length index → get_or index (free_from index n (next_of n at) k) 0 ≡ 0)
        → cond g at (free_from index n (next_of n at) k) < length index → get_or index (cond g at (free_from index n (next_of n at) k)) 0 ≡ 0
    by true e ih l = eqb-true _ _ e
    by false e ih l = ih l

-- a slot that is not empty is another one
module _ (index : List ℕ) (f : ℕ) (free : get_or index f 0 ≡ 0) (x : ℕ) where
  pub slot_kept : (at : ℕ) → (get_or index at 0 ≡ 0 → ⊥) → get_or (set index f x) at 0 ≡ get_or index at 0
  slot_kept at ne = get_or-set_other index f at x 0 (λ e. ne (rw e free))

or_found : (a b : Option ℕ) → is_found b ≡ true → is_found (first_found a b) ≡ true
unfolding first_found
or_found (Some n) b h = refl
or_found None b h = h

or_here : (a b : Option ℕ) → is_found a ≡ true → is_found (first_found a b) ≡ true
unfolding first_found
or_here (Some m) b h = refl
or_here None b h = absurd (let z : ◌≡◌ {A = ℕ} 0 1 = cc in omega arith)

or_both : (a b : Option ℕ) → (is_found a ≡ true → is_found b ≡ true) → (p q : Option ℕ) → (is_found p ≡ true → is_found q ≡ true)
    → is_found (first_found a p) ≡ true → is_found (first_found b q) ≡ true
unfolding first_found
or_both (Some m) b i p q j h = or_here b q (i refl)
or_both None b i p q j h = or_found b q (j h)

-- a block that has the name is led to
pub led-found : (book name : List ℕ) (n : ℕ) → NamedBlock book name n → is_found (led_to book name (n + 1)) ≡ true
unfolding led_to
led-found book name n b =
    let q : n + 1 ≡ suc n = omega arith in
    let l : ltb n (searched book) ≡ true = lt-ltb n (searched book) b.below in
    ap {B = Bool} (λ (s : ℕ). is_found (led_to book name s)) q ∙ rw (l, b.named)

-- ---- a book that has become longer: blocks of the name are still there
module _ (old new name : List ℕ) (kept : (m : ℕ) → NamedBlock old name m → NamedBlock new name m) where
  led-kept : (slot : ℕ) → is_found (led_to old name slot) ≡ true → is_found (led_to new name slot) ≡ true
  unfolding led_to
  led-kept zero h = absurd (let z : ◌≡◌ {A = ℕ} 0 1 = cc in omega arith)
  led-kept (suc n) h = by (ltb n (searched old) && is_named old name n) refl h
    where
      by : (g : Bool) → ltb n (searched old) && is_named old name n ≡ g → is_found (cond g (Some n) None) ≡ true → is_found (led_to new name (suc n)) ≡ true
      by true e q =
          let b : NamedBlock new name n = kept n (record { below = ltb-true n (searched old) (and_left (ltb n (searched old)) (is_named old name n) e); named = and_right (ltb n (searched old)) (is_named old name n) e }) in
          let l : ltb n (searched new) ≡ true = lt-ltb n (searched new) b.below in
          rw (l, b.named)
      by false e q = absurd (let z : ◌≡◌ {A = ℕ} 0 1 = cc in omega arith)

  module _ (index : List ℕ) (f : ℕ) (free : get_or index f 0 ≡ 0) (x : ℕ) where
    abbrev index' : List ℕ
    index' = set index f x

    -- no empty slot came before what was found
    pub probe_kept : (n k at : ℕ) → is_found (probe_from old index name n at k) ≡ true → is_found (probe_from new index' name n at k) ≡ true
    unfolding probe_from
    probe_kept n zero at h = h
    probe_kept n (suc k) at h = by (eqb (get_or index at 0) 0) refl (probe_kept n k (next_of n at)) h
      where
        by : (g : Bool) → eqb (get_or index at 0) 0 ≡ g
            → (is_found (probe_from old index name n (next_of n at) k) ≡ true → is_found (probe_from new index' name n (next_of n at) k) ≡ true)
            → is_found (cond g None (first_found (led_to old name (get_or index at 0)) (probe_from old index name n (next_of n at) k))) ≡ true
            → is_found (cond (eqb (get_or index' at 0) 0) None (first_found (led_to new name (get_or index' at 0)) (probe_from new index' name n (next_of n at) k))) ≡ true
        by true e ih q = absurd (let z : ◌≡◌ {A = ℕ} 0 1 = cc in omega arith)
        by false e ih q =
            rw (slot_kept index f free x at (eqb-false _ _ e), e)
            (or_both _ _ (led-kept (get_or index at 0)) _ _ ih q)

-- ---- the new number
module _ (book name index : List ℕ) (f : ℕ) (x : ℕ) (some : x ≡ 0 → ⊥) (led : is_found (led_to book name x) ≡ true) (l : f < length index) (free : get_or index f 0 ≡ 0) where
  abbrev index'' : List ℕ
  index'' = set index f x

  pub probe_new : (n k at : ℕ) → free_from index n at k ≡ f → is_found (probe_from book index'' name n at k) ≡ true
  unfolding free_from probe_from
  probe_new n zero at e = absurd (omega arith)
  probe_new n (suc k) at e = by (eqb (get_or index at 0) 0) refl (probe_new n k (next_of n at)) e
    where
      by : (g : Bool) → eqb (get_or index at 0) 0 ≡ g
          → (free_from index n (next_of n at) k ≡ f → is_found (probe_from book index'' name n (next_of n at) k) ≡ true)
          → cond g at (free_from index n (next_of n at) k) ≡ f
          → is_found (cond (eqb (get_or index'' at 0) 0) None (first_found (led_to book name (get_or index'' at 0)) (probe_from book index'' name n (next_of n at) k))) ≡ true
      by true g ih q =
          let s : get_or index'' at 0 ≡ x = rw q (get_or-set_same index f x 0 l) in
          rw (s, ne_eqb x 0 some) (or_here (led_to book name x) _ led)
      by false g ih q =
          rw (slot_kept index f free x at (eqb-false _ _ g), g)
          (or_found (led_to book name (get_or index at 0)) _ (ih q))
