-- What a new index holds, as it is filled block by block. Assumes nothing.
use mathlib.Core.Path.{◌≡◌, sym, ap, ◌∙◌}
use mathlib.Core.Bool.{Bool, true, false, cond}
use mathlib.Core.List.{List}
use Prim.Native.Nat.{ℕ, suc, ◌+◌, ◌-◌, ◌≤◌, ◌<◌}
use native.Mathlib.Omega.{arith}
use lib.ListN.{length, get_or, set, replicate, length-replicate, get_or-eq_default}
use lib.Seq.{set_out}
use lib.Dec.{eqb}
use borrow.Author.Tests.{eq-eqb, ne_eqb}
use Rattle.type_book.specs.Book.{is_type, name_of, type_name_of}
use Rattle.type_provider.specs.Find.{searched}
use Rattle.type_index.specs.Index.{slots_of, slot_for, next_of, probe_of, free_from, free_of, entered, entered_from, names_index, hint_for, hints_from, hinted_index}
use Rattle.type_index.specs.Parts.{HintsAt, PlaceIs, NextIs}
use Rattle.type_index.proofs.Slots.{place_none}
use Rattle.type_index.proofs.Probes.{none}

-- ---- the first empty slot

module _ (book index name : List ℕ) where
  module _ (n : ℕ) (hints : HintsAt book (length index) n) where
    -- an index without slots has no numbers
    pub free-empty : n ≡ 0 → length index ≡ free_of book index name
    unfolding free_of free_from
    free-empty z =
        let l : length index ≡ 0 = none n (length index) hints.some z in
        let g : (i : ℕ) → get_or index i 0 ≡ 0 = λ i. get_or-eq_default index 0 (omega arith) in
        let s : slots_of book (length index) ≡ 0 = sym hints.is ∙ z in
        sym (rw (g (slot_for name (slots_of book (length index))), s, place_none name, l))

    pub free-start : (at : ℕ) → PlaceIs name n at → free_from index n at 64 ≡ free_of book index name
    unfolding free_of
    free-start at p = rw (p.is, hints.is)

  module _ (n at i : ℕ) (inv : free_from index n at (64 - i) ≡ free_of book index name) where
    pub free-end : 64 ≤ i → length index ≡ free_of book index name
    unfolding free_from
    free-end l = let z : 64 - i ≡ 0 = omega arith in ap (free_from index n at) (sym z) ∙ inv

    module _ (l : i < 64) where
      turn : free_of book index name ≡ cond (eqb (get_or index at 0) 0) at (free_from index n (next_of n at) (64 - (i + 1)))
      unfolding free_from
      turn = let z : 64 - i ≡ suc (64 - (i + 1)) = omega arith in sym inv ∙ ap (free_from index n at) z

      pub free-here : get_or index at 0 ≡ 0 → at ≡ free_of book index name
      free-here e = sym (turn ∙ rw (eq-eqb (get_or index at 0) 0 e))

      pub free-again : (get_or index at 0 ≡ 0 → ⊥) → (at' : ℕ) → NextIs at n at' → free_from index n at' (64 - (i + 1)) ≡ free_of book index name
      free-again ne at' p = sym (turn ∙ rw (ne_eqb (get_or index at 0) 0 ne, p.is))

-- ---- one block more

module _ (book index : List ℕ) (n : ℕ) (t : Bool) (et : t ≡ is_type book n) where
  pub entered-other : t ≡ false → index ≡ entered book index n
  unfolding entered
  entered-other h = rw (← et, h)

  module _ (h : t ≡ true) (name : List ℕ) (en : name ≡ name_of book n) (at : ℕ) (ea : at ≡ free_of book index name) where
    pub entered_at : set index at (n + 1) ≡ entered book index n
    unfolding entered
    entered_at = rw (← et, h, ← en, ← ea)

    pub entered-full : length index ≤ at → index ≡ entered book index n
    entered-full l = sym (set_out index at (n + 1) l) ∙ entered_at

-- ---- all blocks

module _ (book before start : List ℕ) (es : start ≡ replicate (length before) 0) (n : ℕ) where
  long : length start ≡ length before
  long = ap length es ∙ length-replicate (length before) 0

  pub names-start : n ≡ searched book → entered_from book start 0 (n - 0) ≡ names_index book (length start)
  unfolding names_index
  names-start en =
      let q : n - 0 ≡ searched book = omega arith in
      ap (λ (xs : List ℕ). entered_from book xs 0 (n - 0)) es ∙ rw (q, long)

  module _ (i : ℕ) (index : List ℕ) (inv : entered_from book index i (n - i) ≡ names_index book (length start)) where
    pub names-end : n ≤ i → index ≡ names_index book (length before)
    unfolding entered_from
    names-end l = let q : n - i ≡ 0 = omega arith in rw (← long) (ap (entered_from book index i) (sym q) ∙ inv)

module _ (book : List ℕ) (len n i : ℕ) (index : List ℕ) (inv : entered_from book index i (n - i) ≡ names_index book len) where
  pub names-again : i < n → (index' : List ℕ) → index' ≡ entered book index i → entered_from book index' (i + 1) (n - (i + 1)) ≡ names_index book len
  unfolding entered_from
  names-again l index' e = let q : n - i ≡ suc (n - (i + 1)) = omega arith in rw e (ap (entered_from book index i) (sym q) ∙ inv)

-- ---- hints

-- the hints go into the index of the names
pub hinted_names : (book before mid : List ℕ) → mid ≡ names_index book (length before) → (after : List ℕ) → after ≡ hinted_index book mid
    → after ≡ hinted_index book (names_index book (length before))
hinted_names book before mid e after h = h ∙ ap (hinted_index book) e

module _ (book index₀ : List ℕ) (first : ℕ) (hints : HintsAt book (length index₀) first) where
  pub hints_start : hints_from book index₀ (first - first) (length index₀ - first) ≡ hinted_index book index₀
  unfolding hinted_index
  hints_start = let z : first - first ≡ 0 = omega arith in rw (z, hints.is)

  module _ (i : ℕ) (index : List ℕ) (el : length index ≡ length index₀) (b : first ≤ i)
      (inv : hints_from book index (i - first) (length index₀ - i) ≡ hinted_index book index₀) where
    pub hints_again : i < length index₀ → (h : ℕ) → h ≡ hint_for (probe_of book index (type_name_of book (i - first)))
        → hints_from book (set index i h) (i + 1 - first) (length index₀ - (i + 1)) ≡ hinted_index book index₀
    unfolding hints_from
    hints_again l h eh =
        let q : length index₀ - i ≡ suc (length index₀ - (i + 1)) = omega arith in
        let p : i + 1 - first ≡ i - first + 1 = omega arith in
        let s : slots_of book (length index) + (i - first) ≡ i = rw (el, ← hints.is) (omega arith) in
        sym (ap (λ (x : ℕ). hints_from book (set index x (hint_for (probe_of book index (type_name_of book (i - first))))) (i - first + 1) (length index₀ - (i + 1))) s ∙ rw (eh, p))
        ∙ ap (hints_from book index (i - first)) (sym q) ∙ inv

    pub hints_end : length index₀ ≤ i → index ≡ hinted_index book index₀
    unfolding hints_from
    hints_end l = let q : length index₀ - i ≡ 0 = omega arith in ap (hints_from book index (i - first)) (sym q) ∙ inv
