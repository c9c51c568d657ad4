-- An index into which every type of a book went leads to every type of it. Assumes nothing.
use mathlib.Core.Path.{◌≡◌, refl, sym, ap, ◌∙◌}
use mathlib.Core.Bool.{Bool, true, false, cond, not, ◌||◌}
use mathlib.Core.List.{List}
use mathlib.Core.Logic.{⊎_elim}
use Prim.Native.Nat.{ℕ, zero, suc, ◌+◌, ◌≤◌, ◌<◌}
use native.Mathlib.Omega.{arith}
use native.Mathlib.Nat.{eq-or-lt_of_le}
use lib.ListN.{length, get_or, set, replicate, length-set}
use lib.Dec.{ltb}
use borrow.Author.Tests.{ltb-true}
use Rattle.type_book.specs.Book.{is_type, name_of}
use Rattle.type_provider.specs.Find.{searched, NamedBlock, is_found}
use Rattle.type_provider.proofs.Finds.{named-own}
use Rattle.type_block_form.proofs.Bytes.{and_left, and_right}
use Rattle.type_index.specs.declared.Trust.{Trust}
use Rattle.type_index.specs.declared.Trust.TheVariants as trust
use Rattle.type_index.specs.Index.{probe_of, free_of, entered, entered_from, names_index}
use Rattle.type_index.specs.Trust.{leads, leads_from, holds_all, Trusted}
use Rattle.type_index_grow.proofs.Kept.{free-empty, led-found, probe_kept, probe_new}
use Rattle.type_index_held.specs.Held.{finds_slot, fit_from, all_fit, FilledIs}

module _ (book : List ℕ) where
  -- the index leads to each type among the first i blocks
  record Led (index : List ℕ) (i : ℕ) : Type 0 where
    led : (m : ℕ) → m < i → is_type book m ≡ true → is_found (probe_of book index (name_of book m)) ≡ true

  -- ---- a type that finds a slot
  module _ (index : List ℕ) (n : ℕ) (l : n < searched book) (t : is_type book n ≡ true) (g : free_of book index (name_of book n) < length index) where
    abbrev place : ℕ
    place = free_of book index (name_of book n)

    abbrev more : List ℕ
    more = set index place (n + 1)

    free : get_or index place 0 ≡ 0
    unfolding free_of
    free = free-empty index _ 64 _ g

    long : length more ≡ length index
    long = length-set index place (n + 1)

    old-led : (name : List ℕ) → is_found (probe_of book index name) ≡ true → is_found (probe_of book more name) ≡ true
    unfolding probe_of
    old-led name q = rw long (probe_kept book book name (λ m b. b) index place free (n + 1) _ 64 _ q)

    new-led : is_found (probe_of book more (name_of book n)) ≡ true
    unfolding probe_of free_of
    new-led =
        let b : NamedBlock book (name_of book n) n = record { below = l; named = named-own book n t } in
        rw long (probe_new book (name_of book n) index place (n + 1) (λ z. omega arith) (led-found book _ n b) g free _ 64 _ refl)

    more-led : Led index n → Led more (n + 1)
    more-led h =
        record {
          led = λ m k y.
              ⊎_elim
              (λ q. rw q new-led)
              (λ q. old-led (name_of book m) (h.led m (omega arith) y))
              (eq-or-lt_of_le (let z : m ≤ n = omega arith in z));
        }

  -- ---- any block
  next-led : (index : List ℕ) (n : ℕ) → n < searched book → finds_slot book index n ≡ true → Led index n → Led (entered book index n) (n + 1)
  unfolding finds_slot entered
  next-led index n l f h = by (is_type book n) refl f
    where
      by : (t : Bool) → is_type book n ≡ t → not t || ltb (free_of book index (name_of book n)) (length index) ≡ true
          → Led (cond t (set index (free_of book index (name_of book n)) (n + 1)) index) (n + 1)
      by true e q = more-led index n l e (ltb-true _ _ q) h
      by false e q =
          record {
            led = λ m k y.
                ⊎_elim
                (λ z. absurd (let w : ◌≡◌ {A = Bool} true false = sym y ∙ ap (is_type book) z ∙ e in let x : ◌≡◌ {A = ℕ} 0 1 = cc in omega arith))
                (λ z. h.led m (omega arith) y)
                (eq-or-lt_of_le (let z : m ≤ n = omega arith in z));
          }

  -- ---- all blocks
  all-led : (k i : ℕ) (index : List ℕ) → i + k ≤ searched book → fit_from book index i k ≡ true → Led index i → Led (entered_from book index i k) (i + k)
  unfolding fit_from entered_from
  all-led zero i index l f h = let q : i + 0 ≡ i = omega arith in rw q h
  all-led (suc k) i index l f h =
      let q : i + suc k ≡ i + 1 + k = omega arith in
      rw q (all-led k (i + 1) (entered book index i) (omega arith) (and_right (finds_slot book index i) _ f) (next-led index i (omega arith) (and_left (finds_slot book index i) _ f) h))

  leads-on : (index : List ℕ) (k i : ℕ) → Led index (i + k) → leads_from book index i k ≡ true
  unfolding leads_from leads
  leads-on index zero i h = refl
  leads-on index (suc k) i h =
      let q : i + suc k ≡ i + 1 + k = omega arith in
      rw (by (is_type book i) refl) (leads-on index k (i + 1) (rw q at h))
    where
      by : (t : Bool) → is_type book i ≡ t → not (is_type book i) || is_found (probe_of book index (name_of book i)) ≡ true
      by true e = rw e (h.led i (omega arith) e)
      by false e = rw e refl

  pub fit-holds : (len : ℕ) → all_fit book len ≡ true → holds_all book (names_index book len) ≡ true
  unfolding all_fit names_index holds_all
  fit-holds len f = leads-on _ (searched book) 0 (all-led (searched book) 0 (replicate len 0) (omega arith) f (record { led = λ m k y. absurd (omega arith) }))

  -- what `fill_held` tells is so
  pub filled-trusted : (len : ℕ) (r : Trust) (index : List ℕ) → FilledIs book len r index → Trusted book index r
  filled-trusted len r index o = record { held = λ e. rw o.numbers (fit-holds len (told (all_fit book len) (sym o.answer ∙ e))) }
    where
      told : (g : Bool) → cond g trust.Held trust.Foreign ≡ trust.Held → g ≡ true
      told true q = refl
      told false q = absurd (let z : ◌≡◌ {A = ℕ} 0 1 = cc in omega arith)
