-- An index that leads to every type of a book, and takes the type that is appended, leads to every type of the longer book. Assumes nothing.
use Rattle.std.specs.Prelude.{None}
use mathlib.Core.Path.{◌≡◌, refl, sym, ap, ◌∙◌}
use mathlib.Core.Bool.{Bool, true, false, cond, not, ◌&&◌, ◌||◌}
use mathlib.Core.List.{List, ◌++◌}
use mathlib.Core.Logic.{⊎_elim}
use Prim.Native.Nat.{ℕ, zero, suc, ◌+◌, ◌/◌, ◌≤◌, ◌<◌}
use native.Mathlib.Omega.{arith}
use native.Mathlib.Nat.{eq-or-lt_of_le}
use lib.ListN.{length, get_or, set, length-set}
use lib.Dec.{eqb, ltb}
use borrow.Author.Tests.{eqb-true, eqb-false, ltb-true, lt-ltb}
use Rattle.type_book.specs.Book.{blocks, is_type, name_of}
use Rattle.type_provider.specs.Find.{searched, find, NamedBlock, is_found}
use Rattle.type_provider.proofs.Finds.{find-named}
use Rattle.type_block_form.proofs.Bytes.{and_left, and_right}
use Rattle.type_book_check.specs.Check.{ValidBook}
use Rattle.type_book_check.proofs.Valid.{valid-size, valid-below}
use Rattle.type_book_check.proofs.Append.{append_blocks}
use Rattle.type_cache.proofs.Definitions.{same-type}
use Rattle.type_cache.proofs.Joins.{OneType, named-old, join-name, join_kept, join-types, join-valid, find-new}
use Rattle.type_index.specs.Index.{slots_of, slot_for, probe_from, probe_of, free_from, free_of}
use Rattle.type_index.specs.Trust.{leads, leads_from, holds_all}
use Rattle.type_index_grow.specs.Grow.{takes, with_last}
use Rattle.type_index_grow.proofs.Kept.{free-empty, led-found, probe_kept, probe_new}

-- ---- what it is to lead to all types
module _ (book index : List ℕ) where
  each : (k i : ℕ) → leads_from book index i k ≡ true → (m : ℕ) → i ≤ m → m < i + k → leads book index m ≡ true
  unfolding leads_from
  each zero i e m l b = absurd (omega arith)
  each (suc k) i e m l b =
      ⊎_elim
      (λ q. rw (← q) (and_left (leads book index i) _ e))
      (λ q. each k (i + 1) (and_right (leads book index i) _ e) m (omega arith) (omega arith))
      (eq-or-lt_of_le l)

  all : (k i : ℕ) → ((m : ℕ) → i ≤ m → m < i + k → leads book index m ≡ true) → leads_from book index i k ≡ true
  unfolding leads_from
  all zero i f = refl
  all (suc k) i f = rw (f i (omega arith) (omega arith)) (all k (i + 1) (λ m l b. f m (omega arith) (omega arith)))

  type-led : holds_all book index ≡ true → (m : ℕ) → m < searched book → is_type book m ≡ true → is_found (probe_of book index (name_of book m)) ≡ true
  unfolding holds_all leads
  type-led h m l t = rw t at (each (searched book) 0 h m (omega arith) (omega arith))

  led-all : ((m : ℕ) → m < searched book → is_type book m ≡ true → is_found (probe_of book index (name_of book m)) ≡ true) → holds_all book index ≡ true
  unfolding holds_all leads
  led-all f = all (searched book) 0 (λ m l b. by m (is_type book m) refl (f m (omega arith)))
    where
      by : (m : ℕ) (t : Bool) → is_type book m ≡ t → (is_type book m ≡ true → is_found (probe_of book index (name_of book m)) ≡ true)
          → not (is_type book m) || is_found (probe_of book index (name_of book m)) ≡ true
      by m true e g = rw e (g e)
      by m false e g = rw e refl

-- fewer than three numbers a block are all slots
all_slots : (book : List ℕ) (len n : ℕ) → n ≤ searched book → len / 3 < n → slots_of book len ≡ len
unfolding slots_of
all_slots book len n g l = rw (lt-ltb (len / 3) (searched book) (omega arith))

-- ---- a valid book with one type of a lacking name after it
module _ (book d : List ℕ) (v : ValidBook book) (w : ValidBook d) (o : OneType d) (new : find book (name_of d 0) ≡ None)
    (few : blocks book + blocks d ≤ 65536) (index : List ℕ) (h : holds_all book index ≡ true)
    (t : takes (book ++ d) index (blocks book) ≡ true) where
  abbrev longer : List ℕ
  longer = book ++ d

  abbrev place : ℕ
  place = free_of longer index (name_of longer (blocks book))

  abbrev grown : List ℕ
  grown = set index place (blocks book + 1)

  short : length index / 3 < blocks book
  unfolding takes
  short = ltb-true _ _ (and_left (ltb (length index / 3) (blocks book)) _ t)

  within : place < length index
  unfolding takes
  within = ltb-true _ _ (and_right (ltb (length index / 3) (blocks book)) _ t)

  more : searched book ≤ searched longer
  more = omega (arith, append_blocks book d v w)

  old-slots : slots_of book (length index) ≡ length index
  old-slots = all_slots book (length index) (blocks book) (omega (arith, (valid-size book v).few)) short

  new-slots : slots_of longer (length index) ≡ length index
  new-slots = all_slots longer (length index) (blocks book) (omega (arith, (valid-size book v).few, more)) short

  free : get_or index place 0 ≡ 0
  unfolding free_of
  free = free-empty index _ 64 _ within

  long : length grown ≡ length index
  long = length-set index place (blocks book + 1)

  kept : (name : List ℕ) (m : ℕ) → NamedBlock book name m → NamedBlock longer name m
  kept name m b =
      record {
        below = omega (arith, b.below, more);
        named = named-old book d v name m (omega (arith, b.below)) ∙ b.named;
      }

  -- a name that was led to
  old-led : (name : List ℕ) → is_found (probe_of book index name) ≡ true → is_found (probe_of longer grown name) ≡ true
  unfolding probe_of
  old-led name q = rw (long, new-slots) (probe_kept book longer name (kept name) index place free (blocks book + 1) _ 64 _ (rw old-slots at q))

  -- the new name
  new-led : is_found (probe_of longer grown (name_of longer (blocks book))) ≡ true
  unfolding probe_of free_of
  new-led =
      let e : name_of longer (blocks book) ≡ name_of d 0 = join-name book d v w o new few in
      let b : NamedBlock longer (name_of longer (blocks book)) (blocks book) = rw e (find-named longer (name_of d 0) (blocks book) (find-new book d v w o new few)) in
      rw (long)
      (probe_new longer (name_of longer (blocks book)) index place (blocks book + 1) (λ z. omega arith) (led-found longer _ (blocks book) b) within free _ 64 _ refl)

  one : (m : ℕ) → m < searched longer → is_type longer m ≡ true → is_found (probe_of longer grown (name_of longer m)) ≡ true
  one m l y = by (eqb m (blocks book)) refl
    where
      by : (g : Bool) → eqb m (blocks book) ≡ g → is_found (probe_of longer grown (name_of longer m)) ≡ true
      by true e = rw (eqb-true m (blocks book) e) new-led
      by false e =
          let x : is_type book m ≡ true = join-types book d v w o new few m y (eqb-false m (blocks book) e) in
          let n : name_of longer m ≡ name_of book m = (same-type longer book m m (join-valid book d v w o new few) y (join_kept book d v m x)).name in
          let b : m < blocks book = valid-below book v m 0 (eqb-true _ _ x) in
          rw n (old-led (name_of book m) (type-led book index h m (omega (arith, (valid-size book v).few)) x))

  pub grown-holds : holds_all (book ++ d) (with_last (book ++ d) index (blocks book)) ≡ true
  unfolding with_last
  grown-holds = led-all longer grown one
