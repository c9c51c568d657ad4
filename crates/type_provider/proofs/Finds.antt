-- The first type block of a name: what `find` says, and the turns of its loop. Assumes nothing.
use Rattle.std.specs.Prelude.{Some, None}
use mathlib.Core.Path.{◌≡◌, refl, sym, ap, ◌∙◌}
use mathlib.Core.Bool.{Bool, true, false, cond, ◌&&◌}
use mathlib.Core.List.{List, ◌++◌}
use mathlib.Core.Logic.{⊎_elim}
use Prim.Native.Nat.{ℕ, zero, suc, ◌+◌, ◌≤◌, ◌<◌}
use native.Mathlib.Omega.{arith}
use native.Mathlib.Nat.{eq-or-lt_of_le}
use lib.ListN.{length-append}
use Rattle.type_book.specs.Book.{blocks, block_of, byte_at, is_type, name_of, same_name, is_named}
use Rattle.type_provider.specs.Find.{searched, find_from, find, TypeBlock, NamedBlock, UniqueNames}
use Rattle.type_book.proofs.Blocks.{same_byte, same-counted, block_append}
use Rattle.type_book.proofs.Names.{same_eq, same_refl}

-- ---- a type block of that name

module _ (book name : List ℕ) (n : ℕ) where
  pub named-type : (t : Bool) → t ≡ is_type book n → t ≡ true → (s : List ℕ) → s ≡ name_of book n → (r : Bool) → r ≡ same_name s name → r ≡ is_named book name n
  unfolding is_named
  named-type t et h s es r er = er ∙ rw (← et, h, es)

  -- a type block of that name is a type block, and its name is that name
  parts : (g : Bool) → is_type book n ≡ g → g && same_name (name_of book n) name ≡ true → (is_type book n ≡ true) × (name_of book n ≡ name)
  parts true e h = (e, same_eq _ _ h)
  parts false e h = absurd (let z : ◌≡◌ {A = ℕ} 0 1 = cc in omega arith)

  pub named-kind : is_named book name n ≡ true → is_type book n ≡ true
  unfolding is_named
  named-kind h = (parts (is_type book n) refl h).0

  pub named-name : is_named book name n ≡ true → name_of book n ≡ name
  unfolding is_named
  named-name h = (parts (is_type book n) refl h).1

-- a type block is one of its own name
pub named-own : (book : List ℕ) (n : ℕ) → is_type book n ≡ true → is_named book (name_of book n) n ≡ true
unfolding is_named
named-own book n h = rw (h, same_refl (name_of book n))

-- blocks of the same bytes, in one book or in two, are both of that name or neither
pub same-named : (a b : List ℕ) (m n : ℕ) → block_of a m ≡ block_of b n → (name : List ℕ) → 54 + byte_at a m 52 ≤ 512 → is_named a name m ≡ is_named b name n
unfolding is_named
same-named a b m n e name h = rw (same_byte a b m n e 0 (omega arith), same-counted a b m n e 52 54 (omega arith) h)

-- ---- the blocks searched

pub searched-all : (book : List ℕ) → blocks book ≤ 65536 → searched book ≡ blocks book
searched-all book h = omega arith

-- ---- the search

module _ (book name : List ℕ) where
  step : (i k : ℕ) (t : Bool) → t ≡ is_named book name i → find_from book name i (suc k) ≡ cond t (Some i) (find_from book name (i + 1) k)
  unfolding find_from
  step i k t e = rw e

  -- what is found is one of the blocks, of that name, and no block before it has that name
  record First (i k n : ℕ) : Type 0 where
    below : n < i + k
    named : is_named book name n ≡ true
    first : (m : ℕ) → i ≤ m → m < n → is_named book name m ≡ false

  from_found : (k i n : ℕ) → find_from book name i k ≡ Some n → First i k n
  unfolding find_from
  from_found zero i n e = absurd (let z : ◌≡◌ {A = ℕ} 0 1 = cc in omega arith)
  from_found (suc k) i n e = by (is_named book name i) refl (from_found k (i + 1) n) e
    where
      by : (g : Bool) → is_named book name i ≡ g → (find_from book name (i + 1) k ≡ Some n → First (i + 1) k n)
          → cond g (Some i) (find_from book name (i + 1) k) ≡ Some n → First i (suc k) n
      by true h ih e =
          let q : i ≡ n = cc in
          record {
            below = omega arith;
            named = rw (← q) h;
            first = λ m l b. absurd (omega arith);
          }
      by false h ih e =
          let r = ih e in
          record {
            below = omega arith;
            named = r.named;
            first = λ m l b. ⊎_elim (λ q. rw (← q) h) (λ q. r.first m (omega arith) b) (eq-or-lt_of_le l);
          }

  from_nothing : (k i : ℕ) → find_from book name i k ≡ None → (m : ℕ) → i ≤ m → m < i + k → is_named book name m ≡ false
  unfolding find_from
  from_nothing zero i e m l b = absurd (omega arith)
  from_nothing (suc k) i e m l b = by (is_named book name i) refl (from_nothing k (i + 1)) e
    where
      by : (g : Bool) → is_named book name i ≡ g
          → (find_from book name (i + 1) k ≡ None → (m : ℕ) → i + 1 ≤ m → m < i + 1 + k → is_named book name m ≡ false)
          → cond g (Some i) (find_from book name (i + 1) k) ≡ None → is_named book name m ≡ false
      by true h ih e = absurd (let z : ◌≡◌ {A = ℕ} 0 1 = cc in omega arith)
      by false h ih e = ⊎_elim (λ q. rw (← q) h) (λ q. ih e m (omega arith) (omega arith)) (eq-or-lt_of_le l)

  from_is : (k i n : ℕ) → i ≤ n → n < i + k → is_named book name n ≡ true
      → ((m : ℕ) → i ≤ m → m < n → is_named book name m ≡ false) → find_from book name i k ≡ Some n
  from_is zero i n l b h f = absurd (omega arith)
  from_is (suc k) i n l b h f =
      ⊎_elim
      (λ q. step i k true (sym (rw q h)) ∙ ap Some q)
      (λ q. step i k false (sym (f i (omega arith) q)) ∙ from_is k (i + 1) n (omega arith) (omega arith) h (λ m a c. f m (omega arith) c))
      (eq-or-lt_of_le l)

  from-lacks : (k i : ℕ) → ((m : ℕ) → i ≤ m → m < i + k → is_named book name m ≡ false) → find_from book name i k ≡ None
  unfolding find_from
  from-lacks zero i f = refl
  from-lacks (suc k) i f =
      step i k false (sym (f i (omega arith) (omega arith))) ∙ from-lacks k (i + 1) (λ m a c. f m (omega arith) (omega arith))

  -- what is found is a type block of that name
  pub find-named : (n : ℕ) → find book name ≡ Some n → NamedBlock book name n
  unfolding find
  find-named n e = let r = from_found (searched book) 0 n e in record { below = omega arith; named = r.named }

  -- no block before it is one
  pub find_first : (n : ℕ) → find book name ≡ Some n → (m : ℕ) → m < n → is_named book name m ≡ false
  unfolding find
  find_first n e m b = (from_found (searched book) 0 n e).first m (omega arith) b

  -- where nothing is found, no block searched is one
  pub find-nothing : find book name ≡ None → (m : ℕ) → m < searched book → is_named book name m ≡ false
  unfolding find
  find-nothing e m b = from_nothing (searched book) 0 e m (omega arith) (omega arith)

  -- the first type block of that name is found
  pub find-is : (n : ℕ) → NamedBlock book name n → ((m : ℕ) → m < n → is_named book name m ≡ false) → find book name ≡ Some n
  unfolding find
  find-is n b f = from_is (searched book) 0 n (omega arith) (omega arith) b.named (λ m a c. f m c)

  -- where no block searched is one, nothing is found
  pub find-lacks : ((m : ℕ) → m < searched book → is_named book name m ≡ false) → find book name ≡ None
  unfolding find
  find-lacks f = from-lacks (searched book) 0 (λ m a c. f m (omega arith))

  -- ---- the ways out of `find`, where none of the first i blocks has that name

  module _ (i : ℕ) (none : (k : ℕ) → k < i → is_named book name k ≡ false) where
    pub find-here : (n : ℕ) → n ≡ searched book → i < n → (t : Bool) → t ≡ is_named book name i → t ≡ true → Some i ≡ find book name
    find-here n q l t e h = sym (find-is i (record { below = rw (← q) l; named = sym e ∙ h }) none)

    pub find-end : (n : ℕ) → n ≡ searched book → n ≤ i → None ≡ find book name
    find-end n q l = sym (find-lacks (λ m h. none m (omega arith)))

-- ---- books whose names are unique

module _ (book : List ℕ) where
  -- a type block of that name is the one that is found
  pub unique-find : UniqueNames book → (name : List ℕ) (n : ℕ) → NamedBlock book name n → find book name ≡ Some n
  unique-find u name n b =
      rw (← named-name book name n b.named) (u n (record { below = b.below; kind = named-kind book name n b.named }))

  -- type blocks of one name are one block
  pub unique-same : UniqueNames book → (m n : ℕ) → TypeBlock book m → TypeBlock book n → name_of book m ≡ name_of book n → m ≡ n
  unique-same u m n bm bn e =
      let p : find book (name_of book m) ≡ Some m = u m bm in
      let q : find book (name_of book n) ≡ Some n = u n bn in
      cc

  -- names are unique where type blocks of one name are one block
  pub unique_of : ((m n : ℕ) → TypeBlock book m → TypeBlock book n → name_of book m ≡ name_of book n → m ≡ n) → UniqueNames book
  unique_of f n b =
      find-is book (name_of book n) n (record { below = b.below; named = named-own book n b.kind })
      (λ m l. other m l (is_named book (name_of book n) m) refl)
    where
      other : (m : ℕ) → m < n → (g : Bool) → is_named book (name_of book n) m ≡ g → is_named book (name_of book n) m ≡ false
      other m l true h =
          let q : m ≡ n =
          f m n (record { below = omega (arith, b.below); kind = named-kind book (name_of book n) m h }) b (named-name book (name_of book n) m h)
          in
          absurd (omega arith)
      other m l false h = h

-- ---- a book that is added to: the lengths of its names end within their blocks

module _ (book more : List ℕ) (fits : (m : ℕ) → m < searched book → 54 + byte_at book m 52 ≤ 512) where
  -- each block keeps its name
  pub named_append : (name : List ℕ) (m : ℕ) → m < searched book → is_named (book ++ more) name m ≡ is_named book name m
  named_append name m h =
      sym (same-named book (book ++ more) m m (sym (block_append book more m (omega arith))) name (fits m h))

  -- what was found is found at the same block
  pub find_append : (name : List ℕ) (n : ℕ) → find book name ≡ Some n → find (book ++ more) name ≡ Some n
  find_append name n e =
      let b = find-named book name n e in
      let l : n < searched book = b.below in
      find-is (book ++ more) name n
      (record { below = omega (arith, length-append book more); named = named_append name n l ∙ b.named })
      (λ m c. named_append name m (omega arith) ∙ find_first book name n e m c)
