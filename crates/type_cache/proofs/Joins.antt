-- A valid book with one type after it: its blocks, its definitions, what a look-up finds, and that it is valid. Assumes nothing.
use Rattle.std.specs.Prelude.{Some, None}
use mathlib.Core.Path.{◌≡◌, refl, sym, ap, ◌∙◌}
use mathlib.Core.Bool.{Bool, true, false}
use mathlib.Core.List.{List, ◌++◌}
use Prim.Native.Nat.{ℕ, zero, suc, ◌+◌, ◌*◌, ◌-◌, ◌≤◌, ◌<◌}
use native.Mathlib.Omega.{arith}
use borrow.Author.Tests.{eq-eqb, eqb-true, ne_eqb, ltb-true, ltb-false}
use lib.ListN.{length}
use lib.Seq.{drop-append-add}
use lib.Dec.{ltb}
use Rattle.type_book.specs.Book.{blocks, block_of, kind_of, is_type, fields_of, entries_of, name_of, is_named}
use Rattle.type_provider.specs.Find.{searched, find}
use Rattle.type_book.proofs.Blocks.{same_byte, block_append}
use Rattle.type_provider.proofs.Finds.{same-named, named-own, named-name, named-kind, find-nothing, find-is, find-lacks, find_append}
use Rattle.type_book_check.specs.Check.{ValidBook}
use Rattle.type_book_check.proofs.Valid.{Definition, valid-size, valid-type, valid-names, valid-below, valid-passes, type-is}
use Rattle.type_book_check.proofs.Append.{append_blocks, valid_append}
use Rattle.type_cache.specs.Append.{is_one_type}
use Rattle.type_cache.specs.Same.{blocks_of, definition_of, Same}
use Rattle.type_cache.proofs.Runs.{placed_first}
use Rattle.type_cache.proofs.Definitions.{blocks-same, names_same, definition_first, definition_kept, definition_added}

-- the fields and entries of a type are no types
pub rest-other : (book : List ℕ) (n j : ℕ) → Definition book n → j < fields_of book n + entries_of book n → is_type book (n + 1 + j) ≡ false
rest-other book n j d l = by (ltb j (fields_of book n)) refl
  where
    by : (t : Bool) → ltb j (fields_of book n) ≡ t → is_type book (n + 1 + j) ≡ false
    by true e = ne_eqb (kind_of book (n + 1 + j)) 1 (λ k. omega (arith, k, (d.fields j (ltb-true _ _ e)).kind))
    by false e =
        let g : fields_of book n ≤ j = ltb-false j (fields_of book n) e in
        let q : n + 1 + fields_of book n + (j - fields_of book n) ≡ n + 1 + j = omega arith in
        let i : kind_of book (n + 1 + j) ≡ 3 = rw q at (d.entries (j - fields_of book n) (omega arith)).kind in
        ne_eqb (kind_of book (n + 1 + j)) 1 (λ k. omega (arith, k))

-- ---- the old blocks, and the new ones
module _ (book more : List ℕ) (v : ValidBook book) where
  pub join-old : (n : ℕ) → n < blocks book → block_of (book ++ more) n ≡ block_of book n
  join-old n l = block_append book more n (omega (arith, (valid-size book v).whole))

  pub join-new : (j : ℕ) → block_of (book ++ more) (blocks book + j) ≡ block_of more j
  join-new j =
      let q : (blocks book + j) * 512 ≡ length book + j * 512 = omega (arith, (valid-size book v).whole) in
      rw (q, drop-append-add book more (j * 512))

  pub join-at : block_of (book ++ more) (blocks book) ≡ block_of more 0
  join-at = let q : blocks book + 0 ≡ blocks book = omega arith in rw q at (join-new 0)

  pub named-old : (name : List ℕ) (n : ℕ) → n < blocks book → is_named (book ++ more) name n ≡ is_named book name n
  named-old name n l =
      sym (same-named book (book ++ more) n n (sym (join-old n l)) name (omega (arith, (valid-names book v n l).name.short)))

  -- each type of the book keeps its definition
  pub join_kept : (n : ℕ) → is_type book n ≡ true → Same (book ++ more) n book n
  join_kept n t =
      let d : Definition book n = valid-type book v n t in
      record {
        bytes = definition_kept book n more
            (blocks-same (book ++ more) book n n (join-old n (omega (arith, d.room))))
            (omega (arith, d.room, (valid-size book v).whole));
      }

  -- what was found is found at the same block
  pub find-kept : (name : List ℕ) (n : ℕ) → find book name ≡ Some n → find (book ++ more) name ≡ Some n
  find-kept name n e = find_append book more (λ m l. omega (arith, (valid-names book v m (omega arith)).name.short)) name n e

-- a definition of another book that is added is that of the new block
pub join_added : (book c : List ℕ) (n : ℕ) → ValidBook book → Same (book ++ definition_of c n) (blocks book) c n
join_added book c n v = record { bytes = definition_added book c n (blocks book) (omega (arith, (valid-size book v).whole)) by }
  where
    by : blocks_of (book ++ definition_of c n) (blocks book) ≡ blocks_of c n
    by = blocks-same (book ++ definition_of c n) c (blocks book) n (join-at book (definition_of c n) v ∙ definition_first c n)

-- ---- one type by itself
pub record OneType (more : List ℕ) : Type 0 where
  pub is : is_type more 0 ≡ true
  pub all : (n : ℕ) → is_type more n ≡ true → n ≡ 0

-- an addition of one type has a block, which a book need not have
some_block : (more : List ℕ) → is_one_type more ≡ true → 0 < blocks more
some_block more o = let e : fields_of more 0 + entries_of more 0 + 1 ≡ blocks more = eqb-true _ _ o in omega arith

module _ (more : List ℕ) (v : ValidBook more) where
  pub type-first : 0 < blocks more → is_type more 0 ≡ true
  type-first l =
      let q : blocks more ≡ suc (blocks more - 1) = omega arith in
      eq-eqb _ _ (type-is more 0 (placed_first more 0 (blocks more - 1) (rw q at (valid-passes more v).place))).kind

  pub one_type : is_one_type more ≡ true → OneType more
  one_type o = record { is = first; all = all }
    where
      first : is_type more 0 ≡ true
      first = type-first (some_block more o)

      all : (n : ℕ) → is_type more n ≡ true → n ≡ 0
      all zero t = refl
      all (suc n) t =
          let e : fields_of more 0 + entries_of more 0 + 1 ≡ blocks more = eqb-true _ _ o in
          let l : suc n < blocks more = valid-below more v (suc n) 0 (eqb-true _ _ t) in
          let q : 0 + 1 + n ≡ suc n = omega arith in
          let f : is_type more (suc n) ≡ false = rw q at (rest-other more 0 n (valid-type more v 0 first) (omega arith)) in
          let z : ◌≡◌ {A = ℕ} 0 1 = cc in
          absurd (omega arith)

-- ---- a valid book with one type of a lacking name after it
module _ (book more : List ℕ) (v : ValidBook book) (w : ValidBook more) (o : OneType more) (new : find book (name_of more 0) ≡ None)
    (few : blocks book + blocks more ≤ 65536) where
  pub join-valid : ValidBook (book ++ more)
  join-valid = valid_append book more v w (λ n t. rw (o.all n t) new) few

  size : blocks (book ++ more) ≡ blocks book + blocks more
  size = append_blocks book more v w

  lacks : (name : List ℕ) → find book name ≡ None → (m : ℕ) → m < blocks book → is_named (book ++ more) name m ≡ false
  lacks name e m l = named-old book more v name m l ∙ find-nothing book name e m (omega (arith, (valid-size book v).few))

  -- the type after it is in a block
  some : 0 < blocks more
  some = valid-below more w 0 0 (eqb-true _ _ o.is)

  pub join-name : name_of (book ++ more) (blocks book) ≡ name_of more 0
  join-name =
      sym (names_same more (book ++ more) 0 (blocks book) (sym (join-at book more v)) (valid-names more w 0 some))

  pub join-type : is_type (book ++ more) (blocks book) ≡ true
  join-type = rw (same_byte (book ++ more) more (blocks book) 0 (join-at book more v) 0 (omega arith)) o.is

  -- the new name is found at the new block
  pub find-new : find (book ++ more) (name_of more 0) ≡ Some (blocks book)
  find-new =
      find-is (book ++ more) (name_of more 0) (blocks book)
      (record {
        below = omega (arith, size, some);
        named = rw join-name at (named-own (book ++ more) (blocks book) join-type);
      })
      (lacks (name_of more 0) new)

  -- every other name is found, or not, as before
  pub find-other : (name : List ℕ) → find book name ≡ None → (name ≡ name_of more 0 → ⊥) → find (book ++ more) name ≡ None
  find-other name e n = find-lacks (book ++ more) name (λ m l. by m l (ltb m (blocks book)) refl)
    where
      late : (j : ℕ) (t : Bool) → is_named (book ++ more) name (blocks book + j) ≡ t → is_named (book ++ more) name (blocks book + j) ≡ false
      late j false h = h
      late j true h =
          let k : is_type (book ++ more) (blocks book + j) ≡ true = named-kind (book ++ more) name (blocks book + j) h in
          let i : is_type more j ≡ true = rw (same_byte (book ++ more) more (blocks book + j) j (join-new book more v j) 0 (omega arith)) at k in
          let z : j ≡ 0 = o.all j i in
          let q : blocks book + j ≡ blocks book = omega arith in
          absurd (n (sym (named-name (book ++ more) name (blocks book + j) h) ∙ rw q join-name))

      by : (m : ℕ) → m < searched (book ++ more) → (t : Bool) → ltb m (blocks book) ≡ t → is_named (book ++ more) name m ≡ false
      by m l true h = lacks name e m (ltb-true _ _ h)
      by m l false h =
          let g : blocks book ≤ m = ltb-false m (blocks book) h in
          let q : blocks book + (m - blocks book) ≡ m = omega arith in
          rw q at (late (m - blocks book) (is_named (book ++ more) name (blocks book + (m - blocks book))) refl)

  -- every other type is one of the book
  pub join-types : (m : ℕ) → is_type (book ++ more) m ≡ true → (m ≡ blocks book → ⊥) → is_type book m ≡ true
  join-types m t n = by (ltb m (blocks book)) refl
    where
      by : (u : Bool) → ltb m (blocks book) ≡ u → is_type book m ≡ true
      by true h = rw (same_byte (book ++ more) book m m (join-old book more v m (ltb-true _ _ h)) 0 (omega arith)) at t
      by false h =
          let g : blocks book ≤ m = ltb-false m (blocks book) h in
          let j : ℕ = m - blocks book in
          let q : m ≡ blocks book + j = omega arith in
          let e : block_of (book ++ more) m ≡ block_of more j = ap (block_of (book ++ more)) q ∙ join-new book more v j in
          let i : is_type more j ≡ true = rw (same_byte (book ++ more) more m j e 0 (omega arith)) at t in
          let z : j ≡ 0 = o.all j i in
          absurd (n (omega arith))
