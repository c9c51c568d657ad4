-- A valid book with another valid book after it, of which no type has a name of the first: a valid book, if it is short enough.
-- What the call that appends needs. Assumes nothing.
use Rattle.std.specs.Prelude.{None}
use mathlib.Core.Path.{◌≡◌, refl, sym}
use mathlib.Core.Bool.{Bool, true, false, not, ◌||◌}
use mathlib.Core.List.{List, ◌++◌}
use Prim.Native.Nat.{ℕ, zero, suc, ◌+◌, ◌*◌, ◌-◌, ◌≤◌, ◌<◌}
use native.Mathlib.Omega.{arith}
use borrow.Author.Tests.{eqb-true, ltb-true, ltb-false}
use lib.ListN.{length, take, length-append}
use lib.Seq.{drop-append-add, take-length}
use lib.Dec.{eqb, ltb}
use Rattle.type_book.specs.Book.{blocks, block_of, is_type, fields_of, entries_of, name_of, is_named}
use Rattle.type_provider.specs.Find.{find}
use Rattle.type_book.proofs.Blocks.{block_append, same_byte, same-u32, same-counted}
use Rattle.type_provider.proofs.Finds.{same-named, find-nothing, searched-all}
use Rattle.type_block_form.specs.Form.{sum_right, type_form, field_form, entry_form}
use Rattle.type_doubles.specs.Doubles.{all_from, is_other, is_first}
use Rattle.type_book_check.specs.Check.{sum_at, place_of, places_onward, placed_from, all_in_place, ValidBook}
use Rattle.type_block_form.proofs.Bytes.{and_left, and_right}
use Rattle.type_doubles.proofs.All.{all_of, each_of}
use Rattle.type_doubles.proofs.Doubles.{other-holds}
use Rattle.type_book_check.proofs.Checks.{passes-again, size_in}
use Rattle.type_book_check.proofs.Valid.{chosen, went, valid-passes, valid-size, valid-names, valid-first}

-- of blocks that are the same in two books: the first, the others, and what follows them
first : (a b : List ℕ) (i j k : ℕ) → ((d : ℕ) → d < suc k → block_of b (j + d) ≡ block_of a (i + d)) → block_of b j ≡ block_of a i
first a b i j k same =
    let p : j + 0 ≡ j = omega arith in
    let q : i + 0 ≡ i = omega arith in
    rw (p, q) at (same 0 (omega arith))

later : (a b : List ℕ) (i j k : ℕ) → ((d : ℕ) → d < suc k → block_of b (j + d) ≡ block_of a (i + d)) → (d : ℕ) → d < k → block_of b (j + 1 + d) ≡ block_of a (i + 1 + d)
later a b i j k same d l =
    let p : j + suc d ≡ j + 1 + d = omega arith in
    let q : i + suc d ≡ i + 1 + d = omega arith in
    rw (p, q) at (same (suc d) (omega arith))

onto : (b : List ℕ) (j k l : ℕ) → placed_from b (j + suc k) l 0 0 ≡ true → placed_from b (j + 1 + k) l 0 0 ≡ true
onto b j k l h = let p : j + suc k ≡ j + 1 + k = omega arith in rw p at h

-- blocks that stand in their places stand so in another book that has them, before what follows there
graft : (a b : List ℕ) (i j k l f e : ℕ) → ((d : ℕ) → d < k → block_of b (j + d) ≡ block_of a (i + d)) → placed_from a i k f e ≡ true → placed_from b (j + k) l 0 0 ≡ true → placed_from b j (k + l) f e ≡ true
unfolding placed_from place_of places_onward
graft a b i j zero l f e same h rest =
    let x : f ≡ 0 = eqb-true f 0 (and_left _ _ h) in
    let y : e ≡ 0 = eqb-true e 0 (and_right (eqb f 0) _ h) in
    let p : 0 + l ≡ l = omega arith in
    let q : j + 0 ≡ j = omega arith in
    rw (x, y, p) (rw q at rest)
graft a b i j (suc k) l zero zero same h rest =
    let s : block_of b j ≡ block_of a i = first a b i j k same in
    let p : suc k + l ≡ suc (k + l) = omega arith in
    rw (p, s, chosen (type_form (block_of a i)) _ _ _ h, same-u32 b a j i s 12 (omega arith), same-u32 b a j i s 16 (omega arith))
    (graft a b (i + 1) (j + 1) k l (fields_of a i) (entries_of a i) (later a b i j k same) (went (type_form (block_of a i)) _ _ _ h) (onto b j k l rest))
graft a b i j (suc k) l zero (suc e) same h rest =
    let p : suc k + l ≡ suc (k + l) = omega arith in
    rw (p, first a b i j k same, chosen (entry_form (block_of a i)) _ _ _ h)
    (graft a b (i + 1) (j + 1) k l 0 e (later a b i j k same) (went (entry_form (block_of a i)) _ _ _ h) (onto b j k l rest))
graft a b i j (suc k) l (suc f) e same h rest =
    let p : suc k + l ≡ suc (k + l) = omega arith in
    rw (p, first a b i j k same, chosen (field_form (block_of a i)) _ _ _ h)
    (graft a b (i + 1) (j + 1) k l f e (later a b i j k same) (went (field_form (block_of a i)) _ _ _ h) (onto b j k l rest))

module _ (book more : List ℕ) (v : ValidBook book) (w : ValidBook more) where
  len-book : length book ≡ 512 * blocks book
  len-book = (valid-size book v).whole

  len_more : length more ≡ 512 * blocks more
  len_more = (valid-size more w).whole

  pub append_length : length (book ++ more) ≡ 512 * (blocks book + blocks more)
  append_length = omega (arith, length-append book more, len-book, len_more)

  pub append_blocks : blocks (book ++ more) ≡ blocks book + blocks more
  append_blocks = omega (arith, append_length)

  left : (m : ℕ) → m < blocks book → block_of (book ++ more) m ≡ block_of book m
  left m l = block_append book more m (omega (arith, len-book))

  right : (m : ℕ) → block_of (book ++ more) (blocks book + m) ≡ block_of more m
  right m =
      let p : (blocks book + m) * 512 ≡ length book + m * 512 = omega (arith, len-book) in
      rw (p, drop-append-add book more (m * 512))

  -- what holds of each block of the one and of the other holds of each block of the whole
  halves : (P : ℕ → Type 0) → ((m : ℕ) → m < blocks book → P m) → ((m : ℕ) → m < blocks more → P (blocks book + m)) → (m : ℕ) → m < blocks (book ++ more) → P m
  halves P a b m l = by (ltb m (blocks book)) refl
    where
      by : (t : Bool) → ltb m (blocks book) ≡ t → P m
      by true e = a m (ltb-true _ _ e)
      by false e =
          let g : blocks book ≤ m = ltb-false m (blocks book) e in
          let q : blocks book + (m - blocks book) ≡ m = omega arith in
          rw q at (b (m - blocks book) (omega (arith, append_blocks)))

  append_sums : all_from (sum_at (book ++ more)) 0 (blocks (book ++ more)) ≡ true
  unfolding sum_at
  append_sums =
      all_of (sum_at (book ++ more)) (blocks (book ++ more))
      (halves (λ m. sum_right (block_of (book ++ more) m) ≡ true)
      (λ m l. rw (left m l) (each_of (sum_at book) (blocks book) (valid-passes book v).sum m l))
      (λ m l. rw (right m) (each_of (sum_at more) (blocks more) (valid-passes more w).sum m l)))

  append_placed : all_in_place (book ++ more) ≡ true
  unfolding placed_from
  append_placed =
      let o : blocks more + 0 ≡ blocks more = omega arith in
      let y : 0 + blocks book ≡ blocks book = omega arith in
      rw append_blocks
      (graft book (book ++ more) 0 0 (blocks book) (blocks more) 0 0
      (λ d l. let q : 0 + d ≡ d = omega arith in rw q (left d l))
      (valid-passes book v).place
      (rw y (rw o at (graft more (book ++ more) 0 (blocks book) (blocks more) 0 0 0
      (λ d l. let q : 0 + d ≡ d = omega arith in rw q (right d))
      (valid-passes more w).place refl))))

  -- a block of either, in the whole: its kind, its name, and whether it is of a name
  left-named : (name : List ℕ) (m : ℕ) → m < blocks book → is_named (book ++ more) name m ≡ is_named book name m
  left-named name m l =
      sym (same-named book (book ++ more) m m (sym (left m l)) name (omega (arith, (valid-names book v m l).name.short)))

  right-named : (name : List ℕ) (m : ℕ) → m < blocks more → is_named (book ++ more) name (blocks book + m) ≡ is_named more name m
  right-named name m l =
      sym (same-named more (book ++ more) m (blocks book + m) (sym (right m)) name (omega (arith, (valid-names more w m l).name.short)))

  left-name : (m : ℕ) → m < blocks book → name_of (book ++ more) m ≡ name_of book m
  left-name m l =
      sym (same-counted book (book ++ more) m m (sym (left m l)) 52 54 (omega arith) (omega (arith, (valid-names book v m l).name.short)))

  right-name : (m : ℕ) → m < blocks more → name_of (book ++ more) (blocks book + m) ≡ name_of more m
  right-name m l =
      sym (same-counted more (book ++ more) m (blocks book + m) (sym (right m)) 52 54 (omega arith) (omega (arith, (valid-names more w m l).name.short)))

  left-type : (m : ℕ) → m < blocks book → is_type (book ++ more) m ≡ is_type book m
  left-type m l = rw (same_byte (book ++ more) book m m (left m l) 0 (omega arith))

  right-type : (m : ℕ) → is_type (book ++ more) (blocks book + m) ≡ is_type more m
  right-type m = rw (same_byte (book ++ more) more (blocks book + m) m (right m) 0 (omega arith))

  -- no type of the second has a name that the first defines
  module _ (new : (n : ℕ) → is_type more n ≡ true → find book (name_of more n) ≡ None) where
    unnamed : (n : ℕ) → n < blocks (book ++ more) → is_type (book ++ more) n ≡ true → (m : ℕ) → m < n → is_named (book ++ more) (name_of (book ++ more) n) m ≡ false
    unnamed =
        halves (λ n. is_type (book ++ more) n ≡ true → (m : ℕ) → m < n → is_named (book ++ more) (name_of (book ++ more) n) m ≡ false)
        (λ n l t m g. rw (left-name n l, left-named (name_of book n) m (omega arith)) (valid-first book v n (rw (left-type n l) at t) m g))
        (λ n l t m g. rw (right-name n l)
        (halves (λ k. k < blocks book + n → is_named (book ++ more) (name_of more n) k ≡ false)
        (λ k h o. rw (left-named (name_of more n) k h)
        (find-nothing book (name_of more n) (new n (rw (right-type n) at t)) k (rw (searched-all book (valid-size book v).few) h)))
        (λ k h o. rw (right-named (name_of more n) k h) (valid-first more w n (rw (right-type n) at t) k (omega arith)))
        m (omega (arith, append_blocks)) g))

    append_distinct : all_from (is_first (book ++ more)) 0 (blocks (book ++ more)) ≡ true
    unfolding is_first
    append_distinct =
        all_of (is_first (book ++ more)) (blocks (book ++ more))
        (λ n l. by n l (is_type (book ++ more) n) refl)
      where
        by : (n : ℕ) → n < blocks (book ++ more) → (t : Bool) → is_type (book ++ more) n ≡ t → not (is_type (book ++ more) n) || all_from (is_other (book ++ more) (name_of (book ++ more) n)) 0 n ≡ true
        by n l false e = rw e
        by n l true e = rw e (all_of (is_other (book ++ more) (name_of (book ++ more) n)) n (λ m g. other-holds (book ++ more) _ m false (sym (unnamed n l e m g)) refl))

    pub valid_append : blocks book + blocks more ≤ 65536 → ValidBook (book ++ more)
    valid_append few =
        let n : List ℕ = book ++ more in
        let e : take (length n) n ≡ n = take-length n in
        passes-again n (length n)
        (size_in (length n) (length n) (omega arith)
        (record {
          fits = omega arith;
          whole = omega (arith, append_length);
          few = omega (arith, append_blocks);
        }))
        (rw e append_sums) (rw e append_placed) (rw e append_distinct)
