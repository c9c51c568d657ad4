-- Adding a valid book's definitions by the call: which are refused, and what an accepted one leaves. Assumes nothing.
use Rattle.std.specs.Prelude.{Some, None}
use mathlib.Core.Path.{◌≡◌, refl, sym, ◌∙◌}
use mathlib.Core.Bool.{Bool, true, false, not, ◌||◌}
use mathlib.Core.List.{List, ◌++◌}
use Prim.Native.Nat.{ℕ, zero, suc, ◌+◌, ◌*◌, ◌-◌, ◌≤◌, ◌<◌}
use native.Mathlib.Omega.{arith}
use borrow.Author.Tests.{eq-eqb, eqb-true}
use lib.ListN.{length, take}
use lib.Seq.{length-take-le, take-length, take-paste, length-paste}
use Rattle.type_book.specs.Book.{blocks, block_of, kind_of, is_type, fields_of, entries_of, name_of}
use Rattle.type_provider.specs.Find.{find}
use Rattle.type_book.proofs.Blocks.{same_byte}
use Rattle.type_doubles.specs.Doubles.{all_from, is_first}
use Rattle.type_book_check.specs.Check.{sum_at, placed_from, check_book, ValidBook}
use Rattle.type_book_check.specs.declared.BookCheck.TheVariants.{Valid}
use Rattle.type_book_check.proofs.Valid.{Placed, Definition, field_is, entry-is, valid-size, valid-type, valid-names, valid-place, valid-passes, valid-book, valid_in}
use Rattle.type_book_check.proofs.Append.{append_blocks}
use Rattle.type_book_check.proofs.Numbers.{valid-number}
use Rattle.type_cache.specs.Append.{is_one_type, addition_refusal, is_known, has_room, append_refusal, joined, append_buffer}
use Rattle.type_cache.specs.Same.{blocks_of, definition_of, Same}
use Rattle.type_cache.proofs.Checked.{book-fits, valid_of}
use Rattle.type_cache.proofs.Runs.{each, all-each, placed-type}
use Rattle.type_cache.proofs.Definitions.{blocks-same, names_same, definition_block, definition_first, definition_length}
use Rattle.type_cache.proofs.Joins.{OneType, one_type, rest-other, join_kept, join_added, join-valid, join-type, join-types, find-kept, find-new, find-other}
use Rattle.type_cache.proofs.Appends.{Accepted, accepts, accepted, room_fits, room-few, refused-known, addition_one, addition_valid, addition_single, known_at, known-not, unknown, buffer-done}

sum_same : (a b : List ℕ) (m n : ℕ) → block_of a m ≡ block_of b n → sum_at a m ≡ sum_at b n
unfolding sum_at
sum_same a b m n e = rw e

-- a first block, and a block that is no type, pass 4
first-zero : (book : List ℕ) → is_first book 0 ≡ true
unfolding is_first all_from
first-zero book = by (is_type book 0)
  where
    by : (t : Bool) → not t || true ≡ true
    by true = refl
    by false = refl

first-other : (book : List ℕ) (n : ℕ) → is_type book n ≡ false → is_first book n ≡ true
unfolding is_first
first-other book n h = rw h

-- ---- a type's definition in a valid book is a valid book of one type
module _ (c : List ℕ) (v : ValidBook c) (n : ℕ) (t : is_type c n ≡ true) where
  abbrev d : List ℕ
  d = definition_of c n

  whole : Definition c n
  whole = valid-type c v n t

  below : n < blocks c
  below = omega (arith, whole.room)

  pub definition_size : length (definition_of c n) ≡ blocks_of c n * 512
  definition_size = definition_length c n (omega (arith, whole.room, (valid-size c v).whole))

  count : blocks d ≡ blocks_of c n
  count = omega (arith, definition_size)

  sum : all_from (sum_at d) 0 (blocks d) ≡ true
  sum = all-each (sum_at d) 0 (blocks d) by
    where
      by : (j : ℕ) → j < blocks d → sum_at d (0 + j) ≡ true
      by j l =
          let q : 0 + j ≡ j = omega arith in
          let o : 0 + (n + j) ≡ n + j = omega arith in
          let h : sum_at c (n + j) ≡ true = rw o at (each (sum_at c) 0 (blocks c) (valid-passes c v).sum (n + j) (omega (arith, count, whole.room))) in
          rw q (sum_same d c j (n + j) (definition_block c n j (omega (arith, count))) ∙ h)

  place : placed_from d 0 (blocks d) 0 0 ≡ true
  place = by (valid-place c v n below)
    where
      q : blocks d ≡ suc (fields_of c n + entries_of c n)
      q = omega (arith, count)

      kind : kind_of c n ≡ 1
      kind = eqb-true _ _ t

      by : Placed c n (blocks c - (n + 1)) → placed_from d 0 (blocks d) 0 0 ≡ true
      by (Placed.type f p) =
          rw q (placed-type c d n 0 (blocks c - (n + 1))
          (λ j l. let o : 0 + j ≡ j = omega arith in rw o (definition_block c n j (omega arith))) f p)
      by (Placed.field f) = absurd (omega (arith, (field_is c n f).kind, kind))
      by (Placed.entry f) = absurd (omega (arith, (entry-is c n f).kind, kind))

  name : all_from (is_first d) 0 (blocks d) ≡ true
  name = all-each (is_first d) 0 (blocks d) by
    where
      by : (j : ℕ) → j < blocks d → is_first d (0 + j) ≡ true
      by zero l = let q : 0 + 0 ≡ 0 = omega arith in rw q (first-zero d)
      by (suc j) l =
          let q : 0 + suc j ≡ suc j = omega arith in
          let o : n + suc j ≡ n + 1 + j = omega arith in
          let e : block_of d (suc j) ≡ block_of c (n + 1 + j) = rw o at (definition_block c n (suc j) (omega (arith, count))) in
          let f : is_type d (suc j) ≡ false =
          rw (same_byte d c (suc j) (n + 1 + j) e 0 (omega arith)) (rest-other c n j whole (omega (arith, count))) in
          rw q (first-other d (suc j) f)

  pub definition_valid : ValidBook (definition_of c n)
  definition_valid =
      valid_of d (omega (arith, definition_size)) (omega (arith, count, whole.room, (valid-size c v).few)) sum place name

  pub definition_one : is_one_type (definition_of c n) ≡ true
  definition_one = eq-eqb (blocks_of d 0) (blocks d) (blocks-same d c 0 n (definition_first c n) ∙ sym count)

  pub definition_name : name_of (definition_of c n) 0 ≡ name_of c n
  definition_name = sym (names_same c d n 0 (sym (definition_first c n)) (valid-names c v n below))

  pub definition_whole : addition_refusal (definition_of c n) ≡ 0
  definition_whole = sym (addition_one (definition_of c n) _ refl definition_valid _ refl definition_one)

  -- a definition that has room is refused exactly if its name is known, and then with 4
  module _ (buffer : List ℕ) (len : ℕ) (b : check_book buffer len ≡ Valid) where
    pub add-known : (k : ℕ) → find (take len buffer) (name_of c n) ≡ Some k → append_refusal buffer len (definition_of c n) ≡ 4
    add-known k e =
        sym (refused-known buffer len d (check_book buffer len) refl 0 (valid-number (check_book buffer len) b) refl 0 (sym definition_whole) refl (name_of d 0) refl
        (is_known (take len buffer) (name_of d 0)) refl (sym (known_at (take len buffer) (name_of d 0) _ refl k (rw definition_name e))))

    pub add-lacking : find (take len buffer) (name_of c n) ≡ None → has_room (length buffer) len (length (definition_of c n)) ≡ true → append_refusal buffer len (definition_of c n) ≡ 0
    add-lacking e r = accepts buffer len d (record { book = b; one = definition_whole; new = sym (known-not (take len buffer) (name_of d 0) _ refl (rw definition_name e)); room = r })

-- ---- a book with a definition of another after it
pub record Added (book c : List ℕ) (n : ℕ) (after : List ℕ) : Type 0 where
  pub valid : ValidBook after
  pub size : blocks after ≡ blocks book + blocks_of c n
  pub type : is_type after (blocks book) ≡ true
  pub same : Same after (blocks book) c n
  pub kept : (m : ℕ) → is_type book m ≡ true → Same after m book m
  pub types : (m : ℕ) → is_type after m ≡ true → (m ≡ blocks book → ⊥) → is_type book m ≡ true
  pub found : find after (name_of c n) ≡ Some (blocks book)
  pub old : (name : List ℕ) (k : ℕ) → find book name ≡ Some k → find after name ≡ Some k
  pub other : (name : List ℕ) → find book name ≡ None → (name ≡ name_of c n → ⊥) → find after name ≡ None

pub added : (book c : List ℕ) (n : ℕ) → ValidBook book → ValidBook c → is_type c n ≡ true → find book (name_of c n) ≡ None → blocks book + blocks_of c n ≤ 65536
    → Added book c n (book ++ definition_of c n)
added book c n v w t lacking few =
    let d : List ℕ = definition_of c n in
    let e : name_of d 0 ≡ name_of c n = definition_name c w n t in
    let valid : ValidBook d = definition_valid c w n t in
    let one : OneType d = one_type d valid (definition_one c w n t) in
    let new : find book (name_of d 0) ≡ None = rw e lacking in
    let k : blocks book + blocks d ≤ 65536 = omega (arith, definition_size c w n t) in
    record {
      valid = join-valid book d v valid one new k;
      size = omega (arith, append_blocks book d v valid, definition_size c w n t);
      type = join-type book d v valid one new k;
      same = join_added book c n v;
      kept = join_kept book d v;
      types = join-types book d v valid one new k;
      found = rw e at (find-new book d v valid one new k);
      old = find-kept book d v;
      other = λ name h g. find-other book d v valid one new k name h (λ q. g (q ∙ e));
    }

-- ---- what a call leaves
-- the buffer holds the book with the addition after it, and that book is valid
pub record Grown (buffer : List ℕ) (len : ℕ) (addition : List ℕ) : Type 0 where
  pub old : ValidBook (take len buffer)
  pub valid : ValidBook addition
  pub one : OneType addition
  pub new : find (take len buffer) (name_of addition 0) ≡ None
  pub few : blocks (take len buffer) + blocks addition ≤ 65536
  pub book : take (len + length addition) (append_buffer buffer len addition) ≡ take len buffer ++ addition
  pub check : check_book (append_buffer buffer len addition) (len + length addition) ≡ Valid

module _ (buffer : List ℕ) (len : ℕ) (addition : List ℕ) where
  pub grown : append_refusal buffer len addition ≡ 0 → Grown buffer len addition
  grown h =
      let a : Accepted buffer len addition = accepted buffer len addition h in
      let old : ValidBook (take len buffer) = valid-book buffer len a.book in
      let valid : ValidBook addition = addition_valid addition a.one in
      let one : OneType addition = one_type addition valid (addition_single addition a.one) in
      let new : find (take len buffer) (name_of addition 0) ≡ None = unknown _ _ a.new in
      let in_buffer : len ≤ length buffer = book-fits buffer len a.book in
      let size : length (take len buffer) ≡ len = length-take-le len buffer in_buffer in
      let few : blocks (take len buffer) + blocks addition ≤ 65536 =
      omega (arith, size, room-few _ _ _ a.room, (valid-size (take len buffer) old).whole, (valid-size addition valid).whole) in
      let fits : len + length addition ≤ length buffer = room_fits _ _ _ a.room in
      let z : append_buffer buffer len addition ≡ joined buffer len addition = buffer-done buffer len addition h in
      let book : take (len + length addition) (joined buffer len addition) ≡ take len buffer ++ addition =
      rw (take-length addition) at (take-paste buffer len addition (length addition) in_buffer (omega arith)) in
      let long : length (joined buffer len addition) ≡ length buffer =
      rw (take-length addition) at (length-paste buffer len addition (length addition) fits (omega arith)) in
      record {
        old = old;
        valid = valid;
        one = one;
        new = new;
        few = few;
        book = rw z book;
        check =
            rw z
            (valid_in (joined buffer len addition) (len + length addition) (omega (arith, long))
            (rw book (join-valid (take len buffer) addition old valid one new few)));
      }
