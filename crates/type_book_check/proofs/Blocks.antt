-- The blocks of a book, one after another: one law for each way out of each function. Assumes nothing.
use mathlib.Core.Path.{◌≡◌, refl, sym, ◌∙◌}
use mathlib.Core.Bool.{Bool, true, false, ◌&&◌, not, cond}
use mathlib.Core.List.{List}
use Prim.Native.Nat.{ℕ, suc, ◌+◌, ◌*◌, ◌-◌, ◌≤◌, ◌<◌}
use native.Mathlib.Omega.{arith}
use lib.ListN.{length, take, drop, length-drop}
use lib.Seq.{length-take-le}
use lib.Dec.{eqb}
use borrow.Author.Tests.{eq-eqb, ne_eqb, not-true, not-false}
use Rattle.type_book.specs.Book.{blocks, block_of, fields_of, entries_of}
use Rattle.type_block_form.specs.Form.{sum_right, type_form, field_form, entry_form}
use Rattle.type_book_check.specs.Check.{sum_at, sums, place_of, places_onward, placed_from, all_in_place, misplaced_scan, scan_of}
use Rattle.std.specs.Bool.{then_some}
use Rattle.std.specs.Prelude.{Option, Some, None}
use Rattle.type_book_check.specs.declared.BookCheck.{BookCheck}
use Rattle.type_book_check.specs.declared.BookCheck.TheVariants.{Valid, Sum, Form}

module _ (book : List ℕ) (n : ℕ) (l : n < blocks book) where
  long : n * 512 + 512 - n * 512 ≡ 512
  long = omega arith

  pub block-cut : take (n * 512 + 512 - n * 512) (drop (n * 512) book) ≡ block_of book n
  block-cut = rw long

  pub block-length : length (block_of book n) ≡ 512
  block-length = length-take-le 512 (drop (n * 512) book) (rw (length-drop (n * 512) book) (omega arith))

  pub block-whole : length (take (n * 512 + 512 - n * 512) (drop (n * 512) book)) ≡ 512
  block-whole = rw long block-length

-- refusal 2
module _ (book : List ℕ) (i : ℕ) (s : List ℕ) (e : s ≡ block_of book i) (t : Bool) (q : t ≡ sum_right s) where
  pub sum_fails : not t ≡ true → sum_at book i ≡ false
  unfolding sum_at
  sum_fails h = rw (← e, ← q) (not-true t h)

  pub sum-holds : not t ≡ false → sum_at book i ≡ true
  unfolding sum_at
  sum-holds h = rw (← e, ← q) (not-false t h)

-- the block of a place, as the code cuts it, holds its sum
pub sum-there : (book : List ℕ) (i : ℕ) (s : List ℕ) → s ≡ block_of book i → sum_at book i ≡ true → sum_right s ≡ true
unfolding sum_at
sum-there book i s e h = rw e h

-- refusal 3
some-is : (t : Bool) (due : ℕ × ℕ) → then_some t due ≡ cond t (Some due) None
some-is true due = refl
some-is false due = refl

module _ (book : List ℕ) (n f e : ℕ) (s : List ℕ) (q : s ≡ block_of book n) (t : Bool) where
  module _ (l : 0 < f) (o : t ≡ field_form s) where
    field : place_of book n f e ≡ cond t (Some (f - 1, e)) None
    unfolding place_of
    field = let k : f ≡ suc (f - 1) = omega arith in rw (k, o, q, ← k)

    pub place-field : (r : Option (ℕ × ℕ)) → r ≡ then_some t (f - 1, e) → r ≡ place_of book n f e
    place-field r h = h ∙ some-is t (f - 1, e) ∙ sym field

  module _ (l : f ≤ 0) (g : 0 < e) (o : t ≡ entry_form s) where
    entry : place_of book n f e ≡ cond t (Some (0, e - 1)) None
    unfolding place_of
    entry =
        let z : f ≡ 0 = omega arith in
        let k : e ≡ suc (e - 1) = omega arith in
        rw (z, k, o, q, ← k)

    pub place-entry : (r : Option (ℕ × ℕ)) → r ≡ then_some t (0, e - 1) → r ≡ place_of book n f e
    place-entry r h = h ∙ some-is t (0, e - 1) ∙ sym entry

  module _ (l : f ≤ 0) (g : e ≤ 0) (o : t ≡ type_form s) where
    type : place_of book n f e ≡ cond t (Some (fields_of book n, entries_of book n)) None
    unfolding place_of
    type =
        let z : f ≡ 0 = omega arith in
        let k : e ≡ 0 = omega arith in
        rw (z, k, o, q)

    pub place-type : (a b : ℕ) → a ≡ fields_of book n → b ≡ entries_of book n → (r : Option (ℕ × ℕ)) → r ≡ then_some t (a, b) → r ≡ place_of book n f e
    place-type a b x y r h = h ∙ some-is t (a, b) ∙ rw (x, y) (sym type)

module _ (book : List ℕ) where
  pub placed-start : all_in_place book ≡ placed_from book 0 (blocks book - 0) 0 0
  placed-start = let k : blocks book - 0 ≡ blocks book = omega arith in rw k

  module _ (i f e : ℕ) (inv : all_in_place book ≡ placed_from book i (blocks book - i) f e) (m : ℕ) (q : m ≡ blocks book) where
    module _ (l : i < m) (r : Option (ℕ × ℕ)) (o : r ≡ place_of book i f e) where
      next : all_in_place book ≡ places_onward (placed_from book (i + 1) (blocks book - (i + 1))) r
      unfolding placed_from
      next = let k : blocks book - i ≡ suc (blocks book - (i + 1)) = omega arith in inv ∙ rw (k, o)

      pub placed-stop : r ≡ None → all_in_place book ≡ false
      unfolding places_onward
      placed-stop h = next ∙ rw h

      pub placed-again : (f' e' : ℕ) → r ≡ Some (f', e') → all_in_place book ≡ placed_from book (i + 1) (blocks book - (i + 1)) f' e'
      unfolding places_onward
      placed-again f' e' h = next ∙ rw h

    module _ (l : m ≤ i) where
      last : all_in_place book ≡ eqb f 0 && eqb e 0
      unfolding placed_from
      last = let k : blocks book - i ≡ 0 = omega arith in inv ∙ rw k

      pub placed-fields : (f ≡ 0 → ⊥) → false ≡ all_in_place book
      placed-fields h = sym (last ∙ rw (ne_eqb f 0 h))

      module _ (h : f ≡ 0) where
        pub placed-entries : (e ≡ 0 → ⊥) → false ≡ all_in_place book
        placed-entries g = sym (last ∙ rw (eq-eqb f 0 h, ne_eqb e 0 g))

        pub placed_end : e ≡ 0 → true ≡ all_in_place book
        placed_end g = sym (last ∙ rw (eq-eqb f 0 h, eq-eqb e 0 g))

-- 2 before 3
module _ (book : List ℕ) where
  pub scan_sum : false ≡ sums book → Sum ≡ scan_of book
  unfolding scan_of
  scan_sum h = rw (← h)

  pub scan_form : true ≡ sums book → false ≡ all_in_place book → Form ≡ scan_of book
  unfolding scan_of
  scan_form h g = rw (← h, ← g)

  pub scan_right : true ≡ sums book → true ≡ all_in_place book → Valid ≡ scan_of book
  unfolding scan_of
  scan_right h g = rw (← h, ← g)

  pub scan_misplaced : (r : BookCheck) → r ≡ misplaced_scan book → all_in_place book ≡ false → r ≡ scan_of book
  unfolding scan_of misplaced_scan
  scan_misplaced r e h = e ∙ rw h
