-- Blocks of a valid book: where types and fields stand, which blocks name a type as a part, and names among the listed. Assumes nothing.
use mathlib.Core.Path.{◌≡◌, sym, ◌∙◌}
use mathlib.Core.Bool.{Bool, true, false, not, ◌||◌}
use mathlib.Core.List.{List}
use Prim.Native.Nat.{ℕ, ◌+◌, ◌*◌, ◌%◌, ◌≤◌, ◌<◌}
use native.Mathlib.Omega.{arith}
use native.Mathlib.Numerals.{add-one}
use lib.ListN.{length, get_or, drop, drop_of_length-le}
use lib.Seq.{drop-cons}
use lib.Dec.{ltb}
use borrow.Author.Tests.{eqb-true}
use mir.Syntax.{w32}
use mir.Val.{Fits}
use Rattle.type_book.specs.Book.{blocks, kind_of, is_type, dimensions_of, fields_of, type_name_of, same_name}
use Rattle.type_marks.specs.Marks.{hash_of}
use Rattle.type_book_check.specs.Check.{ValidBook}
use Rattle.type_book_check.proofs.Valid.{valid-size, valid-below, valid-type}
use Rattle.resolve_walk_scratch.specs.Scratch.{marked_in, lacking_bit, is_part, names_it, has_ref, was_listed, BitIn}

-- ---- types and their fields

module _ (book : List ℕ) (t : ℕ) (v : ValidBook book) (y : is_type book t ≡ true) where
  pub type-below : t < 65536
  type-below =
      let b : t < blocks book = valid-below book v t 0 (eqb-true (kind_of book t) 1 y) in
      let f : blocks book ≤ 65536 = (valid-size book v).few in
      omega arith

  -- its bit stands in the scratch
  pub type_bit : (sc : List ℕ) → 6144 ≤ length sc → BitIn sc t
  type_bit sc z = let b = type-below in record { low = omega arith; room = omega arith }

  pub fields-below : (n : ℕ) → n ≡ fields_of book t → n < 65536
  fields-below n e =
      let b = (valid-type book v t y).room in
      let f : blocks book ≤ 65536 = (valid-size book v).few in
      omega arith

  -- the entries of a type on the stack are numbers of 32 bits
  pub own-entry : Fits w32 (t * 65536)
  own-entry = record { fits = omega (arith, type-below) }

  pub fields-entry : (n : ℕ) → n ≡ fields_of book t → Fits w32 (t * 65536 + n)
  fields-entry n e = record { fits = omega (arith, type-below, fields-below n e) }

-- ---- parts

module _ (book : List ℕ) (b : ℕ) (t : Bool) (et : t ≡ is_type book b) where
  pub part_field : not t ≡ true → not t ≡ is_part book b
  unfolding is_part
  part_field h = rw (← et, h)

  pub part-dimensions : not t ≡ false → (n : ℕ) → n ≡ dimensions_of book b → ltb 0 n ≡ is_part book b
  unfolding is_part
  part-dimensions h n en = rw (← et, h, ← en)

-- ---- names among the listed

module _ (book : List ℕ) (b : ℕ) (name : List ℕ) (s : List ℕ) (es : s ≡ type_name_of book b) (g : Bool) (eg : g ≡ same_name s name) where
  pub names_same : g ≡ true → (r : Bool) → r ≡ is_part book b → r ≡ names_it book b name
  unfolding names_it
  names_same h r er = rw (← es, ← eg, h) er

  pub names-other : g ≡ false → g ≡ names_it book b name
  unfolding names_it
  names-other h = rw (← es, ← eg, h)

module _ (book bs name : List ℕ) where
  module _ (i : ℕ) (inv : has_ref book bs name ≡ has_ref book (drop i bs) name) where
    module _ (l : i < length bs) (g : Bool) (eg : g ≡ names_it book (get_or bs i 0) name) where
      turn : has_ref book bs name ≡ g || has_ref book (drop (i + 1) bs) name
      unfolding has_ref
      turn = inv ∙ rw (add-one, drop-cons bs i 0 l, eg)

      pub in_here : g ≡ true → true ≡ has_ref book bs name
      in_here h = sym (turn ∙ rw h)

      pub in_again : g ≡ false → has_ref book bs name ≡ has_ref book (drop (i + 1) bs) name
      in_again h = turn ∙ rw h

    pub in_none : length bs ≤ i → false ≡ has_ref book bs name
    unfolding has_ref
    in_none h = sym (inv ∙ rw (drop_of_length-le bs h))

-- ---- the bit of a name that the book lacks

pub bit_is : (name : List ℕ) (h : ℕ) → h ≡ hash_of name → 65536 + h % 65536 ≡ lacking_bit name
unfolding lacking_bit
bit_is name h e = rw e

-- no block has it
pub bit_past : (name : List ℕ) → 65536 ≤ lacking_bit name
unfolding lacking_bit
bit_past name = omega arith

pub bit_in : (sc name : List ℕ) (b : ℕ) → b ≡ lacking_bit name → 8192 ≤ length sc → BitIn sc b
unfolding lacking_bit
bit_in sc name b e z = record { low = rw e (omega arith); room = rw e (omega arith) }

module _ (book sc ls name : List ℕ) (b : ℕ) (eb : b ≡ lacking_bit name) (g : Bool) (eg : g ≡ marked_in sc b) where
  pub listed_maybe : g ≡ true → (r : Bool) → r ≡ has_ref book ls name → r ≡ was_listed book sc ls name
  unfolding was_listed
  listed_maybe h r er = rw (← eb, ← eg, h) er

  pub listed-not : g ≡ false → g ≡ was_listed book sc ls name
  unfolding was_listed
  listed-not h = rw (← eb, ← eg, h)
