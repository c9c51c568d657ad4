-- A definition and its blocks: the relation `Same` between two books, and what it says. Only this module opens `definition_of`. Assumes nothing.
use mathlib.Core.Path.{◌≡◌, refl, sym, ap, ◌∙◌}
use mathlib.Core.Bool.{true}
use mathlib.Core.List.{List, [], ◌∷◌, ◌++◌}
use Prim.Native.Nat.{ℕ, zero, suc, ◌+◌, ◌*◌, ◌≤◌, ◌<◌}
use native.Mathlib.Omega.{arith}
use lib.ListN.{length, take, drop, length-drop}
use lib.Seq.{take-take, drop-drop, length-take-le, take-append-le, drop-append-le, drop-append_seam}
use Rattle.type_book.specs.Book.{block_of, byte_at, kind_of, is_type, dimensions_of, type_id_of, offset_of, size_of, fields_of, entries_of, count_of, value_of, name_of, type_name_of}
use Rattle.type_book.proofs.Blocks.{same_byte, same-u32, same-counted}
use Rattle.type_category.specs.Category.{category_of}
use Rattle.type_category.proofs.Categories.{alike, category-alike}
use Rattle.type_book_check.specs.Check.{ValidBook}
use Rattle.type_book_check.proofs.Valid.{Names, IsEntry, Definition, valid-type}
use Rattle.type_cache.specs.Same.{blocks_of, definition_of, Same}

-- ---- the bytes of a definition
-- a part that ends within the first w elements is a part of these
within : (len k w : ℕ) (s : List ℕ) → k + len ≤ w → take len (drop k (take w s)) ≡ take len (drop k s)
within len zero w s h = take-take len w s (omega arith)
within len (suc k) zero s h = absurd (omega arith)
within len (suc k) (suc w) [] h = refl
within len (suc k) (suc w) (x ∷ xs) h = within len k w xs (omega arith)

module _ (book : List ℕ) (n : ℕ) where
  pub definition_block : (j : ℕ) → j < blocks_of book n → block_of (definition_of book n) j ≡ block_of book (n + j)
  unfolding definition_of
  definition_block j l =
      let q : n * 512 + j * 512 ≡ (n + j) * 512 = omega arith in
      within 512 (j * 512) (blocks_of book n * 512) (drop (n * 512) book) (omega arith) ∙ rw (drop-drop (j * 512) (n * 512) book, q)

  pub definition_first : block_of (definition_of book n) 0 ≡ block_of book n
  definition_first = let q : n + 0 ≡ n = omega arith in definition_block 0 (omega arith) ∙ rw q

  pub definition_length : (n + blocks_of book n) * 512 ≤ length book → length (definition_of book n) ≡ blocks_of book n * 512
  unfolding definition_of
  definition_length h = length-take-le (blocks_of book n * 512) (drop (n * 512) book) (rw (length-drop (n * 512) book) (omega arith))

  -- a definition within a book stays when the book is added to
  pub definition_kept : (more : List ℕ) → blocks_of (book ++ more) n ≡ blocks_of book n → (n + blocks_of book n) * 512 ≤ length book
      → definition_of (book ++ more) n ≡ definition_of book n
  unfolding definition_of
  definition_kept more e h =
      let k : blocks_of book n * 512 ≤ length (drop (n * 512) book) = rw (length-drop (n * 512) book) (omega arith) in
      rw (e, drop-append-le (n * 512) book more (omega arith), take-append-le (blocks_of book n * 512) (drop (n * 512) book) more k)

-- a definition that is added to a book of n blocks is that of block n
pub definition_added : (book c : List ℕ) (m n : ℕ) → length book ≡ n * 512 → blocks_of (book ++ definition_of c m) n ≡ blocks_of c m
    → definition_of (book ++ definition_of c m) n ≡ definition_of c m
unfolding definition_of
definition_added book c m n w e =
    let d : drop (n * 512) (book ++ take (blocks_of c m * 512) (drop (m * 512) c)) ≡ take (blocks_of c m * 512) (drop (m * 512) c) =
    rw (← w) (drop-append_seam book _) in
    rw (e, d) (take-take (blocks_of c m * 512) (blocks_of c m * 512) (drop (m * 512) c) (omega arith))

-- ---- equal definitions
pub same_refl : (a : List ℕ) (m : ℕ) → Same a m a m
same_refl a m = record { bytes = refl }

pub same-sym : (a b : List ℕ) (m n : ℕ) → Same a m b n → Same b n a m
same-sym a b m n s = record { bytes = sym s.bytes }

pub same_trans : (a b c : List ℕ) (m n k : ℕ) → Same a m b n → Same b n c k → Same a m c k
same_trans a b c m n k s t = record { bytes = s.bytes ∙ t.bytes }

-- the number of blocks is said by the first one
pub blocks-same : (a b : List ℕ) (m n : ℕ) → block_of a m ≡ block_of b n → blocks_of a m ≡ blocks_of b n
blocks-same a b m n e = rw (same-u32 a b m n e 12 (omega arith), same-u32 a b m n e 16 (omega arith))

module _ (a b : List ℕ) (m n : ℕ) (s : Same a m b n) where
  pub same_first : block_of a m ≡ block_of b n
  same_first = sym (definition_first a m) ∙ ap (λ (d : List ℕ). block_of d 0) s.bytes ∙ definition_first b n

  pub same_block : (j : ℕ) → j < blocks_of a m → block_of a (m + j) ≡ block_of b (n + j)
  same_block j l =
      let q : blocks_of a m ≡ blocks_of b n = blocks-same a b m n same_first in
      sym (definition_block a m j l) ∙ ap (λ (d : List ℕ). block_of d j) s.bytes ∙ definition_block b n j (omega arith)

-- ---- what equal definitions say
pub record SameType (a : List ℕ) (m : ℕ) (b : List ℕ) (n : ℕ) : Type 0 where
  pub kind : kind_of a m ≡ kind_of b n
  pub flags : byte_at a m 1 ≡ byte_at b n 1
  pub dimensions : dimensions_of a m ≡ dimensions_of b n
  pub type_id : type_id_of a m ≡ type_id_of b n
  pub size : size_of a m ≡ size_of b n
  pub fields : fields_of a m ≡ fields_of b n
  pub entries : entries_of a m ≡ entries_of b n
  pub counts : (i : ℕ) → i < 8 → count_of a m i ≡ count_of b n i
  pub name : name_of a m ≡ name_of b n
  pub type-name : type_name_of a m ≡ type_name_of b n
  pub category : (width : ℕ) → category_of a width m ≡ category_of b width n

pub record SameField (a : List ℕ) (m : ℕ) (b : List ℕ) (n : ℕ) : Type 0 where
  pub offset : offset_of a m ≡ offset_of b n
  pub size : size_of a m ≡ size_of b n
  pub name : name_of a m ≡ name_of b n
  pub type-name : type_name_of a m ≡ type_name_of b n

pub record SameEntry (a : List ℕ) (m : ℕ) (b : List ℕ) (n : ℕ) : Type 0 where
  pub value : value_of a m ≡ value_of b n
  pub name : name_of a m ≡ name_of b n

-- blocks of the same bytes have the same names
module _ (a b : List ℕ) (m n : ℕ) (e : block_of a m ≡ block_of b n) (s : Names a m) where
  pub names_same : name_of a m ≡ name_of b n
  names_same = same-counted a b m n e 52 54 (omega arith) (omega (arith, s.name.short))

  pub type-names-same : type_name_of a m ≡ type_name_of b n
  type-names-same = same-counted a b m n e 53 254 (omega arith) (omega (arith, s.type-name.short))

module _ (a b : List ℕ) (m n : ℕ) (v : ValidBook a) (t : is_type a m ≡ true) (s : Same a m b n) where
  whole : Definition a m
  whole = valid-type a v m t

  first : block_of a m ≡ block_of b n
  first = same_first a b m n s

  pub same-type : SameType a m b n
  same-type =
      record {
        kind = same_byte a b m n first 0 (omega arith);
        flags = same_byte a b m n first 1 (omega arith);
        dimensions = same_byte a b m n first 2 (omega arith);
        type_id = same-u32 a b m n first 4 (omega arith);
        size = same-u32 a b m n first 8 (omega arith);
        fields = same-u32 a b m n first 12 (omega arith);
        entries = same-u32 a b m n first 16 (omega arith);
        counts = λ i l. same-u32 a b m n first (20 + 4 * i) (omega arith);
        name = names_same a b m n first whole.is.names;
        type-name = type-names-same a b m n first whole.is.names;
        category = category-alike a m b n
            (alike a b m n
            (omega (arith, whole.is.names.name.short))
            (omega (arith, whole.is.names.type-name.short))
            first
            (λ l. same_block a b m n s 1 (omega arith))
            (λ l. same_block a b m n s 2 (omega arith)));
      }

  pub same-field : (j : ℕ) → j < fields_of a m → SameField a (m + 1 + j) b (n + 1 + j)
  same-field j l =
      let p : m + (1 + j) ≡ m + 1 + j = omega arith in
      let q : n + (1 + j) ≡ n + 1 + j = omega arith in
      let e : block_of a (m + 1 + j) ≡ block_of b (n + 1 + j) = rw (p, q) at (same_block a b m n s (1 + j) (omega arith)) in
      record {
        offset = same-u32 a b (m + 1 + j) (n + 1 + j) e 4 (omega arith);
        size = same-u32 a b (m + 1 + j) (n + 1 + j) e 8 (omega arith);
        name = names_same a b (m + 1 + j) (n + 1 + j) e (whole.fields j l).names;
        type-name = type-names-same a b (m + 1 + j) (n + 1 + j) e (whole.fields j l).names;
      }

  pub same-entry : (j : ℕ) → j < entries_of a m → SameEntry a (m + 1 + fields_of a m + j) b (n + 1 + fields_of b n + j)
  same-entry j l =
      let f : fields_of a m ≡ fields_of b n = same-u32 a b m n first 12 (omega arith) in
      let p : m + (1 + fields_of a m + j) ≡ m + 1 + fields_of a m + j = omega arith in
      let q : n + (1 + fields_of a m + j) ≡ n + 1 + fields_of b n + j = omega arith in
      let e : block_of a (m + 1 + fields_of a m + j) ≡ block_of b (n + 1 + fields_of b n + j) =
      rw (p, q) at (same_block a b m n s (1 + fields_of a m + j) (omega arith)) in
      let i : IsEntry a (m + 1 + fields_of a m + j) = whole.entries j l in
      record {
        value = same-counted a b _ _ e 1 20 (omega arith) (omega (arith, i.value));
        name = names_same a b _ _ e i.names;
      }
