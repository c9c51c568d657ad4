-- What a leaf is read as is in the ranges of its record. Assumes nothing.
use Rattle.std.specs.Prelude.{Some}
use mathlib.Core.Path.{◌≡◌, refl, ◌∙◌}
use mathlib.Core.Bool.{Bool, true, false, cond}
use mathlib.Core.List.{List, [], ◌∷◌, flat_map}
use Prim.Native.Nat.{ℕ, zero, suc, ◌+◌, ◌*◌, ◌%◌, ◌^◌, ◌≤◌, ◌<◌}
use native.Mathlib.Omega.{arith}
use native.Mathlib.Nat.{mod-lt}
use borrow.Author.Tests.{eqb-true, eqb-false}
use lib.ListN.{length}
use lib.Dec.{eqb}
use lib.IntN.{ℤ, pos, negsuc}
use lib.Ieee.{binary32, binary64, nan_bits, of_bits, to_bits}
use Rattle.enc_number.specs.Le.{Bytes, le_value}
use Rattle.enc_number.proofs.ByteOrder.{le_value-below, pow_bytes}
use Rattle.type_id.specs.TypeId.{id_of, id_width, id_signed}
use Rattle.type_id.specs.declared.AdsTypeId.{AdsTypeId}
use Rattle.type_id.specs.declared.AdsTypeId.TheVariants.{Void, Int16, Int32, Real32, Real64, Int8, UInt8, UInt16, UInt32, Int64, UInt64, String, WString, Real80, Bit, MaxTypes, BigType, Unknown}
use Rattle.enc_integer.specs.Integer.{twos_complement, twos_bits, bytes_value, integer_of, integer_read_numbers, read_integer, fits_signed}
use Rattle.enc_integer.specs.declared.Integer.TheVariants as integer
use Rattle.enc_integer.specs.declared.IntegerRead.{IntegerRead}
use Rattle.enc_integer.specs.declared.IntegerRead.TheVariants as read
use Rattle.enc_integer.proofs.TwosComplement.{twos_fits}
use Rattle.enc_integer.proofs.Integers.{width_small}
use Rattle.enc_float.specs.Float.{real_width, single_of, double_of, real_of, real_bits, real_read_numbers, read_real}
use Rattle.enc_float.specs.declared.Real.TheVariants as real
use Rattle.enc_float.specs.declared.RealRead.TheVariants as real_read
use Rattle.enc_float.proofs.Reals.{single-back, double-back}
use Rattle.enc_utf_8.specs.Utf8.{utf8_of, no_error, decode_from, well_formed}
use Rattle.enc_utf_8.proofs.Trips.{formed_utf8}
use Rattle.enc_windows_1252.specs.Text as windows1252
use Rattle.enc_windows_1252.specs.Index.{code_point}
use Rattle.enc_utf_16.specs.Decode as utf16
use Rattle.type_book.specs.Book.{blocks, kind_of, is_type, size_of, type_id_of, fields_of, entries_of, value_of, same_name}
use Rattle.type_category.specs.Category.{category_of}
use Rattle.time_types.specs.Counts.{count_width}
use Rattle.type_book_check.specs.Check.{ValidBook}
use Rattle.type_book_check.proofs.Valid.{valid-below, valid-type}
use Rattle.de_leaves.specs.declared.leaf.LeafValue.{LeafValue}
use Rattle.de_leaves.specs.declared.leaf.LeafValue.TheVariants as leaf
use Rattle.de_leaves.specs.declared.leaf.LeafKind.{LeafKind}
use Rattle.de_leaves.specs.declared.leaf.LeafKind.TheVariants as kind
use Rattle.de_leaves.specs.Leaf.{kind_of_leaf, bool_leaf, real_leaf, value_leaf, integer_leaf, real_or, number_leaf, pointer_leaf, text_leaf, entry_from, unlisted, entry_or, enum_leaf, kind_leaf, leaf_by, leaf_at}
use Rattle.enc_text_decoder.specs.Text.{decoded_by}
use Rattle.enc_utf_8_replacing.proofs.Texts as utf8
use Rattle.enc_text_decoder.specs.declared.Decoder.{Decoder}
use Rattle.enc_text_decoder.specs.declared.Decoder.TheVariants as decoder
use Rattle.tape_form.specs.Ranges.{is_width}

-- ---- the ranges of a value

-- a signed integer: the 64 bits of a number that its width holds
pub record SignedFine (w b : ℕ) : Type 0 where
  pub width : is_width w ≡ true
  pub most : w ≤ 8
  pub number : ℤ
  pub fits : fits_signed w number ≡ true
  pub is : b ≡ twos_bits 8 number

-- an unsigned integer that its width holds
pub record UnsignedFine (w n : ℕ) : Type 0 where
  pub width : is_width w ≡ true
  pub most : w ≤ 8
  pub small : n < 2 ^ (8 * w)

-- an entry's block
pub record EntryFine (book : List ℕ) (n : ℕ) : Type 0 where
  pub inside : n < blocks book
  pub entry : kind_of book n ≡ 3

abbrev pub FineBy : List ℕ → LeafValue → Type 0
FineBy book (leaf.Signed w b) = SignedFine w b
FineBy book (leaf.Unsigned w n) = UnsignedFine w n
FineBy book (leaf.Bool b) = Unit {0}
FineBy book (leaf.Single x) = to_bits binary32 x < 2 ^ 32
FineBy book (leaf.Double x) = to_bits binary64 x < 2 ^ 64
FineBy book (leaf.NanSingle n) = n < 2 ^ 32
FineBy book (leaf.NanDouble n) = n < 2 ^ 64
FineBy book (leaf.Text d e) = Unit {0}
FineBy book (leaf.Entry n) = EntryFine book n
FineBy book leaf.Unit = Unit {0}
FineBy book (leaf.Refused k) = Unit {0}

pub record FineValue (book : List ℕ) (v : LeafValue) : Type 0 where
  pub fine : FineBy book v

fine-refused : (book : List ℕ) (k : ℕ) → FineValue book (leaf.Refused k)
fine-refused book k = record { fine = tt }

fine-cond : (book : List ℕ) (b : Bool) (x y : LeafValue) → FineValue book x → FineValue book y → FineValue book (cond b x y)
fine-cond book true x y p q = p
fine-cond book false x y p q = q

-- ---- integers

width_is : (t : AdsTypeId) → (id_width t ≡ 0 → ⊥) → is_width (id_width t) ≡ true
unfolding is_width
width_is Void h = absurd (h refl)
width_is Int16 h = refl
width_is Int32 h = refl
width_is Real32 h = absurd (h refl)
width_is Real64 h = absurd (h refl)
width_is Int8 h = refl
width_is UInt8 h = refl
width_is UInt16 h = refl
width_is UInt32 h = refl
width_is Int64 h = refl
width_is UInt64 h = refl
width_is String h = absurd (h refl)
width_is WString h = absurd (h refl)
width_is Real80 h = absurd (h refl)
width_is Bit h = absurd (h refl)
width_is MaxTypes h = absurd (h refl)
width_is BigType h = absurd (h refl)
width_is (Unknown n) h = absurd (h refl)

-- a number in 64 bits
pub bits_small : (z : ℤ) → twos_bits 8 z < 2 ^ 64
unfolding twos_bits
bits_small (pos n) = mod-lt n (omega arith)
bits_small (negsuc n) = omega arith

bytes_small : (w : ℕ) (mem : List ℕ) → Bytes mem → length mem ≡ w → le_value mem < 2 ^ (8 * w)
bytes_small w mem b e = rw (← pow_bytes w) (le_value-below w mem b (omega (arith, e)))

module _ (book : List ℕ) (mem : List ℕ) (b : Bytes mem) where
  module _ (t : AdsTypeId) where
    integer_fine_lem : (id_width t ≡ 0 → ⊥) → length mem ≡ id_width t → FineValue book (value_leaf (integer_of t mem))
    unfolding integer_of bytes_value
    integer_fine_lem h l = by (id_signed t)
      where
        by : (s : Bool) → FineValue book (value_leaf (cond s
            (integer.Signed (id_width t) (twos_bits 8 (cond s (twos_complement (id_width t) (le_value mem)) (pos (le_value mem)))))
            (integer.Unsigned (id_width t) (le_value mem))))
        by true =
            record {
              fine = record {
                width = width_is t h;
                most = width_small t;
                number = twos_complement (id_width t) (le_value mem);
                fits = twos_fits (id_width t) (le_value mem) (bytes_small (id_width t) mem b l) (omega (arith, h));
                is = refl;
              };
            }
        by false = record { fine = record { width = width_is t h; most = width_small t; small = bytes_small (id_width t) mem b l } }

    pub read_fine : FineValue book (integer_leaf (read_integer t mem))
    unfolding read_integer integer_read_numbers integer_leaf
    read_fine = by (eqb (id_width t) 0) refl (eqb (length mem) (id_width t)) refl
      where
        by : (x : Bool) → eqb (id_width t) 0 ≡ x → (y : Bool) → eqb (length mem) (id_width t) ≡ y
            → FineValue book (integer_leaf (cond x read.Unsupported (cond y (read.Value (integer_of t mem)) read.Size)))
        by true f y g = fine-refused book 11
        by false f true g = integer_fine_lem (eqb-false (id_width t) 0 f) (eqb-true (length mem) (id_width t) g)
        by false f false g = fine-refused book 10

  -- ---- reals

  single-fine : (n : ℕ) → n < 2 ^ 32 → FineValue book (real_leaf (single_of n))
  unfolding single_of
  single-fine n l = by (nan_bits binary32 n) (single-back n l)
    where
      by : (x : Bool) → real_bits (cond x (real.NanSingle n) (real.Single (of_bits binary32 n))) ≡ n
          → FineValue book (real_leaf (cond x (real.NanSingle n) (real.Single (of_bits binary32 n))))
      by true e = record { fine = l }
      by false e = record { fine = rw e l }

  double-fine : (n : ℕ) → n < 2 ^ 64 → FineValue book (real_leaf (double_of n))
  unfolding double_of
  double-fine n l = by (nan_bits binary64 n) (double-back n l)
    where
      by : (x : Bool) → real_bits (cond x (real.NanDouble n) (real.Double (of_bits binary64 n))) ≡ n
          → FineValue book (real_leaf (cond x (real.NanDouble n) (real.Double (of_bits binary64 n))))
      by true e = record { fine = l }
      by false e = record { fine = rw e l }

  real_fine : (d : Bool) → (d ≡ true → length mem ≡ 8) → FineValue book (real_leaf (real_of d (le_value mem)))
  unfolding real_of
  real_fine true h = double-fine (le_value mem) (bytes_small 8 mem b (h refl))
  real_fine false h = single-fine (le_value mem % 2 ^ 32) (mod-lt (le_value mem) (omega arith))

  real_or_lem : (t : AdsTypeId) (other : LeafValue) → FineValue book other → FineValue book (real_or (read_real t mem) other)
  unfolding read_real real_read_numbers real_or
  real_or_lem t other p = by (eqb (real_width t) 0) (eqb (length mem) (real_width t)) refl
    where
      by : (x y : Bool) → eqb (length mem) (real_width t) ≡ y
          → FineValue book (real_or (cond x real_read.Unsupported (cond y (real_read.Value (real_of (eqb (real_width t) 8) (le_value mem))) real_read.Size)) other)
      by true y g = p
      by false true g = real_fine (eqb (real_width t) 8) (λ h. eqb-true (length mem) (real_width t) g ∙ eqb-true (real_width t) 8 h)
      by false false g = fine-refused book 10

  -- ---- the rest

  bool-fine : FineValue book (bool_leaf mem)
  unfolding bool_leaf
  bool-fine = fine-cond book (eqb (length mem) 1) _ _ (record { fine = tt }) (fine-refused book 10)

  number-fine : (t : ℕ) → FineValue book (number_leaf book t mem)
  unfolding number_leaf
  number-fine t = fine-cond book (eqb (type_id_of book t) 33) _ _ bool-fine (real_or_lem (id_of (type_id_of book t)) _ (read_fine (id_of (type_id_of book t))))

  pointer_fine : (width : ℕ) → FineValue book (pointer_leaf width mem)
  unfolding pointer_leaf
  pointer_fine width =
      fine-cond book (eqb width 2) _ _ (read_fine UInt16)
      (fine-cond book (eqb width 4) _ _ (read_fine UInt32) (fine-cond book (eqb width 8) _ _ (read_fine UInt64) (fine-refused book 13)))

  text-fine : (t : ℕ) → FineValue book (text_leaf book t mem)
  unfolding text_leaf
  text-fine t =
      fine-cond book (eqb (length mem) (size_of book t)) _ _ (record { fine = tt }) (fine-refused book 10)

  unlisted-fine : (r : IntegerRead) → FineValue book (unlisted r)
  unfolding unlisted integer_read_numbers
  unlisted-fine (read.Value v) = fine-refused book 12
  unlisted-fine read.Size = fine-refused book 10
  unlisted-fine read.Unsupported = fine-refused book 11

  entry-fine : (other : LeafValue) → FineValue book other → (n k : ℕ) → ((j : ℕ) → j < k → EntryFine book (n + j)) → FineValue book (entry_or (entry_from book mem n k) other)
  unfolding entry_from
  entry-fine other p n zero h = p
  entry-fine other p n (suc k) h =
      by (same_name (value_of book n) mem)
      (entry-fine other p (n + 1) k (λ j l. let e : n + suc j ≡ n + 1 + j = omega arith in rw e at (h (suc j) (omega arith))))
    where
      by : (x : Bool) → FineValue book (entry_or (entry_from book mem (n + 1) k) other) → FineValue book (entry_or (cond x (Some n) (entry_from book mem (n + 1) k)) other)
      by true q = record { fine = let e : n + 0 ≡ n = omega arith in rw e at (h 0 (omega arith)) }
      by false q = q

  module _ (valid : ValidBook book) (width t : ℕ) (y : is_type book t ≡ true) where
    pub enum-fine : FineValue book (enum_leaf book t mem)
    unfolding enum_leaf
    enum-fine =
        let d = valid-type book valid t y in
        fine-cond book (eqb (length mem) (size_of book t)) _ _
        (entry-fine _ (unlisted-fine (read_integer (id_of (type_id_of book t)) mem)) (t + 1 + fields_of book t) (entries_of book t)
        (λ j l. let e = (d.entries j l).kind in record { inside = valid-below book valid (t + 1 + fields_of book t + j) 2 e; entry = e }))
        (fine-refused book 10)

    leaf-by-fine : (k : LeafKind) → FineValue book (kind_leaf book width t mem k)
    unfolding kind_leaf
    leaf-by-fine kind.Number = number-fine t
    leaf-by-fine kind.Text = text-fine t
    leaf-by-fine kind.Enum = enum-fine
    leaf-by-fine kind.Pointer = pointer_fine width
    leaf-by-fine kind.Unit = record { fine = tt }
    leaf-by-fine kind.None = fine-refused book 11

    -- what a leaf of a valid book's type is read as
    pub leaf-fine : FineValue book (leaf_at book width t mem)
    unfolding leaf_at leaf_by
    leaf-fine =
        fine-cond book (eqb (count_width book t (category_of book width t)) 0) _ _ (leaf-by-fine (kind_of_leaf (category_of book width t)))
        (pointer_fine (count_width book t (category_of book width t)))

-- ---- a decoded text is UTF-8

none-formed : well_formed [] ≡ true
unfolding no_error decode_from
none-formed = refl

scalars-formed : (cs : List ℕ) → well_formed (flat_map utf8_of cs) ≡ true
unfolding flat_map
scalars-formed [] = none-formed
scalars-formed (c ∷ cs) = formed_utf8 c (flat_map utf8_of cs) ∙ scalars-formed cs

bytes-formed : (bs : List ℕ) → well_formed (flat_map windows1252.decode_byte bs) ≡ true
unfolding flat_map
bytes-formed [] = none-formed
bytes-formed (x ∷ bs) = formed_utf8 (code_point x) (flat_map windows1252.decode_byte bs) ∙ bytes-formed bs

pub decoded_formed : (d : Decoder) (bytes : List ℕ) → well_formed (decoded_by d bytes) ≡ true
unfolding decoded_by windows1252.decode_text
decoded_formed decoder.Utf16 bytes = scalars-formed (utf16.decode_scalars bytes)
decoded_formed decoder.Windows1252 bytes = bytes-formed bytes
decoded_formed decoder.Utf8 bytes = utf8.decode-formed bytes
