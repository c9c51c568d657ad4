-- What a leaf is at each exit of each function. Assumes nothing.
use Rattle.std.specs.Prelude.{Option, Some, None}
use mathlib.Core.Path.{◌≡◌, sym, ap, ◌∙◌}
use mathlib.Core.Bool.{Bool, true, false, cond, not}
use mathlib.Core.List.{List}
use Prim.Native.Nat.{ℕ, suc, ◌+◌, ◌-◌, ◌≤◌, ◌<◌}
use native.Mathlib.Omega.{arith}
use lib.ListN.{length, get_or}
use lib.Dec.{eqb}
use lib.Ieee.{Float}
use borrow.Author.Tests.{eq-eqb, ne_eqb}
use Rattle.type_id.specs.TypeId.{id_of, number_of}
use Rattle.type_id.proofs.TypeIds.{number_of_id}
use Rattle.enc_integer.specs.Integer.{read_integer}
use Rattle.enc_integer.proofs.Numbers.{read_size-number, read_unsupported_number}
use Rattle.enc_float.specs.Float.{read_real}
use Rattle.enc_float.proofs.Numbers.{real_size-number}
use Rattle.type_id.specs.declared.AdsTypeId.{AdsTypeId}
use Rattle.type_id.specs.declared.AdsTypeId.TheVariants.{UInt16, UInt32, UInt64}
use Rattle.enc_integer.specs.declared.Integer.{Integer}
use Rattle.enc_integer.specs.declared.Integer.TheVariants as integer
use Rattle.enc_integer.specs.declared.IntegerRead.{IntegerRead}
use Rattle.enc_integer.specs.declared.IntegerRead.TheVariants as read
use Rattle.enc_float.specs.declared.Real.{Real}
use Rattle.enc_float.specs.declared.Real.TheVariants as real
use Rattle.enc_float.specs.declared.RealRead.{RealRead}
use Rattle.enc_float.specs.declared.RealRead.TheVariants as real_read
use Rattle.enc_utf_8.specs.declared.TextEnd.{TextEnd}
use Rattle.enc_text_decoder.specs.Text.{end_by}
use Rattle.enc_text_decoder.specs.declared.Decoder.{Decoder}
use Rattle.enc_text_decoder.specs.declared.Decoder.TheVariants as decoder
use Rattle.type_book.specs.Book.{flag_of, size_of, type_id_of, fields_of, entries_of, value_of, same_name}
use Rattle.type_category.specs.Category.{category_of}
use Rattle.time_types.specs.Counts.{count_width}
use Rattle.type_category.specs.declared.type_category.AdsTypeCategory.{AdsTypeCategory}
use Rattle.de_leaves.specs.declared.leaf.LeafValue.{LeafValue}
use Rattle.de_leaves.specs.declared.leaf.LeafValue.TheVariants as leaf
use Rattle.de_leaves.specs.declared.leaf.LeafKind.{LeafKind}
use Rattle.de_leaves.specs.declared.leaf.LeafKind.TheVariants as kind
use Rattle.de_leaves.specs.Leaf.{kind_of_leaf, bool_leaf, real_leaf, integer_leaf, real_or, number_leaf, pointer_leaf, decoder_of, text_leaf, entry_from, unlisted, entry_or, enum_leaf, kind_leaf, leaf_by, leaf_at}

-- ---- a bool

pub bool-size : (mem : List ℕ) → (length mem ≡ 1 → ⊥) → leaf.Refused 10 ≡ bool_leaf mem
unfolding bool_leaf
bool-size mem h = rw (ne_eqb (length mem) 1 h)

pub bool_is : (mem : List ℕ) → length mem ≡ 1 → leaf.Bool (not (eqb (get_or mem 0 0) 0)) ≡ bool_leaf mem
unfolding bool_leaf
bool_is mem h = rw (eq-eqb (length mem) 1 h)

-- the one byte is there
pub bool-first : (mem : List ℕ) → length mem ≡ 1 → 0 < length mem
bool-first mem h = omega arith

-- ---- reals and integers

pub real_single : {v : Real} (x : Float) → v ≡ real.Single x → leaf.Single x ≡ real_leaf v
real_single x e = rw e

pub real_double : {v : Real} (x : Float) → v ≡ real.Double x → leaf.Double x ≡ real_leaf v
real_double x e = rw e

pub real_nan-single : {v : Real} (n : ℕ) → v ≡ real.NanSingle n → leaf.NanSingle n ≡ real_leaf v
real_nan-single n e = rw e

pub real_nan-double : {v : Real} (n : ℕ) → v ≡ real.NanDouble n → leaf.NanDouble n ≡ real_leaf v
real_nan-double n e = rw e

pub integer_signed : {r : IntegerRead} {v : Integer} (w b : ℕ) → r ≡ read.Value v → v ≡ integer.Signed w b → leaf.Signed w b ≡ integer_leaf r
unfolding integer_leaf
integer_signed w b e q = rw (e, q)

pub integer_unsigned : {r : IntegerRead} {v : Integer} (w n : ℕ) → r ≡ read.Value v → v ≡ integer.Unsigned w n → leaf.Unsigned w n ≡ integer_leaf r
unfolding integer_leaf
integer_unsigned w n e q = rw (e, q)

pub integer_size : {r : IntegerRead} → r ≡ read.Size → leaf.Refused 10 ≡ integer_leaf r
unfolding integer_leaf
integer_size e = rw (e, read_size-number)

pub integer_id : {r : IntegerRead} → r ≡ read.Unsupported → leaf.Refused 11 ≡ integer_leaf r
unfolding integer_leaf
integer_id e = rw (e, read_unsupported_number)

pub unlisted-value : {r : IntegerRead} (v : Integer) → r ≡ read.Value v → leaf.Refused 12 ≡ unlisted r
unfolding unlisted
unlisted-value v e = rw e

pub unlisted-size : {r : IntegerRead} → r ≡ read.Size → leaf.Refused 10 ≡ unlisted r
unfolding unlisted
unlisted-size e = rw (e, read_size-number)

pub unlisted_id : {r : IntegerRead} → r ≡ read.Unsupported → leaf.Refused 11 ≡ unlisted r
unfolding unlisted
unlisted_id e = rw (e, read_unsupported_number)

-- ---- a number by its id

module _ (book : List ℕ) (t : ℕ) (mem : List ℕ) (id : AdsTypeId) (ei : id ≡ id_of (type_id_of book t)) (n : ℕ) (en : n ≡ number_of id) (r : LeafValue) where
  number_is : n ≡ type_id_of book t
  number_is = en ∙ ap number_of ei ∙ number_of_id (type_id_of book t)

  pub number-bool : n ≡ 33 → r ≡ bool_leaf mem → r ≡ number_leaf book t mem
  unfolding number_leaf
  number-bool h e = let q : type_id_of book t ≡ 33 = sym number_is ∙ h in rw (eq-eqb (type_id_of book t) 33 q) e

  module _ (h : n ≡ 33 → ⊥) (f : RealRead) (ef : f ≡ read_real id mem) where
    pub number_by : r ≡ real_or f (integer_leaf (read_integer id mem)) → r ≡ number_leaf book t mem
    unfolding number_leaf
    number_by e = rw (ne_eqb (type_id_of book t) 33 (λ q. h (number_is ∙ q)), ← ei, ← ef) e

    pub number_real : (v : Real) → f ≡ real_read.Value v → r ≡ real_leaf v → r ≡ number_leaf book t mem
    unfolding real_or
    number_real v q e = number_by (rw q e)

    pub number_size : f ≡ real_read.Size → r ≡ leaf.Refused 10 → r ≡ number_leaf book t mem
    unfolding real_or
    number_size q e = number_by (rw (q, real_size-number) e)

    pub number_integer : f ≡ real_read.Unsupported → (i : IntegerRead) → i ≡ read_integer id mem → r ≡ integer_leaf i → r ≡ number_leaf book t mem
    unfolding real_or
    number_integer q i ei e = number_by (rw (q, ← ei) e)

-- ---- a pointer

module _ (width : ℕ) (mem : List ℕ) (r : LeafValue) where
  pub pointer_two : width ≡ 2 → (i : IntegerRead) → i ≡ read_integer UInt16 mem → r ≡ integer_leaf i → r ≡ pointer_leaf width mem
  unfolding pointer_leaf
  pointer_two h i ei e = rw (h, ← ei) e

  pub pointer_four : width ≡ 4 → (i : IntegerRead) → i ≡ read_integer UInt32 mem → r ≡ integer_leaf i → r ≡ pointer_leaf width mem
  unfolding pointer_leaf
  pointer_four h i ei e = rw (h, ← ei) e

  pub pointer_eight : width ≡ 8 → (i : IntegerRead) → i ≡ read_integer UInt64 mem → r ≡ integer_leaf i → r ≡ pointer_leaf width mem
  unfolding pointer_leaf
  pointer_eight h i ei e = rw (h, ← ei) e

  pub pointer_other : (width ≡ 2 → ⊥) → (width ≡ 4 → ⊥) → (width ≡ 8 → ⊥) → r ≡ leaf.Refused 13 → r ≡ pointer_leaf width mem
  unfolding pointer_leaf
  pointer_other n2 n4 n8 e = rw (ne_eqb width 2 n2, ne_eqb width 4 n4, ne_eqb width 8 n8) e

-- ---- a text

module _ (book : List ℕ) (t : ℕ) (id : AdsTypeId) (ei : id ≡ id_of (type_id_of book t)) (n : ℕ) (en : n ≡ number_of id) where
  id_is : n ≡ type_id_of book t
  id_is = en ∙ ap number_of ei ∙ number_of_id (type_id_of book t)

  pub decoder_wide : n ≡ 31 → decoder.Utf16 ≡ decoder_of book t
  unfolding decoder_of
  decoder_wide h = rw (eq-eqb (type_id_of book t) 31 (sym id_is ∙ h))

  module _ (h : n ≡ 31 → ⊥) (m : Bool) (em : m ≡ flag_of book t 5) where
    pub decoder_marked : m ≡ true → decoder.Utf8 ≡ decoder_of book t
    unfolding decoder_of
    decoder_marked q = rw (ne_eqb (type_id_of book t) 31 (λ z. h (id_is ∙ z)), ← em, q)

    pub decoder_narrow : m ≡ false → decoder.Windows1252 ≡ decoder_of book t
    unfolding decoder_of
    decoder_narrow q = rw (ne_eqb (type_id_of book t) 31 (λ z. h (id_is ∙ z)), ← em, q)

module _ (book : List ℕ) (t : ℕ) (mem : List ℕ) (size : ℕ) (es : size ≡ size_of book t) where
  pub text-size : (length mem ≡ size → ⊥) → leaf.Refused 10 ≡ text_leaf book t mem
  unfolding text_leaf
  text-size h = rw (← es, ne_eqb (length mem) size h)

  pub text-is : length mem ≡ size → (d : Decoder) → d ≡ decoder_of book t → (e : TextEnd) → e ≡ end_by d mem → leaf.Text d e ≡ text_leaf book t mem
  unfolding text_leaf
  text-is h d ed e ee = rw (← es, eq-eqb (length mem) size h, ← ed, ← ee)

-- ---- an enum

module _ (book mem : List ℕ) (n k : ℕ) where
  pub entry-start : entry_from book mem n k ≡ entry_from book mem n (n + k - n)
  entry-start = let e : n + k - n ≡ k = omega arith in rw e

  module _ (i : ℕ) (inv : entry_from book mem n k ≡ entry_from book mem i (n + k - i)) where
    module _ (l : i < n + k) (v : List ℕ) (ev : v ≡ value_of book i) (b : Bool) (eb : b ≡ same_name v mem) where
      entry-turn : entry_from book mem n k ≡ cond b (Some i) (entry_from book mem (i + 1) (n + k - (i + 1)))
      unfolding entry_from
      entry-turn = let z : n + k - i ≡ suc (n + k - (i + 1)) = omega arith in inv ∙ rw (z, eb, ev)

      pub entry_here : b ≡ true → Some i ≡ entry_from book mem n k
      entry_here h = sym (entry-turn ∙ rw h)

      pub entry-again : b ≡ false → entry_from book mem n k ≡ entry_from book mem (i + 1) (n + k - (i + 1))
      entry-again h = entry-turn ∙ rw h

    pub entry-none : n + k ≤ i → None ≡ entry_from book mem n k
    unfolding entry_from
    entry-none h = let z : n + k - i ≡ 0 = omega arith in sym (inv ∙ rw z)

module _ (book : List ℕ) (t : ℕ) (mem : List ℕ) (size : ℕ) (es : size ≡ size_of book t) (r : LeafValue) where
  pub enum-size : (length mem ≡ size → ⊥) → r ≡ leaf.Refused 10 → r ≡ enum_leaf book t mem
  unfolding enum_leaf
  enum-size h e = rw (← es, ne_eqb (length mem) size h) e

  module _ (h : length mem ≡ size) (f : ℕ) (ef : f ≡ fields_of book t) (m : ℕ) (em : m ≡ entries_of book t) (x : Option ℕ) (ex : x ≡ entry_from book mem (t + 1 + f) m) where
    enum-by : r ≡ entry_or x (unlisted (read_integer (id_of (type_id_of book t)) mem)) → r ≡ enum_leaf book t mem
    unfolding enum_leaf
    enum-by q = rw (← es, eq-eqb (length mem) size h, ← ef, ← em, ← ex) q

    pub enum-found : (n : ℕ) → x ≡ Some n → r ≡ leaf.Entry n → r ≡ enum_leaf book t mem
    enum-found n q e = enum-by (rw q e)

    pub enum-none : x ≡ None → (id : AdsTypeId) → id ≡ id_of (type_id_of book t) → (i : IntegerRead) → i ≡ read_integer id mem → r ≡ unlisted i → r ≡ enum_leaf book t mem
    enum-none q id eid i ei e = enum-by (rw (q, ← eid, ← ei) e)

-- ---- by the category

-- the category is the type's own
pub leaf-own : (book : List ℕ) (width t : ℕ) (mem : List ℕ) (c : AdsTypeCategory) (r : LeafValue) → c ≡ category_of book width t → r ≡ leaf_by book width t c mem → r ≡ leaf_at book width t mem
unfolding leaf_at
leaf-own book width t mem c r ec e = rw (← ec) e

-- a count of time
pub leaf-count : (book : List ℕ) (width t : ℕ) (mem : List ℕ) (c : AdsTypeCategory) (n : ℕ) → n ≡ count_width book t c → (r : LeafValue) → (n ≡ 0 → ⊥) → r ≡ pointer_leaf n mem
    → r ≡ leaf_by book width t c mem
unfolding leaf_by
leaf-count book width t mem c n en r h e = rw (← en, ne_eqb n 0 h) e

module _ (book : List ℕ) (width t : ℕ) (mem : List ℕ) (c : AdsTypeCategory) (n : ℕ) (en : n ≡ count_width book t c) (none : n ≡ 0) (k : LeafKind) (ek : k ≡ kind_of_leaf c) (r : LeafValue) where
  leaf-by : r ≡ kind_leaf book width t mem k → r ≡ leaf_by book width t c mem
  unfolding leaf_by
  leaf-by e = rw (← en, none, ← ek) e

  pub leaf-number : k ≡ kind.Number → r ≡ number_leaf book t mem → r ≡ leaf_by book width t c mem
  unfolding kind_leaf
  leaf-number q e = leaf-by (rw q e)

  pub leaf-text : k ≡ kind.Text → r ≡ text_leaf book t mem → r ≡ leaf_by book width t c mem
  unfolding kind_leaf
  leaf-text q e = leaf-by (rw q e)

  pub leaf-enum : k ≡ kind.Enum → r ≡ enum_leaf book t mem → r ≡ leaf_by book width t c mem
  unfolding kind_leaf
  leaf-enum q e = leaf-by (rw q e)

  pub leaf_pointer : k ≡ kind.Pointer → r ≡ pointer_leaf width mem → r ≡ leaf_by book width t c mem
  unfolding kind_leaf
  leaf_pointer q e = leaf-by (rw q e)

  pub leaf-unit : k ≡ kind.Unit → r ≡ leaf.Unit → r ≡ leaf_by book width t c mem
  unfolding kind_leaf
  leaf-unit q e = leaf-by (rw q e)

  pub leaf-none : k ≡ kind.None → r ≡ leaf.Refused 11 → r ≡ leaf_by book width t c mem
  unfolding kind_leaf
  leaf-none q e = leaf-by (rw q e)
