-- Laws of a type's category, which the crates above cite. Assumes nothing.
use mathlib.Core.Path.{◌≡◌, refl, ap, subst}
use mathlib.Core.Bool.{Bool, true, false, cond, not, ◌&&◌, ◌||◌}
use mathlib.Core.List.{List}
use Prim.Native.Nat.{ℕ, ◌+◌, ◌/◌, ◌%◌, ◌^◌, ◌≤◌, ◌<◌}
use native.Mathlib.Omega.{arith}
use lib.ListN.{length}
use lib.Dec.{eqb, ltb}
use borrow.Author.Tests.{ltb-true, ltb-false, not-true}
use Rattle.type_id.specs.declared.AdsTypeId.{AdsTypeId}
use Rattle.type_id.specs.declared.AdsTypeId.TheVariants as id
use Rattle.type_id.specs.TypeId.{id_of}
use Rattle.type_book.specs.Book.{block_of, byte_at, flag_of, dimensions_of, type_id_of, offset_of, size_of, fields_of, name_of, type_name_of, same_name}
use Rattle.type_book.proofs.Blocks.{same_byte, same-u32, same-counted}
use Rattle.type_names.specs.Text.{ascii_bytes}
use Rattle.type_names.specs.Names.{is_sub_range_name, is_primitive_name}
use Rattle.type_category.specs.declared.type_category.AdsTypeCategory.{AdsTypeCategory}
use Rattle.type_category.specs.declared.type_category.AdsTypeCategory.TheVariants.{None, Primitive, Alias, Enum, Array, Struct, FunctionBlock, Program, Function, SubRange, String, Bitset, Pointer, Union, Reference, Interface}
use Rattle.type_category.specs.Category.{has_fields, has_methods, has_type_name, implements, is_pointer, is_reference, is_array, is_enum, is_alias, id_step, or_else, is_union, methods_category, fields_category, is_empty_struct, bare_category, size_category, complex_category, simple_category, category_of}

-- what is known of an alias
pub record AliasType (book : List ℕ) (n : ℕ) : Type 0 where
  pub typed : 0 < length (type_name_of book n)
  pub fields : fields_of book n ≡ 0
  pub methods : flag_of book n 3 ≡ false
  pub dimensions : dimensions_of book n ≡ 0
  pub enum : flag_of book n 2 ≡ false

-- what a category tells of its block; no block is a Program or a Function
abbrev pub Told : List ℕ → ℕ → AdsTypeCategory → Type 0
Told book n None = fields_of book n ≡ 0
Told book n Primitive = Unit {0}
Told book n Alias = AliasType book n
Told book n Enum = flag_of book n 2 ≡ true
Told book n Array = 0 < dimensions_of book n
Told book n Struct = Unit {0}
Told book n FunctionBlock = Unit {0}
Told book n Program = ⊥
Told book n Function = ⊥
Told book n SubRange = Unit {0}
Told book n String = Unit {0}
Told book n Bitset = Unit {0}
Told book n Pointer = Unit {0}
Told book n Union = 1 < fields_of book n
Told book n Reference = Unit {0}
Told book n Interface = Unit {0}

-- what holds of both answers of a test holds of the one that it picks
picks : (P : AdsTypeCategory → Type 0) (t : Bool) {a b : AdsTypeCategory} → (t ≡ true → P a) → (t ≡ false → P b) → P (cond t a b)
picks P true f g = f refl
picks P false f g = g refl

and_left : (a b : Bool) → a && b ≡ true → a ≡ true
and_left true b e = refl
and_left false b e = e

and_right : (a b : Bool) → a && b ≡ true → b ≡ true
and_right true b e = e
and_right false b e = absurd (clash e)
  where
    clash : false ≡ true → ⊥
    clash q = let z : ◌≡◌ {A = ℕ} 0 1 = cc in omega arith

module _ (book : List ℕ) (n : ℕ) where
  told_id : (i : AdsTypeId) (c : AdsTypeCategory) → Told book n c → Told book n (or_else (id_step i) c)
  unfolding or_else
  told_id id.Void c h = h
  told_id id.Int16 c h = tt
  told_id id.Int32 c h = tt
  told_id id.Real32 c h = tt
  told_id id.Real64 c h = tt
  told_id id.Int8 c h = tt
  told_id id.UInt8 c h = tt
  told_id id.UInt16 c h = tt
  told_id id.UInt32 c h = tt
  told_id id.Int64 c h = tt
  told_id id.UInt64 c h = tt
  told_id id.String c h = tt
  told_id id.WString c h = tt
  told_id id.Real80 c h = tt
  told_id id.Bit c h = tt
  told_id id.MaxTypes c h = h
  told_id id.BigType c h = h
  told_id (id.Unknown k) c h = h

  no_fields : has_fields book n ≡ false → fields_of book n ≡ 0
  no_fields e = omega (arith, ltb-false 0 (fields_of book n) e)

  told-bare : (size : ℕ) → fields_of book n ≡ 0 → Told book n (bare_category size)
  unfolding bare_category
  told-bare size h =
      picks (Told book n) (eqb (size % 4) 0 && ltb 8 size) (λ e. tt)
      (λ e. picks (Told book n) (eqb size 4 || eqb size 8) (λ q. tt) (λ q. h))

  told-size : fields_of book n ≡ 0 → Told book n (size_category book n)
  unfolding size_category
  told-size h =
      picks (Told book n) (is_empty_struct book n) (λ e. tt)
      (λ e. picks (Told book n) (implements book n) (λ q. tt) (λ q. told-bare (size_of book n) h))

  told-union : is_union book n ≡ true → 1 < fields_of book n
  unfolding is_union
  told-union e =
      let more = ltb 1 (fields_of book n) in
      let typed = not (has_type_name book n) in
      let methods = not (has_methods book n) in
      ltb-true 1 (fields_of book n) (and_left more typed (and_left (more && typed) methods (and_left (more && typed && methods) _ e)))

  told-methods : (width : ℕ) → Told book n (methods_category book width n)
  unfolding methods_category
  told-methods width =
      picks (Told book n) (implements book n) (λ e. tt)
      (λ e. picks (Told book n) (not (has_fields book n)) (λ q. tt)
      (λ q. picks (Told book n) (eqb (size_of book n) width) (λ p. tt) (λ p. tt)))

  told-fields : Told book n (fields_category book n)
  unfolding fields_category
  told-fields = picks (Told book n) (ltb 0 (offset_of book (n + 1))) (λ e. tt) (λ e. tt)

  told_complex : (width : ℕ) → Told book n (complex_category book width n)
  unfolding complex_category
  told_complex width =
      picks (Told book n) (is_union book n) (λ e. told-union e)
      (λ e. picks (Told book n) (has_methods book n) (λ q. told-methods width)
      (λ q. picks (Told book n) (has_fields book n) (λ p. told-fields) (λ p. told-size (no_fields p))))

  told-alias : is_array book n ≡ false → is_enum book n ≡ false → is_alias book n ≡ true → AliasType book n
  unfolding is_alias
  told-alias a b e =
      let bare : has_type_name book n && not (has_fields book n) ≡ true = and_left _ (not (has_methods book n)) e in
      record {
        typed = ltb-true 0 (length (type_name_of book n)) (and_left (has_type_name book n) (not (has_fields book n)) bare);
        fields = no_fields (not-true (has_fields book n) (and_right (has_type_name book n) (not (has_fields book n)) bare));
        methods = not-true (has_methods book n) (and_right (has_type_name book n && not (has_fields book n)) (not (has_methods book n)) e);
        dimensions = omega (arith, ltb-false 0 (dimensions_of book n) a);
        enum = b;
      }

  told_simple : (width : ℕ) → is_array book n ≡ false → is_enum book n ≡ false → Told book n (simple_category book width n)
  unfolding simple_category
  told_simple width a b =
      picks (Told book n) (is_alias book n)
      (λ e. picks (Told book n) (same_name (name_of book n) (ascii_bytes "BOOL")) (λ q. tt) (λ q. told-alias a b e))
      (λ e. told_id (id_of (type_id_of book n)) _ (picks (Told book n) (is_primitive_name (name_of book n)) (λ q. tt) (λ q. told_complex width)))

  pub told : (width : ℕ) → Told book n (category_of book width n)
  unfolding category_of
  told width =
      picks (Told book n) (is_pointer book n) (λ e. tt)
      (λ e. picks (Told book n) (is_reference book n) (λ q. tt)
      (λ q. picks (Told book n) (is_array book n) (λ p. ltb-true 0 (dimensions_of book n) p)
      (λ p. picks (Told book n) (is_enum book n) (λ o. o)
      (λ o. picks (Told book n) (is_sub_range_name (name_of book n)) (λ l. tt) (λ l. told_simple width p o)))))

  module _ (width : ℕ) where
    -- a category that is known tells what it tells
    told_of : (c : AdsTypeCategory) → category_of book width n ≡ c → Told book n c
    told_of c e = subst (Told book n) e (told width)

    pub never_program : category_of book width n ≡ Program → ⊥
    never_program e = told_of Program e

    pub never_function : category_of book width n ≡ Function → ⊥
    never_function e = told_of Function e

    pub alias-type : category_of book width n ≡ Alias → AliasType book n
    alias-type e = told_of Alias e

    pub array-type : category_of book width n ≡ Array → 0 < dimensions_of book n
    array-type e = told_of Array e

    pub enum_type : category_of book width n ≡ Enum → flag_of book n 2 ≡ true
    enum_type e = told_of Enum e

    pub union-type : category_of book width n ≡ Union → 1 < fields_of book n
    union-type e = told_of Union e

    pub none-type : category_of book width n ≡ None → fields_of book n ≡ 0
    none-type e = told_of None e

-- two blocks, in one book or in two, that say the same of a type: its own parts, and the offsets of its first two fields
pub record Alike (a : List ℕ) (m : ℕ) (b : List ℕ) (n : ℕ) : Type 0 where
  pub flags : byte_at a m 1 ≡ byte_at b n 1
  pub dimensions : dimensions_of a m ≡ dimensions_of b n
  pub type_id : type_id_of a m ≡ type_id_of b n
  pub size : size_of a m ≡ size_of b n
  pub fields : fields_of a m ≡ fields_of b n
  pub name : name_of a m ≡ name_of b n
  pub type-name : type_name_of a m ≡ type_name_of b n
  pub first : 0 < fields_of a m → offset_of a (m + 1) ≡ offset_of b (n + 1)
  pub second : 1 < fields_of a m → offset_of a (m + 2) ≡ offset_of b (n + 2)

-- blocks of the same bytes are alike, where the field blocks that they have are of the same bytes too
pub alike : (a b : List ℕ) (m n : ℕ)
    → 54 + byte_at a m 52 ≤ 512
    → 254 + byte_at a m 53 ≤ 512
    → block_of a m ≡ block_of b n
    → (0 < fields_of a m → block_of a (m + 1) ≡ block_of b (n + 1))
    → (1 < fields_of a m → block_of a (m + 2) ≡ block_of b (n + 2))
    → Alike a m b n
alike a b m n short typed e f g =
    record {
      flags = same_byte a b m n e 1 (omega arith);
      dimensions = same_byte a b m n e 2 (omega arith);
      type_id = same-u32 a b m n e 4 (omega arith);
      size = same-u32 a b m n e 8 (omega arith);
      fields = same-u32 a b m n e 12 (omega arith);
      name = same-counted a b m n e 52 54 (omega arith) short;
      type-name = same-counted a b m n e 53 254 (omega arith) typed;
      first = λ h. same-u32 a b (m + 1) (n + 1) (f h) 4 (omega arith);
      second = λ h. same-u32 a b (m + 2) (n + 2) (g h) 4 (omega arith);
    }

-- two tests that agree pick answers that agree
both : (t : Bool) {x y z w : AdsTypeCategory} → (t ≡ true → x ≡ z) → (t ≡ false → y ≡ w) → cond t x y ≡ cond t z w
both true f g = f refl
both false f g = g refl

module _ (a : List ℕ) (m : ℕ) (b : List ℕ) (n : ℕ) (s : Alike a m b n) where
  same_flag : (i : ℕ) → flag_of a m i ≡ flag_of b n i
  same_flag i = ap (λ (k : ℕ). eqb (k / 2 ^ i % 2) 1) s.flags

  same_first : 0 < fields_of a m → fields_category a m ≡ fields_category b n
  unfolding fields_category
  same_first h = rw (s.first h)

  same-union : is_union a m ≡ is_union b n
  unfolding is_union
  same-union = by (ltb 1 (fields_of a m)) refl
    where
      by : (t : Bool) → ltb 1 (fields_of a m) ≡ t → ltb 1 (fields_of a m) && not (has_type_name a m) && not (has_methods a m) && eqb (offset_of a (m + 1)) (offset_of a (m + 2)) ≡ ltb 1 (fields_of b n) && not (has_type_name b n) && not (has_methods b n) && eqb (offset_of b (n + 1)) (offset_of b (n + 2))
      by true e =
          let h : 1 < fields_of a m = ltb-true 1 (fields_of a m) e in
          rw (← s.fields, ← s.type-name, s.first (omega arith), s.second h, same_flag 3)
      by false e = rw (← s.fields, e)

  same_complex : (width : ℕ) → complex_category a width m ≡ complex_category b width n
  unfolding complex_category methods_category size_category is_empty_struct
  same_complex width =
      rw (same-union, same_flag 3, same_flag 4, ← s.fields, ← s.size, ← s.name)
      (both (is_union b n) (λ e. refl)
      (λ e. both (flag_of b n 3) (λ q. refl)
      (λ q. both (has_fields a m) (λ p. same_first (ltb-true 0 (fields_of a m) p)) (λ p. refl))))

  pub category-alike : (width : ℕ) → category_of a width m ≡ category_of b width n
  unfolding category_of simple_category is_pointer is_reference is_alias
  category-alike width =
      rw (same_flag 0, same_flag 1, same_flag 2, same_flag 3, s.dimensions, s.type_id, s.fields, s.name, s.type-name, same_complex width)
