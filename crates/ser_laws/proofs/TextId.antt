-- A type of category String has the id 30 or 31. Assumes nothing.
use mathlib.Core.Path.{◌≡◌, refl, sym}
use mathlib.Core.Bool.{Bool, true, false, cond, not, ◌&&◌, ◌||◌}
use mathlib.Core.Logic.{◌⊎◌, inl, inr}
use mathlib.Core.List.{List}
use Prim.Native.Nat.{ℕ, ◌+◌, ◌%◌}
use borrow.Author.Tests.{eqb-true}
use lib.Dec.{eqb, ltb}
use Rattle.type_book.specs.Book.{type_id_of, name_of, size_of, offset_of, same_name}
use Rattle.type_id.specs.TypeId.{id_of}
use Rattle.type_id.specs.declared.AdsTypeId.{AdsTypeId}
use Rattle.type_id.specs.declared.AdsTypeId.TheVariants as id
use Rattle.type_names.specs.Names.{is_sub_range_name, is_primitive_name}
use Rattle.type_category.specs.Category.{is_pointer, is_reference, is_array, is_enum, is_alias, id_step, or_else, is_union, has_fields, has_methods, implements, methods_category, fields_category, is_empty_struct, bare_category, size_category, complex_category, simple_category, category_of}
use Rattle.type_category.specs.declared.type_category.AdsTypeCategory.{AdsTypeCategory}
use Rattle.type_category.specs.declared.type_category.AdsTypeCategory.TheVariants as category
use Rattle.ser_laws.proofs.Plain.{different}

-- 1 for String, 0 for any other category
abbrev mark : AdsTypeCategory → ℕ
mark category.None = 0
mark category.Primitive = 0
mark category.Alias = 0
mark category.Enum = 0
mark category.Array = 0
mark category.Struct = 0
mark category.FunctionBlock = 0
mark category.Program = 0
mark category.Function = 0
mark category.SubRange = 0
mark category.String = 1
mark category.Bitset = 0
mark category.Pointer = 0
mark category.Union = 0
mark category.Reference = 0
mark category.Interface = 0

-- the same of an id
abbrev id_mark : AdsTypeId → ℕ
id_mark id.Void = 0
id_mark id.Int16 = 0
id_mark id.Int32 = 0
id_mark id.Real32 = 0
id_mark id.Real64 = 0
id_mark id.Int8 = 0
id_mark id.UInt8 = 0
id_mark id.UInt16 = 0
id_mark id.UInt32 = 0
id_mark id.Int64 = 0
id_mark id.UInt64 = 0
id_mark id.String = 1
id_mark id.WString = 1
id_mark id.Real80 = 0
id_mark id.Bit = 0
id_mark id.MaxTypes = 0
id_mark id.BigType = 0
id_mark (id.Unknown k) = 0

mark-cond : (b : Bool) (x y : AdsTypeCategory) → mark x ≡ 0 → mark y ≡ 0 → mark (cond b x y) ≡ 0
mark-cond true x y p q = p
mark-cond false x y p q = q

id_cond : (b : Bool) (x y : AdsTypeId) → id_mark x ≡ 0 → id_mark y ≡ 0 → id_mark (cond b x y) ≡ 0
id_cond true x y p q = p
id_cond false x y p q = q

-- what an id decides, or else the next step
or_mark : (i : AdsTypeId) (next : AdsTypeCategory) → id_mark i ≡ 0 → mark next ≡ 0 → mark (or_else (id_step i) next) ≡ 0
unfolding or_else
or_mark id.Void next p q = q
or_mark id.Int16 next p q = refl
or_mark id.Int32 next p q = refl
or_mark id.Real32 next p q = refl
or_mark id.Real64 next p q = refl
or_mark id.Int8 next p q = refl
or_mark id.UInt8 next p q = refl
or_mark id.UInt16 next p q = refl
or_mark id.UInt32 next p q = refl
or_mark id.Int64 next p q = refl
or_mark id.UInt64 next p q = refl
or_mark id.String next p q = different (sym p)
or_mark id.WString next p q = different (sym p)
or_mark id.Real80 next p q = refl
or_mark id.Bit next p q = refl
or_mark id.MaxTypes next p q = q
or_mark id.BigType next p q = q
or_mark (id.Unknown k) next p q = q

id_mark_lem : (n : ℕ) → eqb n 30 ≡ false → eqb n 31 ≡ false → id_mark (id_of n) ≡ 0
unfolding id_of
id_mark_lem n f g =
    rw (f, g)
    (id_cond (eqb n 0) _ _ refl (id_cond (eqb n 2) _ _ refl (id_cond (eqb n 3) _ _ refl (id_cond (eqb n 4) _ _ refl (id_cond (eqb n 5) _ _ refl
    (id_cond (eqb n 16) _ _ refl (id_cond (eqb n 17) _ _ refl (id_cond (eqb n 18) _ _ refl (id_cond (eqb n 19) _ _ refl
    (id_cond (eqb n 20) _ _ refl (id_cond (eqb n 21) _ _ refl
    (id_cond (eqb n 32) _ _ refl (id_cond (eqb n 33) _ _ refl (id_cond (eqb n 34) _ _ refl (id_cond (eqb n 65) _ _ refl refl)))))))))))))))

module _ (book : List ℕ) (width t : ℕ) where
  bare-mark : (size : ℕ) → mark (bare_category size) ≡ 0
  unfolding bare_category
  bare-mark size = mark-cond (eqb (size % 4) 0 && ltb 8 size) _ _ refl (mark-cond (eqb size 4 || eqb size 8) _ _ refl refl)

  complex_mark : mark (complex_category book width t) ≡ 0
  unfolding complex_category methods_category fields_category size_category
  complex_mark =
      mark-cond (is_union book t) _ _ refl
      (mark-cond (has_methods book t) _ _
      (mark-cond (implements book t) _ _ refl (mark-cond (not (has_fields book t)) _ _ refl (mark-cond (eqb (size_of book t) width) _ _ refl refl)))
      (mark-cond (has_fields book t) _ _ (mark-cond (ltb 0 (offset_of book (t + 1))) _ _ refl refl)
      (mark-cond (is_empty_struct book t) _ _ refl (mark-cond (implements book t) _ _ refl (bare-mark (size_of book t))))))

  no_text : eqb (type_id_of book t) 30 ≡ false → eqb (type_id_of book t) 31 ≡ false → mark (category_of book width t) ≡ 0
  unfolding category_of simple_category
  no_text f g =
      mark-cond (is_pointer book t) _ _ refl (mark-cond (is_reference book t) _ _ refl (mark-cond (is_array book t) _ _ refl (mark-cond (is_enum book t) _ _ refl
      (mark-cond (is_sub_range_name (name_of book t)) _ _ refl
      (mark-cond (is_alias book t) _ _ (mark-cond (same_name (name_of book t) _) _ _ refl refl)
      (or_mark (id_of (type_id_of book t)) _ (id_mark_lem (type_id_of book t) f g) (mark-cond (is_primitive_name (name_of book t)) _ _ refl complex_mark)))))))

  pub text_id : category_of book width t ≡ category.String → (type_id_of book t ≡ 30) ⊎ (type_id_of book t ≡ 31)
  text_id e = first (eqb (type_id_of book t) 30) refl
    where
      second : (x : Bool) → eqb (type_id_of book t) 30 ≡ false → eqb (type_id_of book t) 31 ≡ x → (type_id_of book t ≡ 30) ⊎ (type_id_of book t ≡ 31)
      second true f g = inr (eqb-true (type_id_of book t) 31 g)
      second false f g = let z : mark category.String ≡ 0 = rw e at (no_text f g) in different (sym z)

      first : (x : Bool) → eqb (type_id_of book t) 30 ≡ x → (type_id_of book t ≡ 30) ⊎ (type_id_of book t ≡ 31)
      first true f = inl (eqb-true (type_id_of book t) 30 f)
      first false f = second (eqb (type_id_of book t) 31) f refl
