-- Blocks of a valid book: which of them name a type as a part, and which are found. Assumes nothing.
use Rattle.std.specs.Prelude.{Option, Some}
use mathlib.Core.Path.{◌≡◌, refl, sym, ◌∙◌}
use mathlib.Core.Bool.{true, false}
use mathlib.Core.List.Memᴰ
use mathlib.Core.List.{List, Memᴰ}
use mathlib.Core.Logic.{⊎_elim}
use Prim.Native.Nat.{ℕ, zero, suc, ◌+◌, ◌≤◌, ◌<◌}
use native.Mathlib.Omega.{arith}
use borrow.Author.Tests.{ne_eqb, lt-ltb}
use Rattle.type_book.specs.Book.{kind_of, is_type, dimensions_of, fields_of, name_of, type_name_of}
use lib.ListN.{length}
use Rattle.type_provider.specs.Find.{find, searched}
use Rattle.type_provider.proofs.Finds.{find-named, named-name}
use Rattle.type_category.specs.declared.type_category.AdsTypeCategory.{AdsTypeCategory}
use Rattle.type_category.specs.declared.type_category.AdsTypeCategory.TheVariants as category
use Rattle.type_category.specs.Category.{category_of}
use Rattle.type_category.proofs.Categories.{array-type}
use Rattle.type_book_check.specs.Check.{ValidBook}
use Rattle.type_book_check.proofs.Valid.{valid-type}
use Rattle.resolvers.proofs.Chains.{found-typed}
use Rattle.resolve_walk_scratch.specs.declared.ScratchParts.{ScratchParts}
use Rattle.resolve_walk_scratch.specs.declared.ScratchParts.TheVariants.{Element, Fields, Nothing}
use Rattle.resolve_walk_scratch.specs.Parts.{parts_kind, blocks_after, parts_in, parts_of}
use Rattle.resolve_walk_scratch.specs.Scratch.{is_part, lacking_bit, BitIn}
use Rattle.resolve_walk_scratch.proofs.Places.{type-below, part_field, part-dimensions}

-- ---- parts

in_after : (t k b : ℕ) → Memᴰ b (blocks_after t k) → (j : ℕ) × (j < k) × (b ≡ t + 1 + j)
unfolding blocks_after
in_after t zero b m = absurd (Memᴰ.not-nil m)
in_after t (suc k) b m =
    ⊎_elim (λ e. (k, omega arith, omega arith)) (λ n. let r = in_after t k b n in (r.0, omega (arith, r.1), r.2)) (Memᴰ.cases_cons m)

element-array : (c : AdsTypeCategory) → parts_kind c ≡ Element → c ≡ category.Array
element-array category.Array h = refl
element-array category.Struct h = cc
element-array category.Union h = cc
element-array category.FunctionBlock h = cc
element-array category.None h = cc
element-array category.Primitive h = cc
element-array category.Alias h = cc
element-array category.Enum h = cc
element-array category.Program h = cc
element-array category.Function h = cc
element-array category.SubRange h = cc
element-array category.String h = cc
element-array category.Bitset h = cc
element-array category.Pointer h = cc
element-array category.Reference h = cc
element-array category.Interface h = cc

-- what a type is made of is named by parts
pub part-is : (book : List ℕ) (width t : ℕ) → ValidBook book → is_type book t ≡ true → (b : ℕ) → Memᴰ b (parts_of book width t) → is_part book b ≡ true
unfolding parts_of parts_in
part-is book width t v y b m = by (parts_kind (category_of book width t)) refl m
  where
    by : (k : ScratchParts) → parts_kind (category_of book width t) ≡ k → Memᴰ b (parts_in book t k) → is_part book b ≡ true
    by Element e m =
        let q : b ≡ t = Memᴰ.eq_of_singleton m in
        let d : 0 < dimensions_of book t = array-type book t width (element-array (category_of book width t) e) in
        rw q (sym (part-dimensions book t true (sym y) refl (dimensions_of book t) refl) ∙ lt-ltb 0 (dimensions_of book t) d)
    by Fields e m =
        let r = in_after t (fields_of book t) b m in
        let k : kind_of book (t + 1 + r.0) ≡ 2 = ((valid-type book v t y).fields r.0 r.1).kind in
        let n : is_type book b ≡ false = ne_eqb (kind_of book b) 1 (λ o. let p : kind_of book b ≡ 2 = rw r.2 k in omega arith) in
        sym (part_field book b false (sym n) refl)
    by Nothing e m = absurd (Memᴰ.not-nil m)

-- ---- names found

-- what is found has that name
pub find-name : (book name : List ℕ) (t : ℕ) → find book name ≡ Some t → name_of book t ≡ name
find-name book name t e = named-name book name t (find-named book name t e).named

-- what block b names, and a name that the book lacks, have a bit in the scratch
pub low_bit : (sc : List ℕ) (t : ℕ) → t < 131072 → 8192 ≤ length sc → BitIn sc t
low_bit sc t l z = record { low = l; room = omega arith }

pub found-low : (book : List ℕ) (b : ℕ) (f : Option ℕ) → f ≡ find book (type_name_of book b) → (t : ℕ) → f ≡ Some t → ValidBook book → t < 131072
found-low book b f ef t h v = let l = type-below book t v (found-typed book b f ef t h) in omega arith

pub lacking-low : (name : List ℕ) (b : ℕ) → b ≡ lacking_bit name → b < 131072
unfolding lacking_bit
lacking-low name b e = rw e (omega arith)

-- what is found is below block 65,536
pub find-below : (book name : List ℕ) (t : ℕ) → find book name ≡ Some t → t < 65536
find-below book name t e = let l : t < searched book = (find-named book name t e).below in omega arith
