-- A type that is no pointer, reference, array, enum or subrange. Assumes nothing.
use mathlib.Core.Path.{◌≡◌, sym, ◌∙◌}
use mathlib.Core.Bool.{Bool, false}
use mathlib.Core.List.{List}
use Prim.Native.Nat.{ℕ, ◌≤◌}
use borrow.Author.Tests.{le-ltb}
use Rattle.type_book.specs.Book.{flag_of, dimensions_of, name_of}
use Rattle.type_names.specs.Text.{ascii_bytes, starts_with}
use Rattle.type_names.specs.Names.{is_pointer_name, is_sub_range_name}
use Rattle.type_category.specs.declared.type_category.AdsTypeCategory.{AdsTypeCategory}
use Rattle.type_category.specs.Category.{is_pointer, is_reference, simple_category, category_of}

pub simple_is : (book : List ℕ) (width n : ℕ) (name : List ℕ) → name ≡ name_of book n
    → (p : Bool) → p ≡ flag_of book n 0 → p ≡ false
    → (q : Bool) → q ≡ is_pointer_name name → q ≡ false
    → (s : Bool) → s ≡ flag_of book n 1 → s ≡ false
    → (t : Bool) → t ≡ starts_with name (ascii_bytes "REFERENCE TO") → t ≡ false
    → (d : ℕ) → d ≡ dimensions_of book n → d ≤ 0
    → (u : Bool) → u ≡ flag_of book n 2 → u ≡ false
    → (v : Bool) → v ≡ is_sub_range_name name → v ≡ false
    → (r : AdsTypeCategory) → r ≡ simple_category book width n → r ≡ category_of book width n
unfolding category_of is_pointer is_reference
simple_is book width n name e p ep hp q eq hq s es hs t et ht d ed hd u eu hu v ev hv r er =
    er ∙ sym (rw (← ep, hp, ← e, ← eq, hq, ← es, hs, ← et, ht, ← ed, le-ltb 0 d hd, ← eu, hu, ← ev, hv))
