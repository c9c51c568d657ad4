-- The width of a count of time. Assumes nothing.
use mathlib.Core.Path.{◌≡◌, sym, ap, ◌∙◌}
use mathlib.Core.Bool.{Bool, true, false}
use mathlib.Core.List.{List}
use Prim.Native.Nat.{ℕ}
use Rattle.type_book.specs.Book.{name_of}
use Rattle.type_category.specs.declared.type_category.AdsTypeCategory.{AdsTypeCategory}
use Rattle.time_types.specs.declared.TimeType.{TimeType}
use Rattle.time_types.specs.Types.{time_type_of, time_width}
use Rattle.time_types.specs.Counts.{name_counts, time_of, count_width}

-- count_width
module _ (book : List ℕ) (t : ℕ) (c : AdsTypeCategory) (b : Bool) (eb : b ≡ name_counts c) where
  pub width-none : b ≡ false → 0 ≡ count_width book t c
  unfolding count_width time_of
  width-none h = sym (rw (← eb, h))

  pub width-named : b ≡ true → (name : List ℕ) → name ≡ name_of book t → (y : TimeType) → y ≡ time_type_of name → (n : ℕ) → n ≡ time_width y → n ≡ count_width book t c
  unfolding count_width time_of
  width-named h name en y ey n e = e ∙ ap time_width (ey ∙ ap time_type_of en) ∙ sym (rw (← eb, h))
