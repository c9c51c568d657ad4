-- What one index of an array holds. Assumes nothing.
use mathlib.Core.Path.{◌≡◌}
use mathlib.Core.Bool.{Bool, true, false}
use mathlib.Core.List.{List}
use Prim.Native.Nat.{ℕ, ◌+◌}
use Rattle.tape_shape.specs.Array.{is_last}
use Rattle.tape_array_elements.specs.Element.{whole, further, element_item}

module _ {X : Type 0} (book : List ℕ) (d t : ℕ) (x : X) (b : Bool) (q : b ≡ is_last book d t) where
  pub item_last : b ≡ true → element_item book d t x ≡ whole x
  unfolding element_item
  item_last h = rw (← q, h)

  pub item_further : b ≡ false → element_item book d t x ≡ further (d + 1) t x
  unfolding element_item
  item_further h = rw (← q, h)
