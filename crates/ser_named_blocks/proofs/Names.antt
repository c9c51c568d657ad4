-- The search for a name, turn by turn. Assumes nothing.
use Rattle.std.specs.Prelude.{Option, Some, None}
use mathlib.Core.Path.{◌≡◌, sym, ◌∙◌}
use mathlib.Core.Bool.{Bool, true, false, cond}
use mathlib.Core.List.{List}
use Prim.Native.Nat.{ℕ, suc, ◌+◌, ◌-◌, ◌≤◌, ◌<◌}
use native.Mathlib.Omega.{arith}
use Rattle.type_book.specs.Book.{fields_of, entries_of, name_of, same_name}
use Rattle.ser_named_blocks.specs.Named.{named_from, field_named, entry_named}

module _ (book name : List ℕ) (n k : ℕ) where
  pub named_start : named_from book name n k ≡ named_from book name n (n + k - n)
  named_start = let e : n + k - n ≡ k = omega arith in rw e

  module _ (i : ℕ) (inv : named_from book name n k ≡ named_from book name i (n + k - i)) where
    module _ (l : i < n + k) (v : List ℕ) (ev : v ≡ name_of book i) (b : Bool) (eb : b ≡ same_name v name) where
      named-turn : named_from book name n k ≡ cond b (Some i) (named_from book name (i + 1) (n + k - (i + 1)))
      unfolding named_from
      named-turn = let z : n + k - i ≡ suc (n + k - (i + 1)) = omega arith in inv ∙ rw (z, eb, ev)

      pub named_here : b ≡ true → Some i ≡ named_from book name n k
      named_here h = sym (named-turn ∙ rw h)

      pub named_again : b ≡ false → named_from book name n k ≡ named_from book name (i + 1) (n + k - (i + 1))
      named_again h = named-turn ∙ rw h

    pub named_none : n + k ≤ i → None ≡ named_from book name n k
    unfolding named_from
    named_none h = let z : n + k - i ≡ 0 = omega arith in sym (inv ∙ rw z)

module _ (book name : List ℕ) (t : ℕ) (r : Option ℕ) (f : ℕ) (ef : f ≡ fields_of book t) where
  pub field_is : r ≡ named_from book name (t + 1) f → r ≡ field_named book t name
  field_is e = rw (← ef) e

  pub entry-is : (m : ℕ) → m ≡ entries_of book t → r ≡ named_from book name (t + 1 + f) m → r ≡ entry_named book t name
  entry-is m em e = rw (← ef, ← em) e
