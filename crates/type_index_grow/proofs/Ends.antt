-- The ways out of `enter_last`. Assumes nothing.
use mathlib.Core.Path.{◌≡◌, refl, sym, ◌∙◌}
use mathlib.Core.Bool.{Bool, true, false, cond, ◌&&◌}
use mathlib.Core.List.{List}
use Prim.Native.Nat.{ℕ, ◌+◌, ◌/◌, ◌≤◌, ◌<◌}
use lib.ListN.{length, set}
use lib.Dec.{ltb}
use borrow.Author.Tests.{lt-ltb, le-ltb}
use Rattle.type_book.specs.Book.{name_of}
use Rattle.type_index.specs.Index.{free_of}
use Rattle.type_index_grow.specs.Grow.{takes, with_last, LastIs}

module _ (book index : List ℕ) (n : ℕ) where
  -- three numbers a block: there may be hints
  pub last_hinted : n ≤ length index / 3 → LastIs book index n false index
  unfolding takes
  last_hinted l =
      let q : ltb (length index / 3) n ≡ false = le-ltb (length index / 3) n l in
      record { answer = sym (rw q); numbers = sym (rw q) }

  module _ (l : length index / 3 < n) (name : List ℕ) (en : name ≡ name_of book n) (at : ℕ) (ea : at ≡ free_of book index name) where
    slots : ltb (length index / 3) n ≡ true
    slots = lt-ltb (length index / 3) n l

    pub last-full : length index ≤ at → LastIs book index n false index
    unfolding takes
    last-full g =
        let q : ltb (free_of book index (name_of book n)) (length index) ≡ false = rw (← en, ← ea) (le-ltb at (length index) g) in
        record { answer = sym (rw (slots, q)); numbers = sym (rw (slots, q)) }

    pub last_in : at < length index → LastIs book index n true (set index at (n + 1))
    unfolding takes with_last
    last_in g =
        let q : ltb (free_of book index (name_of book n)) (length index) ≡ true = rw (← en, ← ea) (lt-ltb at (length index) g) in
        record { answer = sym (rw (slots, q)); numbers = sym (rw (slots, q) (rw (← en, ← ea))) }
