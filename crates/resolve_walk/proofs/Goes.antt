-- The walk as a relation: one constructor for each kind of turn. It is the only place that opens `walk`. Assumes nothing.
use mathlib.Core.Path.{◌≡◌, refl}
use mathlib.Core.Bool.{Bool, true, false}
use mathlib.Core.List.{List, [], ◌∷◌}
use Prim.Native.Nat.{ℕ, zero, suc}
use Rattle.type_book.specs.Book.{type_name_of}
use Rattle.type_provider.specs.Find.{find}
use Rattle.resolve_walk.specs.Walk.{Walk, over, full, met, comes_to, has, skip, push, meet, turn, last, walk}

pub data Goes (book : List ℕ) (width : ℕ) : ℕ → List (List ℕ) → List ℕ → Walk → Type 0 where
  none : {left : ℕ} {v : List (List ℕ)} → Goes book width left v [] over
  old : {left b : ℕ} {v : List (List ℕ)} {s : List ℕ} {w : Walk} → has v (type_name_of book b) ≡ true → Goes book width left v s w → Goes book width left v (b ∷ s) w
  fresh : {left b : ℕ} {v : List (List ℕ)} {s : List ℕ} {w : Walk} → has v (type_name_of book b) ≡ false
      → Goes book width left (type_name_of book b ∷ v) (push book width (comes_to book width b (find book (type_name_of book b))) s) w
      → Goes book width (suc left) v (b ∷ s) (met b (type_name_of book b) (comes_to book width b (find book (type_name_of book b))) w)
  stop : {b : ℕ} {v : List (List ℕ)} {s : List ℕ} → has v (type_name_of book b) ≡ false → Goes book width zero v (b ∷ s) (full b (type_name_of book b))

module _ (book : List ℕ) (width : ℕ) where
  -- ---- what the walk equals, turn by turn

  pub walk_none : (left : ℕ) (v : List (List ℕ)) → walk book width left v [] ≡ over
  unfolding walk skip turn last
  walk_none zero v = refl
  walk_none (suc left) v = refl

  module _ (v : List (List ℕ)) (s : List ℕ) (b : ℕ) where
    pub walk-old : (left : ℕ) → has v (type_name_of book b) ≡ true → walk book width left v (b ∷ s) ≡ walk book width left v s
    unfolding walk skip
    walk-old zero h = rw h
    walk-old (suc left) h = rw h

    pub walk-fresh : (left : ℕ) → has v (type_name_of book b) ≡ false
        → walk book width (suc left) v (b ∷ s) ≡ met b (type_name_of book b) (comes_to book width b (find book (type_name_of book b))) (walk book width left (type_name_of book b ∷ v) (push book width (comes_to book width b (find book (type_name_of book b))) s))
    unfolding walk skip turn meet
    walk-fresh left h = rw h

    pub walk-stop : has v (type_name_of book b) ≡ false → walk book width zero v (b ∷ s) ≡ full b (type_name_of book b)
    unfolding walk skip last
    walk-stop h = rw h

  -- ---- the walk goes so

  go-zero : (v : List (List ℕ)) (s : List ℕ) → Goes book width zero v s (walk book width zero v s)
  go-zero v [] = rw (walk_none zero v) none
  go-zero v (b ∷ s) = by (has v (type_name_of book b)) refl (go-zero v s)
    where
      by : (t : Bool) → has v (type_name_of book b) ≡ t → Goes book width zero v s (walk book width zero v s) → Goes book width zero v (b ∷ s) (walk book width zero v (b ∷ s))
      by true h g = rw (walk-old v s b zero h) (old h g)
      by false h g = rw (walk-stop v s b h) (stop h)

  go-suc : (left : ℕ) → ((v : List (List ℕ)) (s : List ℕ) → Goes book width left v s (walk book width left v s)) → (v : List (List ℕ)) (s : List ℕ) → Goes book width (suc left) v s (walk book width (suc left) v s)
  go-suc left ih v [] = rw (walk_none (suc left) v) none
  go-suc left ih v (b ∷ s) = by (has v (type_name_of book b)) refl (go-suc left ih v s)
    where
      by : (t : Bool) → has v (type_name_of book b) ≡ t → Goes book width (suc left) v s (walk book width (suc left) v s) → Goes book width (suc left) v (b ∷ s) (walk book width (suc left) v (b ∷ s))
      by true h g = rw (walk-old v s b (suc left) h) (old h g)
      by false h g = rw (walk-fresh v s b left h) (fresh h (ih _ _))

  pub goes : (left : ℕ) (v : List (List ℕ)) (s : List ℕ) → Goes book width left v s (walk book width left v s)
  goes zero v s = go-zero v s
  goes (suc left) v s = go-suc left (goes left) v s
