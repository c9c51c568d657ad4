-- Where a name is tried in an index. Assumes nothing.
use mathlib.Core.Path.{◌≡◌, sym}
use mathlib.Core.List.{List}
use Prim.Native.Nat.{ℕ, ◌+◌, ◌-◌, ◌*◌, ◌/◌, ◌≤◌, ◌<◌, min}
use native.Mathlib.Omega.{arith}
use native.Mathlib.Nat.{mul-lt-mul_of_pos_right}
use mir.Syntax.{w64}
use mir.Val.{Fits}
use lib.Dec.{ltb}
use borrow.Author.Tests.{lt-ltb, le-ltb}
use Rattle.type_marks.specs.Marks.{hash_of}
use Rattle.type_provider.specs.Find.{searched}
use Rattle.type_index.specs.Index.{slots_of, slot_for, next_of}
use Rattle.type_index.specs.Parts.{HintsAt, PlaceIs, NextIs}

-- ---- the slots and the hints after them

module _ (book : List ℕ) (len n : ℕ) (en : n ≡ searched book) where
  pub hints_none : len / 3 < n → HintsAt book len len
  unfolding slots_of
  hints_none l =
      let t : ltb (len / 3) (searched book) ≡ _ = lt-ltb (len / 3) (searched book) (rw (← en) l) in
      record { is = sym (rw t); within = omega arith; few = omega arith; some = λ h. h }

  pub hints_some : n ≤ len / 3 → HintsAt book len (len - n)
  unfolding slots_of
  hints_some l =
      let t : ltb (len / 3) (searched book) ≡ _ = le-ltb (len / 3) (searched book) (rw (← en) l) in
      let s : n ≤ 65536 = rw en (omega arith) in
      record { is = sym (rw (t, en)); within = omega arith; few = omega arith; some = λ h. omega arith }

-- ---- the first slot of a name

module _ (h n : ℕ) (small : h < 4294967296) (some : 0 < n) where
  share : h * n < 4294967296 * n
  share = mul-lt-mul_of_pos_right small some

  -- the product of a hash and a length of 32 bits fits
  pub slot_fits : n ≤ 4294967295 → Fits w64 (h * n)
  slot_fits l = record { fits = omega (arith, share) }

  -- the hash's share of the index is one of its slots
  pub slot_below : h * n / 4294967296 < n
  slot_below = omega (arith, share)

pub place-is : (name : List ℕ) (h : ℕ) → h ≡ hash_of name → h < 4294967296 → (n s : ℕ) → s ≡ min n 4294967295 → 0 < n → PlaceIs name n (h * s / 4294967296)
unfolding slot_for
place-is name h eh small n s es z =
    let some : 0 < s = omega arith in
    let b : h * s / 4294967296 < s = slot_below h s small some in
    record { is = rw (es, eh); below = omega arith }

-- no slots: the place is 0
pub place_none : (name : List ℕ) → slot_for name 0 ≡ 0
unfolding slot_for
place_none name = let m : min 0 4294967295 ≡ 0 = omega arith in rw m (omega arith)

-- ---- the slot after another

module _ (at n : ℕ) where
  pub next_more : at + 1 < n → NextIs at n (at + 1)
  unfolding next_of
  next_more l = record { is = sym (rw (lt-ltb (at + 1) n l)); below = l }

  pub next-first : n ≤ at + 1 → at < n → NextIs at n 0
  unfolding next_of
  next-first l b = record { is = sym (rw (le-ltb (at + 1) n l)); below = omega arith }
