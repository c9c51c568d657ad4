-- What is kept outside some ranges: of bytes at a place of the output, of a part of them, of one change after another. Assumes nothing.
use mathlib.Core.Path.{◌≡◌, refl, sym, ◌∙◌}
use mathlib.Core.Bool.{Bool, true, false, ◌||◌}
use mathlib.Core.List.{List, [], ◌∷◌, ◌++◌}
use Prim.Native.Nat.{ℕ, ◌+◌, ◌-◌, ◌≤◌, ◌<◌}
use native.Mathlib.Omega.{arith}
use native.Mathlib.Nat.{zero-add}
use borrow.Author.Tests.{leb-true, leb-false, le-leb, lt-ltb}
use lib.ListN.{length, get_or, take, drop, length-append, length-take, length-drop, get_or-eq_default, get_or-append}
use lib.Seq.{get_or-append-add, get_or-take, get_or-drop, length-take-le}
use lib.Dec.{leb, ltb}
use Rattle.tape_array_elements.specs.Element.{cut}
use Rattle.ser.specs.Write.{put_in}
use Rattle.ser_laws.specs.Touched.{Range, in_range, is_touched, Within, none, more, OnlyIn}
use Rattle.ser_laws.proofs.Plain.{different}

-- ---- in no range

or_left : (a b : Bool) → (a || b) ≡ false → a ≡ false
or_left true b h = different cc
or_left false b h = refl

or_right : (a b : Bool) → (a || b) ≡ false → b ≡ false
or_right true b h = different cc
or_right false b h = h

-- outside two lists together is outside each
out_left : (j : ℕ) (rs ss : List Range) → is_touched j (rs ++ ss) ≡ false → is_touched j rs ≡ false
unfolding is_touched
out_left j [] ss h = refl
out_left j (r ∷ rs) ss h =
    let a : in_range j r ≡ false = or_left (in_range j r) (is_touched j (rs ++ ss)) h in
    rw a (out_left j rs ss (or_right (in_range j r) (is_touched j (rs ++ ss)) h))

out_right : (j : ℕ) (rs ss : List Range) → is_touched j (rs ++ ss) ≡ false → is_touched j ss ≡ false
unfolding is_touched
out_right j [] ss h = h
out_right j (r ∷ rs) ss h = out_right j rs ss (or_right (in_range j r) (is_touched j (rs ++ ss)) h)

-- outside one range
out_one : (j from size : ℕ) → is_touched (from + j) (record { from = from; size = size } ∷ []) ≡ false → size ≤ j
unfolding is_touched in_range
out_one j from size h = by (leb size j) refl
  where
    by : (b : Bool) → leb size j ≡ b → size ≤ j
    by true e = leb-true size j e
    by false e =
        let l = leb-false size j e in
        let p : leb from (from + j) ≡ true = le-leb from (from + j) (omega arith) in
        let q : ltb (from + j) (from + size) ≡ true = lt-ltb (from + j) (from + size) (omega arith) in
        let z : true ≡ false = rw (p, q) at h in
        different cc

-- ---- within

within_wider : {lo hi lo' hi' : ℕ} {rs : List Range} → lo' ≤ lo → hi ≤ hi' → Within lo hi rs → Within lo' hi' rs
within_wider a b none = none
within_wider a b (more {r = r} x y w) = more {r = r} (omega (arith, x, a)) (omega (arith, y, b)) (within_wider a b w)

within_append : {lo hi : ℕ} {rs ss : List Range} → Within lo hi rs → Within lo hi ss → Within lo hi (rs ++ ss)
within_append none w = w
within_append (more x y v) w = more x y (within_append v w)

-- ---- kept: the bytes stand in the output from `from` on

pub record Kept (from : ℕ) (old new : List ℕ) (rs : List Range) : Type 0 where
  pub same_length : length new ≡ length old
  pub outside : (j : ℕ) → is_touched (from + j) rs ≡ false → get_or new j 0 ≡ get_or old j 0
  pub inside : Within from (from + length old) rs

pub kept-none : (from : ℕ) (old : List ℕ) → Kept from old old []
kept-none from old = record { same_length = refl; outside = λ j h. refl; inside = none }

-- all the bytes are one range
pub kept-all : (from size : ℕ) (old new : List ℕ) → size ≡ length old → length new ≡ length old → Kept from old new (record { from = from; size = size } ∷ [])
kept-all from size old new e l =
    record {
      same_length = l;
      outside = λ j h.
          let o = out_one j from size h in
          get_or-eq_default new 0 (omega (arith, o, e, l)) ∙ sym (get_or-eq_default old 0 (omega (arith, o, e)));
      inside = more {r = record { from = from; size = size }} (omega arith) (omega (arith, e)) none;
    }

-- one change after another
pub kept_then : {from : ℕ} {old mid new : List ℕ} {rs ss : List Range} → Kept from old mid rs → Kept from mid new ss → Kept from old new (rs ++ ss)
kept_then {from} {old} {mid} {new} {rs} {ss} p q =
    record {
      same_length = q.same_length ∙ p.same_length;
      outside = λ j h. q.outside j (out_right (from + j) rs ss h) ∙ p.outside j (out_left (from + j) rs ss h);
      inside = within_append p.inside (within_wider (omega arith) (omega (arith, p.same_length)) q.inside);
    }

-- ---- a part

module _ (at size : ℕ) (bytes part : List ℕ) (l : at + size ≤ length bytes) (e : length part ≡ size) where
  front : length (take at bytes) ≡ at
  front = length-take-le at bytes (omega arith)

  put_before : (j : ℕ) → j < at → get_or (put_in at size bytes part) j 0 ≡ get_or bytes j 0
  put_before j h = get_or-append (take at bytes) _ 0 j (omega (arith, front)) ∙ get_or-take at bytes j 0 h

  put_from : (j : ℕ) → get_or (put_in at size bytes part) (at + j) 0 ≡ get_or (part ++ drop size (drop at bytes)) j 0
  put_from j = (rw front at (get_or-append-add (take at bytes) (part ++ drop size (drop at bytes)) j 0))

  put_in_lem : (j : ℕ) → j < size → get_or (put_in at size bytes part) (at + j) 0 ≡ get_or part j 0
  put_in_lem j h = put_from j ∙ get_or-append part _ 0 j (omega (arith, e))

  put_after : (j : ℕ) → get_or (put_in at size bytes part) (at + (size + j)) 0 ≡ get_or bytes (at + (size + j)) 0
  put_after j =
      put_from (size + j) ∙ (rw e at (get_or-append-add part (drop size (drop at bytes)) j 0)) ∙ get_or-drop size (drop at bytes) j 0
      ∙ get_or-drop at bytes (size + j) 0

  put_length : length (put_in at size bytes part) ≡ length bytes
  put_length = simp (length-append, length-drop) (omega (arith, front, e, l))

  -- byte j, before the part, in it or after it
  put_at : (from : ℕ) (rs : List Range) → ((j : ℕ) → is_touched (from + at + j) rs ≡ false → get_or part j 0 ≡ get_or (cut at size bytes) j 0)
      → (j : ℕ) → is_touched (from + j) rs ≡ false → get_or (put_in at size bytes part) j 0 ≡ get_or bytes j 0
  put_at from rs k j h = before (leb at j) refl
    where
      after : (b : Bool) → leb (at + size) j ≡ b → at ≤ j → get_or (put_in at size bytes part) j 0 ≡ get_or bytes j 0
      after true x m =
          let y = leb-true (at + size) j x in
          let q : at + (size + (j - (at + size))) ≡ j = omega arith in
          (rw q at (put_after (j - (at + size))))
      after false x m =
          let y = leb-false (at + size) j x in
          let q : at + (j - at) ≡ j = omega arith in
          let o : from + at + (j - at) ≡ from + j = omega arith in
          let s : j - at < size = omega arith in
          let z : get_or part (j - at) 0 ≡ get_or (cut at size bytes) (j - at) 0 = k (j - at) (rw o h) in
          let w : get_or (put_in at size bytes part) j 0 ≡ get_or part (j - at) 0 = (rw q at (put_in_lem (j - at) s)) in
          let v : get_or (cut at size bytes) (j - at) 0 ≡ get_or bytes j 0 =
          get_or-take size (drop at bytes) (j - at) 0 s ∙ (rw q at (get_or-drop at bytes (j - at) 0)) in
          w ∙ z ∙ v

      before : (b : Bool) → leb at j ≡ b → get_or (put_in at size bytes part) j 0 ≡ get_or bytes j 0
      before true x = after (leb (at + size) j) refl (leb-true at j x)
      before false x = put_before j (leb-false at j x)

pub length_cut : (at size : ℕ) (bytes : List ℕ) → at + size ≤ length bytes → length (cut at size bytes) ≡ size
length_cut at size bytes l = simp (length-take, length-drop) (omega (arith, l))

-- what was kept in a part of some bytes, in all of them
pub kept-part : (from at size : ℕ) {bytes part : List ℕ} {rs : List Range} → at + size ≤ length bytes → Kept (from + at) (cut at size bytes) part rs
    → Kept from bytes (put_in at size bytes part) rs
kept-part from at size {bytes} {part} {rs} l k =
    let e : length part ≡ size = k.same_length ∙ length_cut at size bytes l in
    record {
      same_length = put_length at size bytes part l e;
      outside = put_at at size bytes part l e from rs k.outside;
      inside = within_wider (omega arith) (omega (arith, l, length_cut at size bytes l)) k.inside;
    }

-- at the output's start
pub kept-only : {old new : List ℕ} {rs : List Range} → Kept 0 old new rs → OnlyIn rs old new
kept-only k = record { same_length = k.same_length; outside = simp zero-add at k.outside; inside = simp zero-add at k.inside }
