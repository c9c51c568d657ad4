-- Laws of `splice`, `fits_in` and `Wrote`: the only place that opens them. Assumes nothing.
use Rattle.std.specs.Prelude.{Option, Some, None}
use mathlib.Core.Path.{◌≡◌, refl, sym, ap, ◌∙◌}
use mathlib.Core.Bool.{Bool, true, false, cond}
use mathlib.Core.List.{List, [], ◌∷◌, ◌++◌, append_assoc, append-nil}
use Prim.Native.Nat.{ℕ, suc, ◌+◌, ◌-◌, ◌≤◌, ◌<◌}
use native.Mathlib.Omega.{arith}
use lib.ListN.{length, take, drop, set, length-append, length-drop, take-append-drop}
use lib.Seq.{take_at, take_all, drop-append-add, drop-drop, length-take-le, sets, sets-eq, paste}
use borrow.Author.Tests.{leb-true, leb-false, le-leb, lt-leb}
use Rattle.enc_utf_8.specs.Buffer.{splice, fits_in, Wrote}

-- ---- splice

-- no bytes change nothing
pub splice-none : (out : List ℕ) (at : ℕ) → splice out at [] ≡ out
unfolding splice
splice-none out at = let e : at + 0 ≡ at = omega arith in rw (e, append-nil) (take-append-drop at out)

-- the length is kept
pub splice-long : (out xs : List ℕ) (at : ℕ) → at + length xs ≤ length out → length (splice out at xs) ≡ length out
unfolding splice
splice-long out xs at h = simp (length-append, length-drop) (omega (arith, length-take-le at out (omega arith)))

-- two in a row are one of the append
pub splice-splice : (out xs ys : List ℕ) (at : ℕ) → at + length xs ≤ length out → splice (splice out at xs) (at + length xs) ys ≡ splice out at (xs ++ ys)
unfolding splice
splice-splice out xs ys at h =
    let p = take at out ++ xs in
    let q = drop (at + length xs) out in
    let e : length p ≡ at + length xs = length-append (take at out) xs ∙ ap (λ (k : ℕ). k + length xs) (length-take-le at out (omega arith)) in
    let k : at + length xs + length ys ≡ at + (length xs + length ys) = omega arith in
    ap (λ (z : List ℕ). z ++ ys ++ drop (at + length xs + length ys) (p ++ q)) (take_at p q (at + length xs) e)
    ∙ ap (λ (k : ℕ). p ++ ys ++ drop (k + length ys) (p ++ q)) (sym e)
    ∙ ap (λ (z : List ℕ). p ++ ys ++ z) (drop-append-add p q (length ys) ∙ drop-drop (length ys) (at + length xs) out)
    ∙ simp (append_assoc, length-append, k)

-- from the buffer's start on
pub splice-start : (out xs : List ℕ) → splice out 0 xs ≡ xs ++ drop (length xs) out
unfolding splice
splice-start out xs = let e : 0 + length xs ≡ length xs = omega arith in rw e

-- as a copy of all bytes leaves it
pub splice-paste : (out : List ℕ) (at : ℕ) (xs : List ℕ) → paste out at xs (length xs) ≡ splice out at xs
unfolding splice
splice-paste out at xs = rw (take_all (length xs) xs (omega arith))

-- ---- what fits

-- no bytes fit anywhere
pub fits-none : (at room : ℕ) → fits_in [] at room ≡ true
unfolding fits_in
fits-none at room = refl

-- what fits from the start on is no longer than the room
pub fits-room : (xs : List ℕ) (room : ℕ) → fits_in xs 0 room ≡ true → length xs ≤ room
unfolding fits_in
fits-room [] room h = omega arith
fits-room (x ∷ xs) room h = let g : 0 + length (x ∷ xs) ≤ room = leb-true (0 + length (x ∷ xs)) room h in omega arith

pub fits_le : (xs : List ℕ) (at room : ℕ) → at + length xs ≤ room → fits_in xs at room ≡ true
unfolding fits_in
fits_le [] at room h = refl
fits_le (x ∷ xs) at room h = le-leb _ _ h

pub fits_not : (xs : List ℕ) (at room : ℕ) → 0 < length xs → room < at + length xs → fits_in xs at room ≡ false
unfolding fits_in
fits_not [] at room p h = absurd (omega arith)
fits_not (x ∷ xs) at room p h = lt-leb _ _ h

-- ---- in two parts

-- where the first part fits, the length stays, and the second goes after it
pub length-splice : (l xs : List ℕ) (at : ℕ) → fits_in xs at (length l) ≡ true → length (splice l at xs) ≡ length l
unfolding fits_in
length-splice l [] at h = ap length (splice-none l at)
length-splice l (x ∷ xs) at h = splice-long l (x ∷ xs) at (leb-true _ _ h)

pub splice-both : (l xs ys : List ℕ) (at : ℕ) → fits_in xs at (length l) ≡ true → splice (splice l at xs) (at + length xs) ys ≡ splice l at (xs ++ ys)
unfolding fits_in
splice-both l [] ys at h = let e : at + 0 ≡ at = omega arith in rw (splice-none, e)
splice-both l (x ∷ xs) ys at h = splice-splice l (x ∷ xs) ys at (leb-true _ _ h)

-- where the first part fits, the whole fits as the second does
pub fits_in-then : (xs ys : List ℕ) (room at : ℕ) → fits_in xs at room ≡ true → fits_in (xs ++ ys) at room ≡ fits_in ys (at + length xs) room
unfolding fits_in
fits_in-then [] [] room at h = refl
fits_in-then [] (y ∷ ys) room at h = let e : at + 0 ≡ at = omega arith in rw e
fits_in-then (x ∷ xs) [] room at h = ap (λ (l : List ℕ). fits_in l at room) (append-nil (x ∷ xs)) ∙ h
fits_in-then (x ∷ xs) (y ∷ ys) room at h =
    let e : at + suc (length (xs ++ y ∷ ys)) ≡ at + suc (length xs) + suc (length ys) = simp length-append (omega arith) in
    rw e

-- where the first part does not fit, nor does the whole
pub unfits_in_then : (xs ys : List ℕ) (room at : ℕ) → fits_in xs at room ≡ false → fits_in (xs ++ ys) at room ≡ false
unfolding fits_in
unfits_in_then [] ys room at h = absurd (let z : ◌≡◌ {A = ℕ} 0 1 = cc in omega arith)
unfits_in_then (x ∷ xs) ys room at h = lt-leb (at + suc (length (xs ++ ys))) room (simp length-append (omega (arith, leb-false (at + suc (length xs)) room h)))

-- ---- Wrote

pub next-full : {X : Type 0} {n : ℕ} → Some n ≡ None → X
next-full e = absurd (let z : ◌≡◌ {A = ℕ} 0 1 = cc in omega arith)

-- bytes that fit are written
pub wrote-splice : (xs out : List ℕ) (at : ℕ) → at + length xs ≤ length out → Wrote xs out at (Some (at + length xs)) (splice out at xs)
wrote-splice xs out at h = record { answer = rw (fits_le xs at (length out) h); buffer = rw (fits_le xs at (length out) h) }

-- bytes that do not fit leave the buffer
pub wrote-full : (xs out : List ℕ) (at : ℕ) → 0 < length xs → length out < at + length xs → Wrote xs out at None out
wrote-full xs out at p h = record { answer = rw (fits_not xs at (length out) p h); buffer = rw (fits_not xs at (length out) p h) }

-- no bytes are written anywhere
pub wrote_none : (out : List ℕ) (at : ℕ) → Wrote [] out at (Some at) out
unfolding fits_in
wrote_none out at = let e : at + 0 ≡ at = omega arith in record { answer = rw e; buffer = sym (splice-none out at) }

-- what the answer `Next` tells
pub record Went (xs out : List ℕ) (at n : ℕ) (out' : List ℕ) : Type 0 where
  pub fits : fits_in xs at (length out) ≡ true
  pub place : n ≡ at + length xs
  pub buffer : out' ≡ splice out at xs

went-by : (b : Bool) {xs out out' : List ℕ} {at n : ℕ} → fits_in xs at (length out) ≡ b → Some n ≡ cond b (Some (at + length xs)) None
    → out' ≡ cond b (splice out at xs) out → Went xs out at n out'
went-by true e a w = record { fits = e; place = cc; buffer = w }
went-by false e a w = next-full a

pub went : {xs out out' : List ℕ} {at n : ℕ} {r : Option ℕ} → Wrote xs out at r out' → r ≡ Some n → Went xs out at n out'
went {xs} {out} {out'} {at} {n} {r} w e = went-by (fits_in xs at (length out)) refl (sym e ∙ w.answer) w.buffer

-- what the answer `Full` tells
pub record Stayed (xs out : List ℕ) (at : ℕ) (out' : List ℕ) : Type 0 where
  pub over : length out < at + length xs
  pub buffer : out' ≡ out

stayed-by : (b : Bool) (xs : List ℕ) {out out' : List ℕ} {at : ℕ} → fits_in xs at (length out) ≡ b → None ≡ cond b (Some (at + length xs)) None
    → out' ≡ cond b (splice out at xs) out → Stayed xs out at out'
unfolding fits_in
stayed-by true xs e a w = next-full (sym a)
stayed-by false [] e a w = absurd (let z : ◌≡◌ {A = ℕ} 0 1 = cc in omega arith)
stayed-by false (x ∷ xs) e a w = record { over = leb-false _ _ e; buffer = w }

pub stayed : {xs out out' : List ℕ} {at : ℕ} {r : Option ℕ} → Wrote xs out at r out' → r ≡ None → Stayed xs out at out'
stayed {xs} {out} {out'} {at} {r} w e = stayed-by (fits_in xs at (length out)) xs refl (sym e ∙ w.answer) w.buffer

-- the same bytes under another name
pub wrote_as : {xs ys out out' : List ℕ} {at : ℕ} {r : Option ℕ} → xs ≡ ys → Wrote ys out at r out' → Wrote xs out at r out'
wrote_as e h = rw e h

-- ---- stores one after the other

wrote-sets : (xs out : List ℕ) (at : ℕ) → at + length xs ≤ length out → Wrote xs out at (Some (at + length xs)) (sets out at xs)
unfolding splice
wrote-sets xs out at h = rw (sets-eq xs out at h) (wrote-splice xs out at h)

module _ (out : List ℕ) (at a : ℕ) where
  pub stored_1 : at + 1 ≤ length out → Wrote (a ∷ []) out at (Some (at + 1)) (set out at a)
  stored_1 h = wrote-sets (a ∷ []) out at h

  module _ (b : ℕ) where
    pub stored_2 : at + 2 ≤ length out → Wrote (a ∷ b ∷ []) out at (Some (at + 2)) (set (set out at a) (at + 1) b)
    stored_2 h = let e1 : at + 1 ≡ suc at = omega arith in rw e1 (wrote-sets (a ∷ b ∷ []) out at h)

    module _ (c : ℕ) where
      pub stored_3 : at + 3 ≤ length out → Wrote (a ∷ b ∷ c ∷ []) out at (Some (at + 3)) (set (set (set out at a) (at + 1) b) (at + 2) c)
      stored_3 h =
          let e1 : at + 1 ≡ suc at = omega arith in
          let e2 : at + 2 ≡ suc (suc at) = omega arith in
          rw (e1, e2) (wrote-sets (a ∷ b ∷ c ∷ []) out at h)

      pub stored_4 : (d : ℕ) → at + 4 ≤ length out → Wrote (a ∷ b ∷ c ∷ d ∷ []) out at (Some (at + 4)) (set (set (set (set out at a) (at + 1) b) (at + 2) c) (at + 3) d)
      stored_4 d h =
          let e1 : at + 1 ≡ suc at = omega arith in
          let e2 : at + 2 ≡ suc (suc at) = omega arith in
          let e3 : at + 3 ≡ suc (suc (suc at)) = omega arith in
          rw (e1, e2, e3) (wrote-sets (a ∷ b ∷ c ∷ d ∷ []) out at h)
