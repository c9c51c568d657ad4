-- Laws of `Laid`: how bytes that fit are laid in several parts, and what that says of a call that writes all of them or none. Assumes nothing.
use Rattle.std.specs.Prelude.{Option, Some, None}
use mathlib.Core.Path.{◌≡◌, refl, sym, ap, ◌∙◌}
use mathlib.Core.Bool.{Bool, true, false, cond}
use mathlib.Core.List.{List, [], ◌∷◌, ◌++◌}
use Prim.Native.Nat.{ℕ, ◌+◌, ◌-◌, ◌≤◌, ◌<◌}
use native.Mathlib.Omega.{arith}
use lib.ListN.{length, set, length-append}
use lib.Dec.{leb}
use borrow.Author.Tests.{leb-true, leb-false, le-leb, lt-leb}
use Rattle.enc_utf_8.specs.Buffer.{Wrote, Laid, room_for}
use Rattle.enc_utf_8.proofs.Splices.{splice-none, splice-long, splice-splice, wrote-splice, wrote-full, went, stayed, stored_1, stored_2}

-- ---- parts

pub laid_none : (out : List ℕ) (at : ℕ) → Laid [] out at at out
laid_none out at = record { next = omega arith; buffer = sym (splice-none out at) }

pub laid_one : (out : List ℕ) (at b : ℕ) → at < length out → Laid (b ∷ []) out at (at + 1) (set out at b)
laid_one out at b h = let w = went (stored_1 out at b (omega arith)) refl in record { next = w.place; buffer = w.buffer }

pub laid-two : (out : List ℕ) (at a b : ℕ) → at + 2 ≤ length out → Laid (a ∷ b ∷ []) out at (at + 2) (set (set out at a) (at + 1) b)
laid-two out at a b h = let w = went (stored_2 out at a b h) refl in record { next = w.place; buffer = w.buffer }

pub laid-long : {xs out out₁ : List ℕ} {at n : ℕ} → at + length xs ≤ length out → Laid xs out at n out₁ → length out₁ ≡ length out
laid-long {xs} {out} {out₁} {at} {n} h l = ap length l.buffer ∙ splice-long out xs at h

pub laid_then : {xs ys out out₁ out₂ : List ℕ} {at n r : ℕ} → at + length xs ≤ length out → Laid xs out at n out₁ → Laid ys out₁ n r out₂ → Laid (xs ++ ys) out at r out₂
laid_then {xs} {ys} {out} {out₁} {out₂} {at} {n} {r} h a b = record {
  next = b.next ∙ rw (a.next, length-append) (omega arith);
  buffer = b.buffer ∙ rw (a.buffer, a.next) (splice-splice out xs ys at h);
}

-- the same bytes under another name
pub laid_as : {xs ys out out₁ : List ℕ} {at r : ℕ} → xs ≡ ys → Laid ys out at r out₁ → Laid xs out at r out₁
laid_as e l = rw e l

-- one byte after what is laid
module _ (xs out out₁ : List ℕ) (at e b : ℕ) (h : at + length (xs ++ (b ∷ [])) ≤ length out) (l : Laid xs out at e out₁) where
  fits-before : at + length xs ≤ length out
  fits-before = omega (arith, length-append xs (b ∷ []))

  pub last-room : e < length out₁
  last-room = omega (arith, length-append xs (b ∷ []), l.next, laid-long fits-before l)

  pub laid-last : Laid (xs ++ (b ∷ [])) out at (e + 1) (set out₁ e b)
  laid-last = laid_then fits-before l (laid_one out₁ e b last-room)

-- ---- a loop: whatever lays `ys` from here on, lays `xs` from the loop's beginning on

pub record Rest (xs out : List ℕ) (at : ℕ) (ys out₁ : List ℕ) (at₁ : ℕ) : Type 0 where
  pub finish : (r : ℕ) (out₂ : List ℕ) → Laid ys out₁ at₁ r out₂ → Laid xs out at r out₂
  pub room : at₁ + length ys ≤ length out₁
  pub long : length out₁ ≡ length out

pub rest_all : {xs out : List ℕ} {at : ℕ} → at + length xs ≤ length out → Rest xs out at xs out at
rest_all h = record { finish = λ r out₂ l. l; room = h; long = refl }

-- the next part has room
pub rest-room : {xs ys out out₁ : List ℕ} {at at₁ : ℕ} (us vs : List ℕ) → Rest xs out at ys out₁ at₁ → ys ≡ us ++ vs → at₁ + length us ≤ length out₁
rest-room {ys = ys} us vs q e =
    let k : length ys ≡ length us + length vs = ap length e ∙ length-append us vs in
    omega (arith, q.room)

-- one part more
pub rest-next : {xs ys us vs out out₁ out₂ : List ℕ} {at at₁ n : ℕ} → Rest xs out at ys out₁ at₁ → ys ≡ us ++ vs → Laid us out₁ at₁ n out₂ → Rest xs out at vs out₂ n
rest-next {xs} {ys} {us} {vs} {out} {out₁} {out₂} {at} {at₁} {n} q e l =
    let k : length ys ≡ length us + length vs = ap length e ∙ length-append us vs in
    let h : at₁ + length us ≤ length out₁ = rest-room us vs q e in
    record {
      finish = λ r out₃ l'. q.finish r out₃ (laid_as e (laid_then h l l'));
      room = omega (arith, q.room, l.next, laid-long h l);
      long = laid-long h l ∙ q.long;
    }

pub rest_end : {xs ys out out₁ : List ℕ} {at at₁ : ℕ} → Rest xs out at ys out₁ at₁ → ys ≡ [] → Laid xs out at at₁ out₁
rest_end {xs} {ys} {out} {out₁} {at} {at₁} q e = q.finish at₁ out₁ (laid_as e (laid_none out₁ at₁))

-- ---- what a call that writes all or nothing tells where it is known to fit

pub put_went : {xs out out₁ : List ℕ} {at : ℕ} {r : Option ℕ} (n : ℕ) → Wrote xs out at r out₁ → r ≡ Some n → Laid xs out at n out₁
put_went n w e = let g = went w e in record { next = g.place; buffer = g.buffer }

pub put_never : {X : Type 0} {xs out out₁ : List ℕ} {at : ℕ} {r : Option ℕ} → at + length xs ≤ length out → Wrote xs out at r out₁ → r ≡ None → X
put_never h w e = absurd (let s = stayed w e in omega (arith, s.over))

-- ---- a length that was asked for beforehand

pub record Fitting (n len room : ℕ) : Type 0 where
  pub is : n ≡ len
  pub fits : len ≤ room

fits-over : {X : Type 0} {n : ℕ} → Some n ≡ None → X
fits-over e = absurd (let z : ◌≡◌ {A = ℕ} 0 1 = cc in omega arith)

pub room_fits : {r : Option ℕ} (n len room : ℕ) → r ≡ room_for len room → r ≡ Some n → Fitting n len room
room_fits {r} n len room e q = by (leb len room) refl (sym q ∙ e)
  where
    by : (b : Bool) → leb len room ≡ b → Some n ≡ cond b (Some len) None → Fitting n len room
    by true h z = record { is = cc; fits = leb-true len room h }
    by false h z = fits-over z

pub room-over : {r : Option ℕ} (len room : ℕ) → r ≡ room_for len room → r ≡ None → room < len
room-over {r} len room e q = by (leb len room) refl (sym q ∙ e)
  where
    by : (b : Bool) → leb len room ≡ b → None ≡ cond b (Some len) None → room < len
    by true h z = fits-over (sym z)
    by false h z = leb-false len room h

-- ---- counting a length: n bytes and `ys`, which are left, make `all`

module _ (n all : ℕ) (ys : List ℕ) (inv : n + length ys ≡ all) where
  module _ (us vs : List ℕ) (e : ys ≡ us ++ vs) (k : ℕ) (q : k ≡ length us) where
    pub count-part : n + k + length vs ≡ all
    count-part = omega (arith, ap length e ∙ length-append us vs)

    pub count-over : (room : ℕ) → n ≤ room → room - n < k → None ≡ room_for all room
    count-over room l s = sym (rw (lt-leb all room (omega (arith, count-part))))

  pub count-all : ys ≡ [] → n ≡ all
  count-all e = omega (arith, ap length e)

  pub count_fits : ys ≡ [] → (room : ℕ) → n ≤ room → Some n ≡ room_for all room
  count_fits e room l = let z = count-all e in sym (rw (← z, le-leb n room l))

-- ---- a call that asks for the length, and then writes all or nothing

module _ (xs out : List ℕ) (at : ℕ) where
  pub wrote-laid : {n : ℕ} {out₁ : List ℕ} → at + length xs ≤ length out → Laid xs out at n out₁ → Wrote xs out at (Some n) out₁
  wrote-laid h l = rw (l.next, l.buffer) (wrote-splice xs out at h)

  pub wrote-over : length out < at + length xs → 0 < length xs → Wrote xs out at None out
  wrote-over h p = wrote-full xs out at p h
