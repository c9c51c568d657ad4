-- Blocks of ASCII in UTF-16LE: their code units told, their low bytes copied. Assumes nothing.
use Rattle.std.specs.Prelude.{Some}
use mathlib.Core.Path.{◌≡◌, refl, ap}
use mathlib.Core.Bool.{Bool, true, false}
use mathlib.Core.List.{List, [], ◌∷◌, ◌++◌}
use Prim.Native.Nat.{ℕ, zero, suc, ◌+◌, ◌*◌, ◌-◌, ◌/◌, ◌≤◌, ◌<◌}
use native.Mathlib.Omega.{arith}
use lib.ListN.{length, get_or, set}
use lib.Dec.{eqb}
use borrow.Author.Tests.{eqb-true, eqb-false, eq-eqb}
use Rattle.enc_number.proofs.ByteOrder.{le_value-two}
use Rattle.enc_utf_8.specs.Buffer.{Wrote}
use Rattle.enc_utf_8.proofs.Splices.{stored_1}
use Rattle.enc_utf_16.specs.Unit16.{unit_of}
use Rattle.enc_utf_16.specs.Step.{LeftToWrite}
use Rattle.enc_utf_16.proofs.Runs.{left-all, left-part, left_end}
use Rattle.enc_utf_16_ascii.specs.Ascii16.{AsciiUnits, lows}

-- ---- ascii_units

module _ (bytes : List ℕ) (at : ℕ) where
  pub units_none : at + 64 ≤ length bytes → AsciiUnits bytes at 0
  units_none h = record { whole = omega arith; low = λ i l. absurd (omega arith) }

  module _ (i above x y : ℕ) (inv : above ≡ 0 → AsciiUnits bytes at i) where
    -- one unit more: nothing in it is above 7Fh
    pub units_again : at + 64 ≤ length bytes → i < 32 → x ≡ get_or bytes (at + 2 * i) 0 → y ≡ get_or bytes (at + 2 * i + 1) 0
        → above + (x / 128 + y) ≡ 0 → AsciiUnits bytes at (i + 1)
    units_again h l p q z = record { whole = omega arith; low = below }
      where
        before : AsciiUnits bytes at i
        before = inv (omega arith)

        below : (k : ℕ) → k < i + 1 → unit_of (get_or bytes (at + 2 * k) 0) (get_or bytes (at + 2 * k + 1) 0) < 0x80
        below k m = by (eqb k i) refl
          where
            by : (t : Bool) → eqb k i ≡ t → unit_of (get_or bytes (at + 2 * k) 0) (get_or bytes (at + 2 * k + 1) 0) < 0x80
            by true e = rw (eqb-true k i e) (omega (arith, le_value-two (get_or bytes (at + 2 * i) 0) (get_or bytes (at + 2 * i + 1) 0)))
            by false e = before.low k (omega (arith, eqb-false k i e))

    pub units_all : 32 ≤ i → i ≤ 32 → eqb above 0 ≡ true → AsciiUnits bytes at 32
    units_all l m z = let e : i ≡ 32 = omega arith in rw e at (inv (eqb-true above 0 z))

  module _ (above : ℕ) (inv : AsciiUnits bytes at 32 → above ≡ 0) (a : AsciiUnits bytes at 32) where
    -- of ASCII nothing is added up
    pub nothing-again : (i x y : ℕ) → i < 32 → x ≡ get_or bytes (at + 2 * i) 0 → y ≡ get_or bytes (at + 2 * i + 1) 0 → above + (x / 128 + y) ≡ 0
    nothing-again i x y l p q = omega (arith, inv a, a.low i l, le_value-two (get_or bytes (at + 2 * i) 0) (get_or bytes (at + 2 * i + 1) 0))

    pub nothing-all : eqb above 0 ≡ true
    nothing-all = eq-eqb above 0 (inv a)

-- ---- copy_units

pub lows-length : (bytes : List ℕ) (n at : ℕ) → length (lows bytes at n) ≡ n
unfolding lows
lows-length bytes zero at = refl
lows-length bytes (suc n) at = ap suc (lows-length bytes n (at + 2))

module _ (bytes out out₁ : List ℕ) (at to i : ℕ) (q : LeftToWrite (lows bytes at 32) out to (lows bytes (at + 2 * i) (32 - i)) out₁ (to + i)) where
  pub copy_again : i < 32 → LeftToWrite (lows bytes at 32) out to (lows bytes (at + 2 * (i + 1)) (32 - (i + 1))) (set out₁ (to + i) (get_or bytes (at + 2 * i) 0)) (to + (i + 1))
  unfolding lows
  copy_again h =
      let n : 32 - i ≡ suc (32 - (i + 1)) = omega arith in
      let e : at + 2 * i + 2 ≡ at + 2 * (i + 1) = omega arith in
      let f : to + i + 1 ≡ to + (i + 1) = omega arith in
      let p : LeftToWrite (lows bytes at 32) out to ((get_or bytes (at + 2 * i) 0 ∷ []) ++ lows bytes (at + 2 * i + 2) (32 - (i + 1))) out₁ (to + i) = rw n at q in
      rw (← e, ← f) (left-part (get_or bytes (at + 2 * i) 0 ∷ []) _ p (stored_1 out₁ (to + i) (get_or bytes (at + 2 * i) 0) (omega (arith, p.fits))) (to + i + 1) refl)

  pub copy_room : i < 32 → to + i < length out₁
  copy_room h = omega (arith, q.fits, lows-length bytes (32 - i) (at + 2 * i))

  pub copy_end : 32 ≤ i → i ≤ 32 → Wrote (lows bytes at 32) out to (Some (to + 32)) out₁
  unfolding lows
  copy_end l h =
      let n : 32 - i ≡ 0 = omega arith in
      let e : to + i ≡ to + 32 = omega arith in
      rw e at (left_end (rw n at q))

pub copy_start : (bytes out : List ℕ) (at to : ℕ) → to + 32 ≤ length out → LeftToWrite (lows bytes at 32) out to (lows bytes (at + 2 * 0) (32 - 0)) out (to + 0)
copy_start bytes out at to h =
    let e : at + 2 * 0 ≡ at = omega arith in
    let f : to + 0 ≡ to = omega arith in
    rw (e, f) (left-all (lows bytes at 32) out to (omega (arith, lows-length bytes 32 at)))
