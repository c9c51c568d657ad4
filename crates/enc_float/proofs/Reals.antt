-- Laws of reals: a bit pattern, its real, and the pattern again; reading and writing at each exit. This module alone unfolds their definitions. Assumes nothing.
use mathlib.Core.Path.{◌≡◌, refl, sym, ap, ◌∙◌, subst}
use mathlib.Core.Logic.{◌⊎◌, inl, inr, ⊎_elim}
use mathlib.Core.Bool.{Bool, true, false, cond, not}
use mathlib.Core.List.{List, [], append-nil}
use Prim.Native.Nat.{ℕ, ◌*◌, ◌%◌, ◌^◌, ◌≤◌, ◌<◌, min}
use native.Mathlib.Nat.{mod-lt, mod-eq_of_lt}
use native.Mathlib.Omega.{arith}
use lib.ListN.{length, take, drop, drop_of_length-le}
use lib.Seq.{take_all}
use lib.Dec.{T, eqb}
use lib.Ieee.{Float, nan, inf, fin, Format, binary32, binary64, ne, is_nan, nan_bits, of_bits, to_bits, top}
use lib.Ieee.Bits.{to_bits-of_bits, nan_bits_is, nan_bits_above}
use lib.Ieee.Compare.{differs_from_itself, nan_differs}
use borrow.Author.Tests.{lt-ltb, le-ltb, eqb-true, eqb-false, eq-eqb, ne_eqb}
use Rattle.type_id.specs.declared.AdsTypeId.{AdsTypeId}
use Rattle.type_id.specs.declared.AdsTypeId.TheVariants.{Void, Int16, Int32, Real32, Real64, Int8, UInt8, UInt16, UInt32, Int64, UInt64, String, WString, Real80, Bit, MaxTypes, BigType, Unknown}
use Rattle.enc_float.specs.declared.Real.{Real}
use Rattle.enc_float.specs.declared.Real.TheVariants.{Single, Double, NanSingle, NanDouble}
use Rattle.enc_float.specs.declared.RealRead.TheVariants as read
use Rattle.enc_float.specs.declared.RealWrite.{RealWrite}
use Rattle.enc_float.specs.declared.RealWrite.TheVariants as write
use Rattle.enc_number.specs.Le.{Bytes, le_value, le_bytes, le_stored}
use Rattle.enc_float.specs.Float.{real_width, single_of, double_of, real_of, real_bits, real_size, read_real, write_real, real_after, RealWritten}
use Rattle.enc_float.proofs.Numbers.{real_write_is, real_write_says}
use Rattle.enc_number.proofs.ByteOrder.{le_value-below, le_bytes_mod, le_bytes-le_value}

-- ---- a pattern and its real

not-nan : (f : Format) (n : ℕ) → nan_bits f n ≡ false → T (not (nan_bits f n))
not-nan f n e = rw e tt

module _ (n : ℕ) where
  single-is : 0x7f80_0000 < n % 0x8000_0000 → nan_bits binary32 n ≡ true
  single-is h = nan_bits_above binary32 n ∙ lt-ltb 0x7f80_0000 (n % 0x8000_0000) h

  single-not : n % 0x8000_0000 ≤ 0x7f80_0000 → nan_bits binary32 n ≡ false
  single-not h = nan_bits_above binary32 n ∙ le-ltb 0x7f80_0000 (n % 0x8000_0000) h

  double-is : 0x7ff0_0000_0000_0000 < n % 0x8000_0000_0000_0000 → nan_bits binary64 n ≡ true
  double-is h = nan_bits_above binary64 n ∙ lt-ltb 0x7ff0_0000_0000_0000 (n % 0x8000_0000_0000_0000) h

  double-not : n % 0x8000_0000_0000_0000 ≤ 0x7ff0_0000_0000_0000 → nan_bits binary64 n ≡ false
  double-not h = nan_bits_above binary64 n ∙ le-ltb 0x7ff0_0000_0000_0000 (n % 0x8000_0000_0000_0000) h

  pub single-nan : 0x7f80_0000 < n % 0x8000_0000 → NanSingle n ≡ single_of n
  unfolding single_of
  single-nan h = rw (single-is h)

  pub single-plain : n % 0x8000_0000 ≤ 0x7f80_0000 → Single (of_bits binary32 n) ≡ single_of n
  unfolding single_of
  single-plain h = rw (single-not h)

  pub single-number : n % 0x8000_0000 ≤ 0x7f80_0000 → T (not (nan_bits binary32 n))
  single-number h = not-nan binary32 n (single-not h)

  pub double-nan : 0x7ff0_0000_0000_0000 < n % 0x8000_0000_0000_0000 → NanDouble n ≡ double_of n
  unfolding double_of
  double-nan h = rw (double-is h)

  pub double-plain : n % 0x8000_0000_0000_0000 ≤ 0x7ff0_0000_0000_0000 → Double (of_bits binary64 n) ≡ double_of n
  unfolding double_of
  double-plain h = rw (double-not h)

  pub double-number : n % 0x8000_0000_0000_0000 ≤ 0x7ff0_0000_0000_0000 → T (not (nan_bits binary64 n))
  double-number h = not-nan binary64 n (double-not h)

-- what holds of every NaN's pattern and of every float that a real holds, holds of the real of a pattern
pub single-by : (P : Real → Type 0) → ((m : ℕ) → P (NanSingle m)) → ((x : Float) → P (Single x)) → (n : ℕ) → P (single_of n)
unfolding single_of
single-by P k h n = by (nan_bits binary32 n)
  where
    by : (b : Bool) → P (cond b (NanSingle n) (Single (of_bits binary32 n)))
    by true = k n
    by false = h (of_bits binary32 n)

pub double-by : (P : Real → Type 0) → ((m : ℕ) → P (NanDouble m)) → ((x : Float) → P (Double x)) → (n : ℕ) → P (double_of n)
unfolding double_of
double-by P k h n = by (nan_bits binary64 n)
  where
    by : (b : Bool) → P (cond b (NanDouble n) (Double (of_bits binary64 n)))
    by true = k n
    by false = h (of_bits binary64 n)

single-size : (n : ℕ) → real_size (single_of n) ≡ 4
single-size n = single-by (λ (r : Real). real_size r ≡ 4) (λ m. refl) (λ x. refl) n

double-size : (n : ℕ) → real_size (double_of n) ≡ 8
double-size n = double-by (λ (r : Real). real_size r ≡ 8) (λ m. refl) (λ x. refl) n

-- how many bytes the real of a pattern fills
pub pattern_size : (d : Bool) (n : ℕ) → real_size (real_of d n) ≡ cond d 8 4
unfolding real_of
pattern_size true n = double-size n
pattern_size false n = single-size (n % 2 ^ 32)

module _ (d : Bool) (n : ℕ) (r : Real) where
  pub real_double : d ≡ true → r ≡ double_of n → r ≡ real_of d n
  unfolding real_of
  real_double e h = rw e h

  pub real_single : d ≡ false → r ≡ single_of (n % 0x1_0000_0000) → r ≡ real_of d n
  unfolding real_of
  real_single e h = rw e h

-- ---- the pattern of a real

-- a float that equals itself is no NaN
pub same_number : (x : Float) → ne x x ≡ false → T (not (is_nan x))
unfolding is_nan
same_number nan e = absurd (subst (λ (b : Bool). T (not b)) (sym e ∙ nan_differs) tt)
same_number (inf s) e = tt
same_number (fin s m k) e = tt

module _ (v : Real) (x : Float) where
  pub bits-nan-single : v ≡ Single x → ne x x ≡ true → 0x7fc0_0000 ≡ real_bits v
  unfolding to_bits
  bits-nan-single e h = rw (e, differs_from_itself x (rw h tt))

  pub bits-nan-double : v ≡ Double x → ne x x ≡ true → 0x7ff8_0000_0000_0000 ≡ real_bits v
  unfolding to_bits
  bits-nan-double e h = rw (e, differs_from_itself x (rw h tt))

  pub bits-single : (n : ℕ) → v ≡ Single x → n ≡ to_bits binary32 x → n ≡ real_bits v
  bits-single n e h = rw e h

  pub bits-double : v ≡ Double x → to_bits binary64 x ≡ real_bits v
  bits-double e = rw e

-- a pattern that fits its format comes back, a NaN's too: for either format, by the cases that it has
module _ (f : Format) (kept : ℕ → Real) (held : Float → Real) (k : (n : ℕ) → real_bits (kept n) ≡ n) (h : (x : Float) → real_bits (held x) ≡ to_bits f x) (n : ℕ) (l : n < 2 * top f) where
  pattern_back : real_bits (cond (nan_bits f n) (kept n) (held (of_bits f n))) ≡ n
  pattern_back = by (nan_bits f n) refl
    where
      by : (b : Bool) → nan_bits f n ≡ b → real_bits (cond b (kept n) (held (of_bits f n))) ≡ n
      by true e = k n
      by false e = h (of_bits f n) ∙ to_bits-of_bits f n l (subst (λ (b : Bool). T (not b)) (nan_bits_is f n) (not-nan f n e))

pub single-back : (n : ℕ) → n < 2 ^ 32 → real_bits (single_of n) ≡ n
unfolding single_of
single-back n l = pattern_back binary32 NanSingle Single (λ m. refl) (λ x. refl) n l

pub double-back : (n : ℕ) → n < 2 ^ 64 → real_bits (double_of n) ≡ n
unfolding double_of
double-back n l = pattern_back binary64 NanDouble Double (λ m. refl) (λ x. refl) n l

-- the bytes of the real of a pattern are the pattern's
pub pattern_bytes : (d : Bool) (n : ℕ) → n < 2 ^ 64 → le_bytes (real_size (real_of d n)) (real_bits (real_of d n)) ≡ le_bytes (cond d 8 4) n
unfolding real_of
pattern_bytes true n l = rw (double-size n, double-back n l)
pattern_bytes false n l =
    let s : n % 2 ^ 32 < 2 ^ 32 = mod-lt n (omega arith) in
    rw (single-size (n % 2 ^ 32), single-back (n % 2 ^ 32) s) (le_bytes_mod 4 n)

-- ---- reading and writing

real_widths : (t : AdsTypeId) → (real_width t ≡ 0) ⊎ ((real_width t ≡ 4) ⊎ (real_width t ≡ 8))
real_widths Void = inl refl
real_widths Int16 = inl refl
real_widths Int32 = inl refl
real_widths Real32 = inr (inl refl)
real_widths Real64 = inr (inr refl)
real_widths Int8 = inl refl
real_widths UInt8 = inl refl
real_widths UInt16 = inl refl
real_widths UInt32 = inl refl
real_widths Int64 = inl refl
real_widths UInt64 = inl refl
real_widths String = inl refl
real_widths WString = inl refl
real_widths Real80 = inl refl
real_widths Bit = inl refl
real_widths MaxTypes = inl refl
real_widths BigType = inl refl
real_widths (Unknown n) = inl refl

real_width-small : (t : AdsTypeId) → real_width t ≤ 8
real_width-small t = ⊎_elim (λ e. omega arith) (λ q. ⊎_elim (λ e. omega arith) (λ e. omega arith) q) (real_widths t)

module _ (t : AdsTypeId) (bs : List ℕ) (w : ℕ) (ew : w ≡ real_width t) where
  pub real_unsupported : w ≡ 0 → read.Unsupported ≡ read_real t bs
  unfolding read_real
  real_unsupported z = rw (← ew, z)

  module _ (some : w ≡ 0 → ⊥) where
    pub real_size_lem : (length bs ≡ w → ⊥) → read.Size ≡ read_real t bs
    unfolding read_real
    real_size_lem l = rw (← ew, ne_eqb w 0 some, ne_eqb (length bs) w l)

    pub real_value : length bs ≡ w → (n : ℕ) → n ≡ le_value (take 8 bs) → (r : Real) → r ≡ real_of (eqb w 8) n → read.Value r ≡ read_real t bs
    unfolding read_real
    real_value l n en r er =
        let e : n ≡ le_value bs = en ∙ ap le_value (take_all 8 bs (omega (arith, real_width-small t))) in
        rw (← ew, ne_eqb w 0 some, eq-eqb (length bs) w l, ← e, ← er)

-- four bytes of a Real32, eight of a Real64
pub read_single : (bs : List ℕ) → length bs ≡ 4 → read.Value (single_of (le_value bs % 2 ^ 32)) ≡ read_real Real32 bs
unfolding read_real real_of
read_single bs l = rw l

pub read_double : (bs : List ℕ) → length bs ≡ 8 → read.Value (double_of (le_value bs)) ≡ read_real Real64 bs
unfolding read_real real_of
read_double bs l = rw l

size_small : (v : Real) → real_size v ≤ 8
size_small (Single x) = omega arith
size_small (Double x) = omega arith
size_small (NanSingle n) = omega arith
size_small (NanDouble n) = omega arith

module _ (v : Real) (out : List ℕ) (w : ℕ) (ew : w ≡ real_size v) where
  pub real_written_size : (length out ≡ w → ⊥) → RealWritten v out write.Size out
  unfolding write_real real_after
  real_written_size l = record { answer = real_write_says _ _ (rw (← ew, ne_eqb (length out) w l)); buffer = rw (← ew, ne_eqb (length out) w l) }

  pub real_written : length out ≡ w → (b : ℕ) → b ≡ real_bits v → (new : List ℕ) → new ≡ le_stored (min 8 (length out)) b out → RealWritten v out write.Done new
  unfolding write_real real_after
  real_written l b eb new en =
      let k : w ≤ 8 = omega (arith, size_small v) in
      let m : min 8 (length out) ≡ w = omega arith in
      let d : drop w out ≡ [] = drop_of_length-le out {i = w} (omega arith) in
      let e : new ≡ le_bytes w b = en ∙ rw (m, d, append-nil (le_bytes w b)) in
      record { answer = real_write_says _ _ (rw (← ew, eq-eqb (length out) w l)); buffer = rw (← ew, eq-eqb (length out) w l, ← ew, ← eb) e }

-- ---- what a write's answer tells

told-done : (c : Bool) → cond c write.Done write.Size ≡ write.Done → c ≡ true
told-done true e = refl
told-done false e = absurd (let z : ◌≡◌ {A = ℕ} 0 1 = cc in omega arith)

told-size : (c : Bool) → cond c write.Done write.Size ≡ write.Size → c ≡ false
told-size false e = refl
told-size true e = absurd (let z : ◌≡◌ {A = ℕ} 0 1 = cc in omega arith)

-- done: there were as many bytes as the real fills, and they are the real's
pub record WroteReal (v : Real) (old new : List ℕ) : Type 0 where
  pub size : length old ≡ real_size v
  pub bytes : new ≡ le_bytes (real_size v) (real_bits v)

-- refused: there were not, and they stay
pub record LeftReal (v : Real) (old new : List ℕ) : Type 0 where
  pub size : length old ≡ real_size v → ⊥
  pub bytes : new ≡ old

module _ (v : Real) (old : List ℕ) {r : RealWrite} {new : List ℕ} (x : RealWritten v old r new) where
  answer-is : write_real v old ≡ r
  answer-is = sym (real_write_is _ _ x.answer)

  pub wrote_real : r ≡ write.Done → WroteReal v old new
  unfolding write_real real_after
  wrote_real e =
      let q : write_real v old ≡ write.Done = answer-is ∙ e in
      record { size = eqb-true (length old) (real_size v) (told-done (eqb (length old) (real_size v)) q); bytes = x.buffer ∙ rw q }

  pub left_real : r ≡ write.Size → LeftReal v old new
  unfolding write_real real_after
  left_real e =
      let q : write_real v old ≡ write.Size = answer-is ∙ e in
      record { size = eqb-false (length old) (real_size v) (told-size (eqb (length old) (real_size v)) q); bytes = x.buffer ∙ rw q }

-- ---- there and back

-- a pattern of 8 or 4 bytes gives a real of that size and that pattern
record Held (w n : ℕ) (v : Real) : Type 0 where
  size : real_size v ≡ w
  bits : real_bits v ≡ n

held-single : (n : ℕ) → n < 2 ^ 32 → Held 4 n (real_of false n)
unfolding real_of
held-single n l =
    let m : n % 0x1_0000_0000 ≡ n = mod-eq_of_lt l in
    rw m (record { size = single-size n; bits = single-back n l })

held-double : (n : ℕ) → n < 2 ^ 64 → Held 8 n (real_of true n)
unfolding real_of
held-double n l = record { size = double-size n; bits = double-back n l }

record ReadAs (t : AdsTypeId) (bs : List ℕ) (v : Real) : Type 0 where
  some : real_width t ≡ 0 → ⊥
  size : length bs ≡ real_width t
  held : v ≡ real_of (eqb (real_width t) 8) (le_value bs)

read_as : (t : AdsTypeId) (bs : List ℕ) (v : Real) → read.Value v ≡ read_real t bs → ReadAs t bs v
unfolding read_real
read_as t bs v e = by (eqb (real_width t) 0) refl (eqb (length bs) (real_width t)) refl e
  where
    by : (x : Bool) → eqb (real_width t) 0 ≡ x → (y : Bool) → eqb (length bs) (real_width t) ≡ y → read.Value v ≡ cond x read.Unsupported (cond y (read.Value (real_of (eqb (real_width t) 8) (le_value bs))) read.Size) → ReadAs t bs v
    by true f y g h = let z : ◌≡◌ {A = ℕ} 0 1 = cc in absurd (omega arith)
    by false f true g h = record { some = eqb-false (real_width t) 0 f; size = eqb-true (length bs) (real_width t) g; held = cc }
    by false f false g h = let z : ◌≡◌ {A = ℕ} 0 1 = cc in absurd (omega arith)

module _ (t : AdsTypeId) (bs : List ℕ) (b : Bytes bs) (v : Real) (e : read.Value v ≡ read_real t bs) where
  held_at : (w : ℕ) → real_width t ≡ w → Held w (le_value bs) (real_of (eqb w 8) (le_value bs)) → Held (length bs) (le_value bs) v
  held_at w q h =
      let s : length bs ≡ w = (read_as t bs v e).size ∙ q in
      let r : v ≡ real_of (eqb w 8) (le_value bs) = (read_as t bs v e).held ∙ ap (λ (k : ℕ). real_of (eqb k 8) (le_value bs)) q in
      rw (s, r) h

  short : (w : ℕ) → real_width t ≡ w → le_value bs < 256 ^ w
  short w q = le_value-below w bs b (omega (arith, (read_as t bs v e).size))

  held_as : Held (length bs) (le_value bs) v
  held_as =
      ⊎_elim (λ z. absurd ((read_as t bs v e).some z))
      (λ q. ⊎_elim (λ w. held_at 4 w (held-single (le_value bs) (short 4 w))) (λ w. held_at 8 w (held-double (le_value bs) (short 8 w))) q)
      (real_widths t)

  -- what is read from bytes is written as the same bytes, a NaN's too
  pub real_back : (out : List ℕ) → length out ≡ length bs → RealWritten v out write.Done bs
  unfolding write_real real_after
  real_back out l =
      let s : real_size v ≡ length bs = held_as.size in
      let q : eqb (length out) (length bs) ≡ true = eq-eqb (length out) (length bs) l in
      record { answer = real_write_says _ _ (rw (s, q)); buffer = rw (s, q, s, held_as.bits) (sym (le_bytes-le_value bs b)) }
