-- Laws of reading and writing integers, at each exit, and both together; this module alone unfolds their definitions. Assumes nothing.
use mathlib.Core.Path.{◌≡◌, refl, sym, ap, ◌∙◌}
use mathlib.Core.Bool.{Bool, true, false, cond}
use mathlib.Core.List.{List, [], append-nil}
use Prim.Native.Nat.{ℕ, ◌+◌, ◌-◌, ◌*◌, ◌/◌, ◌^◌, ◌≤◌, ◌<◌, min}
use native.Mathlib.Omega.{arith}
use lib.ListN.{length, get_or, take, drop, drop_of_length-le}
use lib.Seq.{take_all}
use lib.Dec.{leb, eqb}
use lib.IntN.{ℤ, pos}
use mir.Syntax.{w8, w64}
use mir.Val.{Fits}
use borrow.Author.Tests.{eqb-true, eqb-false, eq-eqb, ne_eqb}
use Rattle.type_id.specs.declared.AdsTypeId.{AdsTypeId}
use Rattle.type_id.specs.declared.AdsTypeId.TheVariants.{Void, Int16, Int32, Real32, Real64, Int8, UInt8, UInt16, UInt32, Int64, UInt64, String, WString, Real80, Bit, MaxTypes, BigType, Unknown}
use Rattle.enc_integer.specs.declared.Integer.{Integer}
use Rattle.enc_integer.specs.declared.Integer.TheVariants.{Signed, Unsigned}
use Rattle.enc_integer.specs.declared.IntegerRead.TheVariants as read
use Rattle.enc_integer.specs.declared.IntegerWrite.{IntegerWrite}
use Rattle.enc_integer.specs.declared.IntegerWrite.TheVariants as write
use Rattle.enc_number.specs.Le.{Bytes, le_value, le_bytes, le_stored}
use Rattle.type_id.specs.TypeId.{id_width, id_signed}
use Rattle.enc_integer.specs.Integer.{twos_complement, twos_bits, integer_value, bytes_value, pattern_of, integer_of, read_integer, fits_signed, fits_unsigned, fits_id, write_integer, integer_after, integer_bytes, IntegerWritten}
use Rattle.enc_number.proofs.ByteOrder.{le_value-below, le_bytes_mod, le_bytes-le_value, pow_bytes, bytes_of}
use Rattle.enc_integer.proofs.Numbers.{integer_write_is, integer_write_says}
use Rattle.enc_integer.proofs.TwosComplement.{bits_of_twos, bits_of_plain, twos_back, plain_back, twos_extended, twos_fits, plain_fits, signed-plain, signed_low, signed_high, unsigned-plain, unsigned-high, unsigned-low}

pub width_small : (t : AdsTypeId) → id_width t ≤ 8
width_small Void = omega arith
width_small Int16 = omega arith
width_small Int32 = omega arith
width_small Real32 = omega arith
width_small Real64 = omega arith
width_small Int8 = omega arith
width_small UInt8 = omega arith
width_small UInt16 = omega arith
width_small UInt32 = omega arith
width_small Int64 = omega arith
width_small UInt64 = omega arith
width_small String = omega arith
width_small WString = omega arith
width_small Real80 = omega arith
width_small Bit = omega arith
width_small MaxTypes = omega arith
width_small BigType = omega arith
width_small (Unknown n) = omega arith

pub width-most : (t : AdsTypeId) (w : ℕ) → w ≡ id_width t → w ≤ 8
width-most t w e = omega (arith, width_small t)

-- ---- reading

module _ (t : AdsTypeId) (bs : List ℕ) (w : ℕ) (ew : w ≡ id_width t) where
  pub read_unsupported : w ≡ 0 → read.Unsupported ≡ read_integer t bs
  unfolding read_integer
  read_unsupported z = rw (← ew, z)

  module _ (some : w ≡ 0 → ⊥) where
    pub read_size : (length bs ≡ w → ⊥) → read.Size ≡ read_integer t bs
    unfolding read_integer
    read_size l = rw (← ew, ne_eqb w 0 some, ne_eqb (length bs) w l)

    module _ (l : length bs ≡ w) (n : ℕ) (en : n ≡ le_value (take 8 bs)) where
      whole-value : n ≡ le_value bs
      whole-value = en ∙ ap le_value (take_all 8 bs (omega (arith, width_small t)))

      pub value-small : ((i : ℕ) → Fits w8 (get_or bs i 0)) → n < 2 ^ (8 * w)
      value-small f = rw (whole-value, ← pow_bytes w) (le_value-below w bs (bytes_of bs f) (omega arith))

      module _ (s : Bool) (es : s ≡ id_signed t) where
        pub read_signed : s ≡ true → (x : ℕ) → x ≡ twos_bits 8 (twos_complement w n) → read.Value (Signed w x) ≡ read_integer t bs
        unfolding read_integer integer_of bytes_value
        read_signed q x ex = rw (← ew, ne_eqb w 0 some, eq-eqb (length bs) w l, ← es, q, ← whole-value, ← ex)

        pub read_unsigned : s ≡ false → read.Value (Unsigned w n) ≡ read_integer t bs
        unfolding read_integer integer_of
        read_unsigned q = rw (← ew, ne_eqb w 0 some, eq-eqb (length bs) w l, ← es, q, ← whole-value)

-- ---- ranges

module _ (v : Integer) (a b w most : ℕ) (h : 1 ≤ w) (k : w ≤ 8) (q : most + 1 ≡ 2 ^ (8 * w)) where
  pub signed_of_plain : v ≡ Unsigned a b → leb b (most / 2) ≡ fits_signed w (integer_value v)
  signed_of_plain e = rw e (signed-plain w most b h k q)

  pub signed_of_low : v ≡ Signed a b → b ≤ most / 2 → true ≡ fits_signed w (integer_value v)
  signed_of_low e l = rw e (signed_low w most b h k q l)

  pub signed_of_high : v ≡ Signed a b → most / 2 < b → Fits w64 b → leb (18446744073709551615 - most / 2) b ≡ fits_signed w (integer_value v)
  signed_of_high e l f = rw e (signed_high w most b h k q l f.fits)

  pub unsigned_of_plain : v ≡ Unsigned a b → leb b most ≡ fits_unsigned w (integer_value v)
  unsigned_of_plain e = rw e (unsigned-plain w most b h k q)

  pub unsigned_of_high : v ≡ Signed a b → 9223372036854775807 < b → Fits w64 b → false ≡ fits_unsigned w (integer_value v)
  unsigned_of_high e l f = rw e (unsigned-high w most b h k q l f.fits)

  pub unsigned_of_low : v ≡ Signed a b → b ≤ 9223372036854775807 → leb b most ≡ fits_unsigned w (integer_value v)
  unsigned_of_low e l = rw e (unsigned-low w most b h k q l)

module _ (t : AdsTypeId) (z : ℤ) (w : ℕ) (ew : w ≡ id_width t) (s : Bool) (es : s ≡ id_signed t) (r : Bool) where
  pub fits_as_signed : s ≡ true → r ≡ fits_signed w z → r ≡ fits_id t z
  unfolding fits_id
  fits_as_signed q e = rw (← es, q, ← ew) e

  pub fits_as_unsigned : s ≡ false → r ≡ fits_unsigned w z → r ≡ fits_id t z
  unfolding fits_id
  fits_as_unsigned q e = rw (← es, q, ← ew) e

-- ---- writing

-- the bytes of a value are the lowest of the 64 bits that it holds
pattern_bytes : (v : Integer) (w : ℕ) → w ≤ 8 → pattern_of v < 2 ^ 64 → le_bytes w (pattern_of v) ≡ le_bytes w (twos_bits w (integer_value v))
pattern_bytes (Signed a b) w k l = sym (rw (bits_of_twos w 8 b (omega arith) k l, ← pow_bytes w) (le_bytes_mod w b))
pattern_bytes (Unsigned a n) w k l = sym (rw (bits_of_plain w n, ← pow_bytes w) (le_bytes_mod w n))

module _ (t : AdsTypeId) (v : Integer) (out : List ℕ) (w : ℕ) (ew : w ≡ id_width t) where
  refused : {r : write.the_data} → r ≡ write_integer t v out → integer_after r (integer_bytes t v) out ≡ out → IntegerWritten t v out r out
  refused e h = record { answer = integer_write_says _ _ e; buffer = rw (← e) (sym h) }

  pub write_unsupported : w ≡ 0 → IntegerWritten t v out write.Unsupported out
  unfolding write_integer integer_after
  write_unsupported z = refused (rw (← ew, z)) refl

  module _ (some : w ≡ 0 → ⊥) (s : Bool) (es : s ≡ fits_id t (integer_value v)) where
    pub write_out : s ≡ false → IntegerWritten t v out write.OutOfRange out
    unfolding write_integer integer_after
    write_out q = refused (rw (← ew, ne_eqb w 0 some, ← es, q)) refl

    module _ (q : s ≡ true) where
      pub write_size : (length out ≡ w → ⊥) → IntegerWritten t v out write.Size out
      unfolding write_integer integer_after
      write_size l = refused (rw (← ew, ne_eqb w 0 some, ← es, q, ne_eqb (length out) w l)) refl

      done : length out ≡ w → write.Done ≡ write_integer t v out
      unfolding write_integer
      done l = rw (← ew, ne_eqb w 0 some, ← es, q, eq-eqb (length out) w l)

      pub write_done : length out ≡ w → (b : ℕ) → b ≡ pattern_of v → Fits w64 b → (new : List ℕ) → new ≡ le_stored (min 8 (length out)) b out → IntegerWritten t v out write.Done new
      unfolding integer_after integer_bytes
      write_done l b eb f new en =
          let k : w ≤ 8 = omega (arith, width_small t) in
          let m : min 8 (length out) ≡ w = omega arith in
          let d : drop w out ≡ [] = drop_of_length-le out {i = w} (omega arith) in
          let g : pattern_of v < 2 ^ 64 = rw (← eb) f.fits in
          record {
            answer = integer_write_says _ _ (done l);
            buffer = rw (← done l, ← ew) (en ∙ rw (m, d, append-nil (le_bytes w b), eb) (pattern_bytes v w k g));
          }

-- ---- what a write's answer tells

module _ (t : AdsTypeId) (v : Integer) (old : List ℕ) {r : IntegerWrite} {new : List ℕ} (x : IntegerWritten t v old r new) where
  pub write_answer : write_integer t v old ≡ r
  write_answer = sym (integer_write_is _ _ x.answer)

  -- done: the bytes are the value's
  pub written_done : r ≡ write.Done → new ≡ integer_bytes t v
  unfolding integer_after
  written_done e = x.buffer ∙ rw (write_answer ∙ e)

  -- refused: the bytes are those that there were
  pub written_not : (r ≡ write.Done → ⊥) → new ≡ old
  unfolding integer_after
  written_not n = x.buffer ∙ rw write_answer (by r n)
    where
      by : (w : IntegerWrite) → (w ≡ write.Done → ⊥) → integer_after w (integer_bytes t v) old ≡ old
      by write.Done h = absurd (h refl)
      by write.OutOfRange h = refl
      by write.Size h = refl
      by write.Unsupported h = refl

-- ---- there and back

record ReadAs (t : AdsTypeId) (bs : List ℕ) (v : Integer) : Type 0 where
  some : id_width t ≡ 0 → ⊥
  size : length bs ≡ id_width t
  held : v ≡ integer_of t bs

read_as : (t : AdsTypeId) (bs : List ℕ) (v : Integer) → read.Value v ≡ read_integer t bs → ReadAs t bs v
unfolding read_integer
read_as t bs v e = by (eqb (id_width t) 0) refl (eqb (length bs) (id_width t)) refl e
  where
    by : (x : Bool) → eqb (id_width t) 0 ≡ x → (y : Bool) → eqb (length bs) (id_width t) ≡ y → read.Value v ≡ cond x read.Unsupported (cond y (read.Value (integer_of t bs)) read.Size) → ReadAs t bs v
    by true f y g h = let z : ◌≡◌ {A = ℕ} 0 1 = cc in absurd (omega arith)
    by false f true g h = record { some = eqb-false (id_width t) 0 f; size = eqb-true (length bs) (id_width t) g; held = cc }
    by false f false g h = let z : ◌≡◌ {A = ℕ} 0 1 = cc in absurd (omega arith)

module _ (t : AdsTypeId) (bs : List ℕ) (b : Bytes bs) (v : Integer) (e : read.Value v ≡ read_integer t bs) where
  wide : 1 ≤ id_width t
  wide = let h = (read_as t bs v e).some in omega arith

  low : le_value bs < 2 ^ (8 * id_width t)
  low = rw (← pow_bytes (id_width t)) (le_value-below (id_width t) bs b (omega (arith, (read_as t bs v e).size)))

  -- the value that is read is the one that the bytes stand for
  pub read_value : integer_value v ≡ bytes_value t bs
  unfolding integer_of bytes_value
  read_value = ap integer_value (read_as t bs v e).held ∙ by (id_signed t)
    where
      by : (s : Bool) → integer_value (cond s (Signed (id_width t) (twos_bits 8 (cond s (twos_complement (id_width t) (le_value bs)) (pos (le_value bs))))) (Unsigned (id_width t) (le_value bs))) ≡ cond s (twos_complement (id_width t) (le_value bs)) (pos (le_value bs))
      by true = twos_extended (id_width t) (le_value bs) low wide (width_small t)
      by false = refl

  in_range_lem : fits_id t (bytes_value t bs) ≡ true
  unfolding fits_id bytes_value
  in_range_lem = by (id_signed t)
    where
      by : (s : Bool) → cond s (fits_signed (id_width t) (cond s (twos_complement (id_width t) (le_value bs)) (pos (le_value bs)))) (fits_unsigned (id_width t) (cond s (twos_complement (id_width t) (le_value bs)) (pos (le_value bs)))) ≡ true
      by true = twos_fits (id_width t) (le_value bs) low wide
      by false = plain_fits (id_width t) (le_value bs) low

  same_bits : twos_bits (id_width t) (bytes_value t bs) ≡ le_value bs
  unfolding bytes_value
  same_bits = by (id_signed t)
    where
      by : (s : Bool) → twos_bits (id_width t) (cond s (twos_complement (id_width t) (le_value bs)) (pos (le_value bs))) ≡ le_value bs
      by true = twos_back (id_width t) (le_value bs) low wide
      by false = plain_back (id_width t) (le_value bs) low

  -- what is read from bytes is written as the same bytes
  pub integer_back : (out : List ℕ) → length out ≡ length bs → IntegerWritten t v out write.Done bs
  unfolding integer_after integer_bytes
  integer_back out l =
      let q : true ≡ fits_id t (integer_value v) = sym (ap (fits_id t) read_value ∙ in_range_lem) in
      let d : write.Done ≡ write_integer t v out = done t v out (id_width t) refl (read_as t bs v e).some true q refl (l ∙ (read_as t bs v e).size) in
      let m : le_bytes (id_width t) (le_value bs) ≡ bs = rw (read_as t bs v e).size at (le_bytes-le_value bs b) in
      record { answer = integer_write_says _ _ d; buffer = rw (← d, read_value, same_bits) (sym m) }
