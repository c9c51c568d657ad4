-- A text by its blocks: what a block of ASCII is of it, and its scalar values one by one, measured and written. Assumes nothing.
use Rattle.std.specs.Prelude.{Option, Some, None}
use mathlib.Core.Path.{◌≡◌, refl, ap, ◌∙◌}
use mathlib.Core.Bool.{Bool, true}
use mathlib.Core.List.{List, ◌∷◌, ◌++◌}
use Prim.Native.Nat.{ℕ, zero, suc, ◌+◌, ◌*◌, ◌-◌, ◌/◌, ◌%◌, ◌≤◌, ◌<◌}
use native.Mathlib.Omega.{arith}
use lib.ListN.{length, get_or, drop, set, length-append}
use Rattle.enc_utf_8.specs.Buffer.{Wrote, room_for}
use Rattle.enc_utf_8.specs.Utf8.{utf8_of}
use Rattle.enc_utf_8.proofs.Encodes.{utf8_one, utf8_two, utf8_short, len-two}
use Rattle.enc_utf_8.proofs.Splices.{wrote_as, wrote-full, stored_1, stored_2}
use Rattle.enc_number.proofs.ByteOrder.{le_value-two}
use Rattle.enc_utf_16.specs.Unit16.{unit_of}
use Rattle.enc_utf_16.specs.Decode.{decode_scalars, decode16_text}
use Rattle.enc_utf_16.specs.Step.{ScalarAtIn, LeftToWrite}
use Rattle.enc_utf_16_scalar.proofs.Decodes.{nothing_left, scalar-low}
use Rattle.enc_utf_16_ascii.specs.Ascii16.{AsciiUnits, lows}
use Rattle.enc_utf_16_ascii.proofs.Blocks.{lows-length}
use Rattle.enc_utf_16_decoder.specs.Step.{TextAt16, PartWrote}
use Rattle.enc_utf_16.proofs.Runs.{left-all, left-left, left-part, left-never, room-over, text-here}

-- ---- what a block is of a text

ascii-here : (bytes : List ℕ) (at : ℕ) → at + 2 ≤ length bytes → unit_of (get_or bytes at 0) (get_or bytes (at + 1) 0) < 0x80
    → decode16_text (drop at bytes) ≡ get_or bytes at 0 ∷ decode16_text (drop (at + 2) bytes)
ascii-here bytes at h l =
    let u = unit_of (get_or bytes at 0) (get_or bytes (at + 1) 0) in
    let e : u ≡ get_or bytes at 0 = omega (arith, le_value-two (get_or bytes at 0) (get_or bytes (at + 1) 0)) in
    text-here decode_scalars utf8_of nothing_left bytes at u (at + 2) (scalar-low bytes at u (record { is = refl }) (omega arith) (omega arith)).scalar
    ∙ rw (utf8_one u l, e)

shifted : (bytes : List ℕ) (at n : ℕ) → AsciiUnits bytes at (suc n) → AsciiUnits bytes (at + 2) n
shifted bytes at n a = record {
  whole = omega (arith, a.whole);
  low = λ i l. let e : at + 2 + 2 * i ≡ at + 2 * suc i = omega arith in rw e (a.low (suc i) (omega arith));
}

ascii-text : (bytes : List ℕ) (n at : ℕ) → AsciiUnits bytes at n → decode16_text (drop at bytes) ≡ lows bytes at n ++ decode16_text (drop (at + 2 * n) bytes)
unfolding lows
ascii-text bytes zero at a = let e : at + 2 * 0 ≡ at = omega arith in rw e
ascii-text bytes (suc n) at a =
    let e : at + 2 * 0 ≡ at = omega arith in
    let f : at + 2 + 2 * n ≡ at + 2 * suc n = omega arith in
    ascii-here bytes at (omega (arith, a.whole)) (rw e at (a.low 0 (omega arith)))
    ∙ ap (λ (l : List ℕ). get_or bytes at 0 ∷ l) (ascii-text bytes n (at + 2) (shifted bytes at n a))
    ∙ rw f

block-text : (bytes : List ℕ) (at : ℕ) → AsciiUnits bytes at 32 → decode16_text (drop at bytes) ≡ lows bytes at 32 ++ decode16_text (drop (at + 64) bytes)
block-text bytes at a = ascii-text bytes 32 at a

block-length : (bytes : List ℕ) (at : ℕ) → AsciiUnits bytes at 32 → length (decode16_text (drop at bytes)) ≡ 32 + length (decode16_text (drop (at + 64) bytes))
block-length bytes at a =
    let k : length (lows bytes at 32) ≡ 32 = lows-length bytes 32 at in
    ap length (block-text bytes at a) ∙ length-append (lows bytes at 32) _ ∙ rw k

module _ (bytes : List ℕ) (at : ℕ) (t : Bool) (a : t ≡ true → AsciiUnits bytes at 32) (q : t ≡ true) where
  pub block-whole : at + 64 ≤ length bytes
  block-whole = omega (arith, (a q).whole)

  pub block_measured : TextAt16 bytes at 32 (at + 64)
  block_measured = record { is = block-length bytes at (a q); later = omega arith; within = block-whole }

  block-left : (whole out₀ out out' : List ℕ) (start to r : ℕ) → LeftToWrite whole out₀ start (decode16_text (drop at bytes)) out to → Wrote (lows bytes at 32) out to (Some r) out'
      → LeftToWrite whole out₀ start (decode16_text (drop (at + 64) bytes)) out' r
  block-left whole out₀ out out' start to r inv w = left-part (lows bytes at 32) _ (rw (block-text bytes at (a q)) at inv) w r refl

  module _ (out : List ℕ) (to : ℕ) (f : to + length (decode16_text (drop at bytes)) ≤ length out) where
    pub block_room : to + 32 ≤ length out
    block_room = omega (arith, block-length bytes at (a q))

    pub block_written : (r : ℕ) (out' : List ℕ) → Wrote (lows bytes at 32) out to (Some r) out' → PartWrote bytes at out to (at + 64) out' r
    block_written r out' w = record {
      left = block-left (decode16_text (drop at bytes)) out out out' to to r (left-all (decode16_text (drop at bytes)) out to f) w;
      later = omega arith;
      within = block-whole;
    }

-- ---- the scalar values of a block, one by one

module _ (bytes out out₁ : List ℕ) (from to at next : ℕ) (q : LeftToWrite (decode16_text (drop from bytes)) out to (decode16_text (drop at bytes)) out₁ next) where
  pub units_written : (end : ℕ) → from < end → end ≤ at → at ≤ length bytes → PartWrote bytes from out to at out₁ next
  units_written end h l k = record { left = q; later = omega arith; within = k }

  -- what fits is never refused
  pub units_never : (code after : ℕ) (r : Option ℕ) (out₂ : List ℕ) → ScalarAtIn decode_scalars bytes at code after → Wrote (utf8_of code) out₁ next r out₂ → r ≡ None → PartWrote bytes from out to at out₂ next
  units_never code after r out₂ s w e = left-never (utf8_of code) _ (rw (text-here decode_scalars utf8_of nothing_left bytes at code after s) at q) w e

-- ---- what was written

module _ (bytes whole out₀ out : List ℕ) (start from to : ℕ) (q : LeftToWrite whole out₀ start (decode16_text (drop from bytes)) out to) where
  pub part_room : to + length (decode16_text (drop from bytes)) ≤ length out
  part_room = q.fits

  pub part-next : (from' to' : ℕ) (out' : List ℕ) → PartWrote bytes from out to from' out' to' → LeftToWrite whole out₀ start (decode16_text (drop from' bytes)) out' to'
  part-next from' to' out' p = left-left q p.left

-- ---- the same, measured

pub four-at-most : (code n : ℕ) → n ≡ length (utf8_of code) → n ≤ 4
four-at-most code n e = omega (arith, (utf8_short code).four-at-most)

module _ (bytes : List ℕ) (at next size : ℕ) (q : length (decode16_text (drop at bytes)) ≡ size + length (decode16_text (drop next bytes))) where
  pub units_more : (code after n : ℕ) → ScalarAtIn decode_scalars bytes next code after → n ≡ length (utf8_of code)
      → length (decode16_text (drop at bytes)) ≡ size + n + length (decode16_text (drop after bytes))
  units_more code after n s e =
      let k = ap length (text-here decode_scalars utf8_of nothing_left bytes next code after s) ∙ length-append (utf8_of code) _ in
      omega (arith, k)

  pub units_measured : (end : ℕ) → at < end → end ≤ next → next ≤ length bytes → TextAt16 bytes at size next
  units_measured end h l k = record { is = q; later = omega arith; within = k }

-- ---- what was measured

module _ (bytes : List ℕ) (at size next used : ℕ) (here : TextAt16 bytes at size next) (inv : used + length (decode16_text (drop at bytes)) ≡ length (decode16_text bytes)) where
  pub part-again : used + size + length (decode16_text (drop next bytes)) ≡ length (decode16_text bytes)
  part-again = omega (arith, here.is)

  pub part-over : (room : ℕ) → used ≤ room → room - used < size → None ≡ room_for (length (decode16_text bytes)) room
  part-over room a h = room-over _ room (omega (arith, here.is))

-- ---- put_8

module _ (out : List ℕ) (at code : ℕ) where
  module _ (l : code < 0x80) where
    pub short_put : at < length out → Wrote (utf8_of code) out at (Some (at + 1)) (set out at code)
    short_put h = wrote_as (utf8_one code l) (stored_1 out at code (omega arith))

  pub none-full : code < 0x800 → length out ≤ at → Wrote (utf8_of code) out at None out
  none-full l h = wrote-full (utf8_of code) out at (utf8_short code).some (omega (arith, (utf8_short code).some))

  module _ (l : 0x80 ≤ code) (u : code < 0x800) where
    pub two_put : at < length out → 2 ≤ length out - at → Wrote (utf8_of code) out at (Some (at + 2)) (set (set out at (0xc0 + code / 64)) (at + 1) (0x80 + code % 64))
    two_put h k = wrote_as (utf8_two code l u) (stored_2 out at (0xc0 + code / 64) (0x80 + code % 64) (omega arith))

    pub two-full : at < length out → length out - at < 2 → Wrote (utf8_of code) out at None out
    two-full h k = wrote-full (utf8_of code) out at (utf8_short code).some (omega (arith, len-two code l u))
