-- The exits and the loops of the decoder's functions, a law for each. Assumes nothing.
use Rattle.std.specs.Prelude.{Option, Some, None}
use mathlib.Core.Path.{◌≡◌, refl, sym, ap, ◌∙◌}
use mathlib.Core.Bool.{Bool, true, false, cond, ◌&&◌}
use mathlib.Core.List.{List, [], ◌∷◌, ◌++◌}
use Prim.Native.Nat.{ℕ, ◌+◌, ◌*◌, ◌-◌, ◌/◌, ◌%◌, ◌≤◌, ◌<◌}
use native.Mathlib.Nat.{add-zero}
use native.Mathlib.Omega.{arith}
use lib.ListN.{length, get_or, drop, set, length-append, length-set}
use lib.Seq.{set-set}
use lib.Dec.{leb, ltb}
use borrow.Author.Tests.{leb-true, leb-false, le-leb, ltb-true, ltb-false}
use mir.Syntax.{w8}
use mir.Val.{Fits as Holds}
use Rattle.enc_utf_8.specs.Buffer.{Wrote, Laid, room_for}
use Rattle.enc_utf_8.specs.Utf8.{utf8_of}
use Rattle.enc_utf_8.proofs.Splices.{wrote_as, wrote_none, went, stored_3}
use Rattle.enc_utf_8.proofs.Encodes.{utf8_two, utf8_three-low}
use Rattle.enc_ascii.specs.Ascii.{is_ascii}
use Rattle.enc_windows_1252.specs.Index.{code_point}
use Rattle.enc_windows_1252.specs.Text.{decode_byte, decode_text}
use Rattle.enc_windows_1252_decoder.proofs.Texts.{ascii-byte, high_byte, ascii-text, ascii-length, decode-next, decode-end, decode-part, decode-rest, decode-some, fits-short}
use Rattle.enc_utf_8.proofs.Lays.{laid_one, laid-two, laid_as, Rest, rest-room, rest-next, rest_end, put_went, count-part, count-over, count_fits, wrote-laid, wrote-over}

-- ---- decoded_len

module _ (rest : List ℕ) (n all : ℕ) (inv : n + length (decode_text rest) ≡ all) where
  module _ (block rest₁ : List ℕ) (k : ℕ) (e : rest ≡ block ++ rest₁) (q : k ≡ length (decode_text block)) where
    pub length_part : n + k + length (decode_text rest₁) ≡ all
    length_part = count-part n all _ inv (decode_text block) (decode_text rest₁) (decode-part block rest₁ e) k q

    pub length_over : (room : ℕ) → n ≤ room → room - n < k → None ≡ room_for all room
    length_over room l s = count-over n all _ inv (decode_text block) (decode_text rest₁) (decode-part block rest₁ e) k q room l s

  pub length-fits : (room : ℕ) → n ≤ room → length rest ≡ 0 → Some n ≡ room_for all room
  length-fits room l h = count_fits n all _ inv (decode-rest rest h) room l

-- ---- put_wide: m is 0 for two bytes, 1 for three

data Wide (c m : ℕ) : Type 0 where
  two : m ≡ 0 → c < 0x800 → Wide c m
  three : m ≡ 1 → 0x800 ≤ c → Wide c m

wide_by : (c m : ℕ) (t : Bool) → ltb c 0x800 ≡ t → m ≡ cond t 0 1 → Wide c m
wide_by c m true t q = two q (ltb-true c 0x800 t)
wide_by c m false t q = three q (ltb-false c 0x800 t)

wide-long : (c m : ℕ) → 0x80 ≤ c → c < 0x4000 → Wide c m → length (utf8_of c) ≡ m + 2
wide-long c m l u (two e h) = omega (arith, ap length (utf8_two c l h))
wide-long c m l u (three e h) = omega (arith, ap length (utf8_three-low c h (omega arith)))

laid-three : (out : List ℕ) (at a b c : ℕ) → at + 3 ≤ length out → Laid (a ∷ b ∷ c ∷ []) out at (at + 3) (set (set (set out at a) (at + 1) b) (at + 2) c)
laid-three out at a b c h = let w = went (stored_3 out at a b c h) refl in record { next = w.place; buffer = w.buffer }

module _ (c at : ℕ) (out : List ℕ) (l : 0x80 ≤ c) (u : c < 0x4000) where
  wide-laid : (m : ℕ) → Wide c m → at + m + 2 ≤ length out
      → Laid (utf8_of c) out at (at + m + 2) (set (set (set out at (0xe0 + c / 4096)) (at + m) (0xc0 + c / 64 % 64 - 64 * m)) (at + m + 1) (0x80 + c % 64))
  wide-laid m (two e h) r =
      let b : 0xc0 + c / 64 % 64 - 64 * 0 ≡ 0xc0 + c / 64 = omega arith in
      rw (e, add-zero, b, set-set) (laid_as (utf8_two c l h) (laid-two out at (0xc0 + c / 64) (0x80 + c % 64) (omega arith)))
  wide-laid m (three e h) r =
      let b : 0xc0 + c / 64 % 64 - 64 * 1 ≡ 0x80 + c / 64 % 64 = omega arith in
      let i : at + 1 + 1 ≡ at + 2 = omega arith in
      let j : at + 1 + 2 ≡ at + 3 = omega arith in
      rw (e, b, i, j) (laid_as (utf8_three-low c h (omega arith)) (laid-three out at (0xe0 + c / 4096) (0x80 + c / 64 % 64) (0x80 + c % 64) (omega arith)))

  module _ (m : ℕ) (q : m ≡ cond (ltb c 0x800) 0 1) (h : at + length (utf8_of c) ≤ length out) where
    all_room : at + m + 2 ≤ length out
    all_room = omega (arith, wide-long c m l u (wide_by c m (ltb c 0x800) refl q))

    pub wide-first : at < length out
    wide-first = omega (arith, all_room)

    pub wide-second : (x : ℕ) → at + m < length (set out at x)
    wide-second x = rw length-set (omega (arith, all_room))

    pub wide_third : (x y : ℕ) → at + m + 1 < length (set (set out at x) (at + m) y)
    wide_third x y = rw (length-set, length-set) (omega (arith, all_room))

    pub wide-done : Laid (utf8_of c) out at (at + m + 2) (set (set (set out at (0xe0 + c / 4096)) (at + m) (0xc0 + c / 64 % 64 - 64 * m)) (at + m + 1) (0x80 + c % 64))
    wide-done = wide-laid m (wide_by c m (ltb c 0x800) refl q) all_room

-- ---- put_byte

module _ (b at : ℕ) (out : List ℕ) (h : at + length (decode_byte b) ≤ length out) where
  pub byte-room : b < 0x80 → at < length out
  byte-room l = omega (arith, ap length (ascii-byte b l))

  pub byte-ascii : b < 0x80 → Laid (decode_byte b) out at (at + 1) (set out at b)
  byte-ascii l = laid_as (ascii-byte b l) (laid_one out at b (byte-room l))

  module _ (g : 0xa0 ≤ b) (l : b < 256) where
    pub first-room : at < length out
    first-room = omega (arith, ap length (high_byte b g l))

    two-room : at + 2 ≤ length out
    two-room = omega (arith, ap length (high_byte b g l))

    pub high-room : (x : ℕ) → at + 1 < length (set out at x)
    high-room x = rw length-set (omega (arith, two-room))

    pub byte_high : Laid (decode_byte b) out at (at + 2) (set (set out at (0xc0 + b / 64)) (at + 1) (0x80 + b % 64))
    byte_high = laid_as (high_byte b g l) (laid-two out at (0xc0 + b / 64) (0x80 + b % 64) two-room)

  module _ (c : ℕ) (e : c ≡ code_point b) where
    pub wide_room : at + length (utf8_of c) ≤ length out
    wide_room = rw e h

    pub byte-wide : (r : ℕ) (out₁ : List ℕ) → Laid (utf8_of c) out at r out₁ → Laid (decode_byte b) out at r out₁
    byte-wide r out₁ l = laid_as (ap utf8_of (sym e)) l

-- ---- put_each

module _ (xs out bytes out₁ : List ℕ) (at i n : ℕ) (q : Rest xs out at (decode_text (drop i bytes)) out₁ n) where
  module _ (h : i < length bytes) where
    pub each-room : n + length (decode_byte (get_or bytes i 0)) ≤ length out₁
    each-room = rest-room (decode_byte (get_or bytes i 0)) (decode_text (drop (i + 1) bytes)) q (decode-next bytes i h)

    pub each_again : (n₁ : ℕ) (out₂ : List ℕ) → Laid (decode_byte (get_or bytes i 0)) out₁ n n₁ out₂ → Rest xs out at (decode_text (drop (i + 1) bytes)) out₂ n₁
    each_again n₁ out₂ l = rest-next q (decode-next bytes i h) l

  pub each-end : length bytes ≤ i → Laid xs out at n out₁
  each-end h = rest_end q (decode-end bytes i h)

-- ---- put_text, put_pieces

module _ (xs out rest out₁ : List ℕ) (at n : ℕ) (q : Rest xs out at (decode_text rest) out₁ n) where
  module _ (block rest₁ : List ℕ) (e : rest ≡ block ++ rest₁) where
    pub part_room : n + length (decode_text block) ≤ length out₁
    part_room = rest-room (decode_text block) (decode_text rest₁) q (decode-part block rest₁ e)

    pub part-again : (n₁ : ℕ) (out₂ : List ℕ) → Laid (decode_text block) out₁ n n₁ out₂ → Rest xs out at (decode_text rest₁) out₂ n₁
    part-again n₁ out₂ l = rest-next q (decode-part block rest₁ e) l

  pub text-end : length rest ≡ 0 → Laid xs out at n out₁
  text-end h = rest_end q (decode-rest rest h)

-- ---- put_ascii

module _ (block : List ℕ) (t : Bool) (e : t ≡ is_ascii block) (y : t ≡ true) where
  block_room : (out : List ℕ) (at : ℕ) → at + length (decode_text block) ≤ length out → at + length block ≤ length out
  block_room out at h = omega (arith, ascii-length block t e y)

  module _ (out out₁ : List ℕ) (at : ℕ) (h : at + length (decode_text block) ≤ length out) (r : Option ℕ) (w : Wrote block out at r out₁) where
    pub block-copied : (n : ℕ) → r ≡ Some n → Laid (decode_text block) out at n out₁
    block-copied n q = laid_as (ascii-text block (sym e ∙ y)) (put_went n w q)

-- ---- surely_fits

module _ (rest : List ℕ) (n all : ℕ) (inv : all ≤ n + length (decode_text rest)) where
  pub sure_part : (block rest₁ : List ℕ) (r : ℕ) → rest ≡ block ++ rest₁ → length (decode_text block) ≤ length block + r → all ≤ n + (length block + r) + length (decode_text rest₁)
  sure_part block rest₁ r e q = omega (arith, ap length (decode-part block rest₁ e) ∙ length-append (decode_text block) (decode_text rest₁))

  pub sure_end : (room : ℕ) → n ≤ room → length rest ≡ 0 → true ≡ true → all ≤ room
  sure_end room l h t = omega (arith, ap length (decode-rest rest h))

pub not_sure : (all room : ℕ) → false ≡ true → all ≤ room
not_sure all room e = absurd (let z : ◌≡◌ {A = ℕ} 0 1 = cc in omega arith)

-- ---- fits_in

pub fits_surely : (len room : ℕ) (t : Bool) → (t ≡ true → len ≤ room) → t ≡ true → true ≡ leb len room
fits_surely len room t e q = sym (le-leb len room (e q))

-- ---- is_long_with_room

-- where it is so, any text fits
module _ (len at end : ℕ) (q : ltb 4096 len && (leb at end && leb len ((end - at) / 3)) ≡ true) where
  begins : at ≤ end
  begins = leb-true at end (by (ltb 4096 len) (leb at end) (leb len ((end - at) / 3)) q)
    where
      by : (a b c : Bool) → a && (b && c) ≡ true → b ≡ true
      by a true c z = refl
      by true false c z = z
      by false false c z = z

  thrice : len ≤ (end - at) / 3
  thrice = leb-true len ((end - at) / 3) (by (ltb 4096 len) (leb at end) (leb len ((end - at) / 3)) q)
    where
      by : (a b c : Bool) → a && (b && c) ≡ true → c ≡ true
      by a b true z = refl
      by true true false z = z
      by true false false z = z
      by false b false z = z

-- ---- decode

module _ (bytes out : List ℕ) (at : ℕ) (f : (i : ℕ) → Holds w8 (get_or bytes i 0)) (t : Bool) (e : t ≡ ltb 4096 (length bytes) && (leb at (length out) && leb (length bytes) ((length out - at) / 3))) (q : t ≡ true) where
  pub long-room : at + length (decode_text bytes) ≤ length out
  long-room =
      let z : ltb 4096 (length bytes) && (leb at (length out) && leb (length bytes) ((length out - at) / 3)) ≡ true = sym e ∙ q in
      let s : leb (length (decode_text bytes)) (length out - at) ≡ true = sym (fits-short bytes (length out - at) f (thrice (length bytes) at (length out) z)) in
      omega (arith, begins (length bytes) at (length out) z, leb-true (length (decode_text bytes)) (length out - at) s)

  pub long-done : (k : ℕ) (out₁ : List ℕ) → Laid (decode_text bytes) out at k out₁ → Wrote (decode_text bytes) out at (Some k) out₁
  long-done k out₁ l = wrote-laid (decode_text bytes) out at long-room l

module _ (bytes out : List ℕ) (at : ℕ) where
  pub decode-none : length bytes ≡ 0 → Wrote (decode_text bytes) out at (Some at) out
  decode-none h = wrote_as (decode-end bytes 0 (omega arith)) (wrote_none out at)

  pub decode-ascii : (t : Bool) (r : Option ℕ) (out₁ : List ℕ) → t ≡ is_ascii bytes → t ≡ true → Wrote bytes out at r out₁ → Wrote (decode_text bytes) out at r out₁
  decode-ascii t r out₁ e q w = wrote_as (ascii-text bytes (sym e ∙ q)) w

  pub decode-past : (length bytes ≡ 0 → ⊥) → length out < at → Wrote (decode_text bytes) out at None out
  decode-past n h = wrote-over (decode_text bytes) out at (omega arith) (decode-some bytes n)

  module _ (t : Bool) (h : at ≤ length out) (e : t ≡ leb (length (decode_text bytes)) (length out - at)) where
    pub decode-over : t ≡ false → Wrote (decode_text bytes) out at None out
    decode-over q =
        let o = leb-false (length (decode_text bytes)) (length out - at) (sym e ∙ q) in
        wrote-over (decode_text bytes) out at (omega arith) (omega arith)

    module _ (q : t ≡ true) where
      pub decode-room : at + length (decode_text bytes) ≤ length out
      decode-room = omega (arith, leb-true (length (decode_text bytes)) (length out - at) (sym e ∙ q))

      pub decode-done : (k : ℕ) (out₁ : List ℕ) → Laid (decode_text bytes) out at k out₁ → Wrote (decode_text bytes) out at (Some k) out₁
      decode-done k out₁ l = wrote-laid (decode_text bytes) out at decode-room l
