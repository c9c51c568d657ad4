-- The encoder, scalar value by scalar value. This module alone opens `utf16_of`. Assumes nothing.
use Rattle.std.specs.Prelude.{Option, Some}
use mathlib.Core.Path.{◌≡◌, refl, ◌∙◌}
use mathlib.Core.List.{List, [], ◌∷◌, ◌++◌}
use Prim.Native.Nat.{ℕ, ◌+◌, ◌-◌, ◌/◌, ◌%◌, ◌≤◌, ◌<◌}
use native.Mathlib.Omega.{arith}
use borrow.Rule.Slice.PartMut.{put_mid}
use lib.ListN.{length, length-append}
use borrow.Author.Tests.{lt-ltb, le-ltb}
use Rattle.enc_number.proofs.ByteOrder.{length-le_bytes, le_bytes-two}
use Rattle.enc_utf_8.specs.Buffer.{splice, Wrote}
use Rattle.enc_utf_8.proofs.Splices.{splice-paste, wrote-splice, wrote_as}
use Rattle.std.proofs.lemmas.Slice.{put_mid-paste}
use Rattle.enc_utf_16.specs.Encode.{unit_bytes, leading_of, trailing_of, utf16_of}

-- a part of a buffer that was replaced by bytes of its length
pub wrote-part : (xs out ys : List ℕ) (at n : ℕ) → length xs ≡ n → at + n ≤ length out → ys ≡ xs → Wrote xs out at (Some (at + n)) (put_mid at (at + n - at) out ys)
wrote-part xs out ys at n e h q =
    let p : at + n ≡ at + length xs = omega arith in
    let s : put_mid at (at + n - at) out ys ≡ splice out at xs = put_mid-paste at (at + n - at) out ys xs (length xs) q (omega arith) refl ∙ splice-paste out at xs in
    rw (s, p) (wrote-splice xs out at (omega arith))

-- the bytes of two code units
pub pair_bytes : (a b : ℕ) → unit_bytes a ++ unit_bytes b ≡ a % 256 ∷ a / 256 % 256 ∷ b % 256 ∷ b / 256 % 256 ∷ []
pair_bytes a b = rw (le_bytes-two a, le_bytes-two b)

module _ (c : ℕ) where
  pub one_unit : c < 0x10000 → utf16_of c ≡ unit_bytes c
  unfolding utf16_of
  one_unit h = rw (lt-ltb c 0x10000 h)

  pub two_units : 0x10000 ≤ c → utf16_of c ≡ unit_bytes (leading_of c) ++ unit_bytes (trailing_of c)
  unfolding utf16_of
  two_units h = rw (le-ltb c 0x10000 h)

  pub one-length : c < 0x10000 → 2 ≡ length (utf16_of c)
  one-length h = rw (one_unit h, length-le_bytes 2 c)

  pub two-length : 0x10000 ≤ c → 4 ≡ length (utf16_of c)
  two-length h = rw (two_units h, length-append, length-le_bytes 2 (leading_of c), length-le_bytes 2 (trailing_of c))

  module _ {out out' : List ℕ} {at : ℕ} {r : Option ℕ} where
    pub put_one : c < 0x10000 → Wrote (unit_bytes c) out at r out' → Wrote (utf16_of c) out at r out'
    put_one h w = wrote_as (one_unit h) w

    pub put_two : 0x10000 ≤ c → Wrote (unit_bytes (leading_of c) ++ unit_bytes (trailing_of c)) out at r out' → Wrote (utf16_of c) out at r out'
    put_two h w = wrote_as (two_units h) w
