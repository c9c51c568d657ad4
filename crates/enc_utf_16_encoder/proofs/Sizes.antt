-- How long a UTF-8 text is in UTF-16: no byte gives more than two. Assumes nothing.
use mathlib.Core.Path.{◌≡◌, refl, sym}
use mathlib.Core.Bool.{Bool, true, false, cond, ◌&&◌}
use mathlib.Core.List.{List, [], ◌∷◌, map, flat_map}
use Prim.Native.Nat.{ℕ, suc, ◌+◌, ◌*◌, ◌/◌, ◌%◌, ◌≤◌, ◌<◌}
use native.Mathlib.Omega.{arith}
use lib.ListN.{length, length-append}
use lib.Dec.{eqb, leb, ltb}
use borrow.Author.Tests.{le-leb, ltb-true, ltb-false}
use Rattle.enc_utf_8.specs.Utf8.{Item, scalar, error, replaced, State, state, initial, DecoderReply, give, continue, leading, following, after_reply, decode_from}
use Rattle.enc_utf_16.specs.Encode.{utf16_of, encode16_text}
use Rattle.enc_utf_16_encoder.proofs.Encodes.{one-length, two-length}

-- one scalar value takes four bytes at most
code-four : (c : ℕ) → length (utf16_of c) ≤ 4
code-four c = by (ltb c 0x10000) refl
  where
    by : (t : Bool) → ltb c 0x10000 ≡ t → length (utf16_of c) ≤ 4
    by true e = omega (arith, one-length c (ltb-true _ _ e))
    by false e = omega (arith, two-length c (ltb-false _ _ e))

abbrev size : List Item → ℕ
size is = length (flat_map utf16_of (map replaced is))

size_none : size [] ≡ 0
unfolding flat_map
size_none = refl

size_item : (i : Item) (is : List Item) → size (i ∷ is) ≡ length (utf16_of (replaced i)) + size is
unfolding flat_map
size_item i is = length-append (utf16_of (replaced i)) (flat_map utf16_of (map replaced is))

-- a byte that the decoder holds, where it needs more bytes
abbrev held : State → ℕ
held (state code seen needed lower upper) = cond (eqb needed 0) 0 1

held_one : (s : State) → held s ≤ 1
held_one (state code seen needed lower upper) = by (eqb needed 0)
  where
    by : (t : Bool) → cond t 0 1 ≤ 1
    by true = omega arith
    by false = omega arith

module _ (bs : List ℕ) (ih : (s : State) → size (decode_from s bs) ≤ 2 * (held s + length bs)) where
  more : (s : State) → size (decode_from s bs) ≤ 2 * (1 + length bs)
  more s = omega (arith, ih s, held_one s)

  fault : size (error ∷ decode_from initial bs) ≤ 2 * (1 + length bs)
  fault = omega (arith, size_item error (decode_from initial bs), one-length 0xfffd (omega arith), ih initial)

  ascii : (b : ℕ) → b < 0x80 → size (scalar b ∷ decode_from initial bs) ≤ 2 * (1 + length bs)
  ascii b h = omega (arith, size_item (scalar b) (decode_from initial bs), one-length b (omega arith), ih initial)

  size_if : (b k n : ℕ) (p q : DecoderReply) → (b < k → size (after_reply p (λ s. decode_from s bs)) ≤ n) → size (after_reply q (λ s. decode_from s bs)) ≤ n → size (after_reply (cond (ltb b k) p q) (λ s. decode_from s bs)) ≤ n
  size_if b k n p q x y = by (ltb b k) refl
    where
      by : (t : Bool) → ltb b k ≡ t → size (after_reply (cond t p q) (λ s. decode_from s bs)) ≤ n
      by true e = x (ltb-true b k e)
      by false e = y

  -- a byte that the decoder takes with none held
  size-leading : (b : ℕ) → size (after_reply (leading b) (λ s. decode_from s bs)) ≤ 2 * (1 + length bs)
  unfolding leading after_reply
  size-leading b =
      size_if b 0x80 _ _ _ (ascii b)
      (size_if b 0xc2 _ _ _ (λ h. fault)
      (size_if b 0xe0 _ _ _ (λ h. more _)
      (size_if b 0xf0 _ _ _ (λ h. more _)
      (size_if b 0xf5 _ _ _ (λ h. more _) fault))))

  -- a byte after those that it holds
  size-following : (code seen needed b : ℕ) → size (after_reply (following code seen needed b) (λ s. decode_from s bs)) ≤ 2 * (2 + length bs)
  unfolding following after_reply
  size-following code seen needed b = by (eqb (seen + 1) needed)
    where
      next : State
      next = state (code * 64 + b % 64) (seen + 1) needed 0x80 0xbf

      by : (t : Bool) → size (after_reply (cond t (give (scalar (code * 64 + b % 64))) (continue next)) (λ s. decode_from s bs)) ≤ 2 * (2 + length bs)
      by true = omega (arith, size_item (scalar (code * 64 + b % 64)) (decode_from initial bs), code-four (code * 64 + b % 64), ih initial)
      by false = omega (arith, ih next, held_one next)

size-from : (bs : List ℕ) (s : State) → size (decode_from s bs) ≤ 2 * (held s + length bs)
unfolding decode_from
size-from [] (state code seen needed lower upper) = by (eqb needed 0)
  where
    by : (t : Bool) → size (cond t [] (error ∷ [])) ≤ 2 * (cond t 0 1 + 0)
    by true = omega (arith, size_none)
    by false = omega (arith, size_none, size_item error [], one-length 0xfffd (omega arith))
size-from (b ∷ bs) (state code seen needed lower upper) =
    by (eqb needed 0) (leb lower b && leb b upper) (size-leading bs (size-from bs) b) (size-following bs (size-from bs) code seen needed b)
  where
    by : (n t : Bool) → size (after_reply (leading b) (λ s. decode_from s bs)) ≤ 2 * (1 + length bs) → size (after_reply (following code seen needed b) (λ s. decode_from s bs)) ≤ 2 * (2 + length bs)
        → size (cond n (after_reply (leading b) (λ s. decode_from s bs)) (cond t (after_reply (following code seen needed b) (λ s. decode_from s bs)) (error ∷ after_reply (leading b) (λ s. decode_from s bs))))
        ≤ 2 * (cond n 0 1 + suc (length bs))
    by true t l f = omega arith
    by false true l f = omega arith
    by false false l f = omega (arith, size_item error (after_reply (leading b) (λ s. decode_from s bs)), one-length 0xfffd (omega arith))

pub fits-short : (text : List ℕ) (room : ℕ) → length text ≤ room / 2 → true ≡ leb (length (encode16_text text)) room
fits-short text room h = sym (le-leb _ room (omega (arith, size-from text initial)))
