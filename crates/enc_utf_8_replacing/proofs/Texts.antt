-- Laws of the text of bytes: the only place that opens `decode8_text`. Assumes nothing.
use mathlib.Core.Path.{◌≡◌, refl, sym, ap, ◌∙◌}
use mathlib.Core.Bool.{Bool, true, false, cond, ◌&&◌}
use mathlib.Core.List.{List, [], ◌∷◌, ◌++◌, append_assoc, flat_map, map}
use Prim.Native.Nat.{ℕ, zero, suc, ◌+◌, ◌*◌, ◌%◌, ◌/◌, ◌-◌, ◌≤◌, ◌<◌}
use native.Mathlib.Omega.{arith}
use lib.ListN.{length, take, drop, length-append, take-append-drop, drop_of_length-le}
use lib.Seq.{drop-drop}
use lib.Dec.{leb, ltb, eqb}
use borrow.Author.Tests.{le-leb, ltb-true, ltb-false}
use Rattle.enc_utf_8.specs.declared.Char.{Char}
use Rattle.enc_utf_8.specs.declared.Char.TheVariants.{Code, Error, End}
use Rattle.enc_utf_8.specs.Utf8.{Item, scalar, error, State, state, initial, DecoderReply, give, continue, lower_of, upper_of, leading, following, after_reply, decode_from, decode, no_error, well_formed, replaced, scalars, utf8_of, next_at, Stretch}
use Rattle.enc_utf_8.proofs.Encodes.{utf8_one, utf8_short, len-three}
use Rattle.enc_utf_8.proofs.Items.{next-code, next-error, next-none, scalars-code, scalars-error}
use Rattle.enc_utf_8.proofs.Trips.{formed_utf8}
use Rattle.enc_utf_8_replacing.specs.Text.{decode8_text}
use Rattle.enc_utf_8_replacing.specs.Step.{ScalarAt}
use Rattle.enc_utf_8_replacing.proofs.Formed.{decode-join, formed-own}

-- ---- in parts

items_append : (is js : List Item) → flat_map utf8_of (map replaced (is ++ js)) ≡ flat_map utf8_of (map replaced is) ++ flat_map utf8_of (map replaced js)
unfolding flat_map
items_append [] js = refl
items_append (i ∷ is) js = rw (items_append is js, append_assoc)

-- well-formed bytes are their own text
pub text-formed : (bytes : List ℕ) → well_formed bytes ≡ true → decode8_text bytes ≡ bytes
unfolding decode8_text
text-formed bytes h = formed-own bytes h

-- and what follows them is decoded as if it stood alone
text-join : (xs ys : List ℕ) → well_formed xs ≡ true → decode8_text (xs ++ ys) ≡ xs ++ decode8_text ys
unfolding decode8_text
text-join xs ys h =
    ap (λ (is : List Item). flat_map utf8_of (map replaced is)) (decode-join xs ys h)
    ∙ items_append (decode xs) (decode ys)
    ∙ rw (formed-own xs h)

pub text-part : (bytes : List ℕ) (at e : ℕ) → Stretch bytes at e → decode8_text (drop at bytes) ≡ take (e - at) (drop at bytes) ++ decode8_text (drop e bytes)
text-part bytes at e f =
    let k : at + (e - at) ≡ e = omega (arith, f.order) in
    ap decode8_text (sym (take-append-drop (e - at) (drop at bytes)))
    ∙ text-join (take (e - at) (drop at bytes)) (drop (e - at) (drop at bytes)) f.formed
    ∙ ap (λ (l : List ℕ). take (e - at) (drop at bytes) ++ decode8_text l) (drop-drop (e - at) at bytes ∙ ap (λ (n : ℕ). drop n bytes) k)

pub text-scalar : (bytes : List ℕ) (at code next : ℕ) → ScalarAt bytes at code next → decode8_text (drop at bytes) ≡ utf8_of code ++ decode8_text (drop next bytes)
unfolding decode8_text flat_map
text-scalar bytes at code next s = ap (flat_map utf8_of) s.is

pub text-end : (bytes : List ℕ) (at : ℕ) → length bytes ≤ at → decode8_text (drop at bytes) ≡ []
unfolding decode8_text decode_from flat_map
text-end bytes at h = rw (drop_of_length-le bytes h)

-- ---- the exits of `scalar_8`

module _ (bytes : List ℕ) (at : ℕ) (r : Char) (h : r ≡ next_at bytes at) where
  pub scalar-code : (c e : ℕ) → r ≡ Code c e → ScalarAt bytes at c e
  scalar-code c e k = let b = next-code bytes at r h c e k in record { is = scalars-code bytes at r h c e k; later = b.past; within = b.within }

  pub scalar-error : (e : ℕ) → r ≡ Error e → ScalarAt bytes at 0xfffd e
  scalar-error e k = let b = next-error bytes at r h e k in record { is = scalars-error bytes at r h e k; later = b.past; within = b.within }

  pub scalar-none : at < length bytes → r ≡ End → ScalarAt bytes at 0 at
  scalar-none l k = absurd (omega (arith, (next-none bytes at r h k).past))

-- ---- no byte gives more than three

-- the text of some items, where at most `n` bytes are left
record AtMost (n : ℕ) (is : List Item) : Type 0 where
  most : length (flat_map utf8_of (map replaced is)) ≤ n

-- three for each byte that is left, and three for those of a code point that was begun
abbrev room : State → List ℕ → ℕ
room (state code seen needed lower upper) bs = 3 * length bs + cond (eqb needed 0) 0 3

most-cons : (c n m : ℕ) (i : Item) (is : List Item) → replaced i ≡ c → length (utf8_of c) ≤ m → AtMost n is → AtMost (m + n) (i ∷ is)
unfolding flat_map
most-cons c n m i is e l a = record { most = rw (e, length-append) (omega (arith, a.most)) }

most-wider : {n m : ℕ} {is : List Item} → n ≤ m → AtMost n is → AtMost m is
most-wider h a = record { most = omega (arith, a.most) }

most_if : (t : Bool) {n : ℕ} {is js : List Item} → AtMost n is → AtMost n js → AtMost n (cond t is js)
most_if true p q = p
most_if false p q = q

replacement : length (utf8_of 0xfffd) ≤ 3
replacement = omega (arith, len-three 0xfffd (omega arith) (omega arith))

-- what comes after a reply, where what comes after a state is known
module _ (bs : List ℕ) (ih : (s : State) → AtMost (room s bs) (decode_from s bs)) where
  most-error : AtMost (3 + 3 * length bs) (error ∷ decode bs)
  most-error = most-wider (omega arith) (most-cons 0xfffd (room initial bs) 3 error (decode bs) refl replacement (ih initial))

  most-leading : (b : ℕ) → AtMost (3 + 3 * length bs) (after_reply (leading b) (λ s. decode_from s bs))
  unfolding leading after_reply
  most-leading b = first (ltb b 0x80) refl
    where
      first : (t : Bool) → ltb b 0x80 ≡ t
          → AtMost (3 + 3 * length bs)
          (after_reply (cond t (give (scalar b)) (cond (ltb b 0xc2) (give error) (cond (ltb b 0xe0) (continue (state (b % 32) 0 1 0x80 0xbf)) (cond (ltb b 0xf0) (continue (state (b % 16) 0 2 (lower_of b) (upper_of b))) (cond (ltb b 0xf5) (continue (state (b % 8) 0 3 (lower_of b) (upper_of b))) (give error)))))) (λ s. decode_from s bs))
      first true e = most-wider (omega arith) (most-cons b (room initial bs) 1 (scalar b) (decode bs) refl (omega (arith, ap length (utf8_one b (ltb-true b 0x80 e)))) (ih initial))
      first false e =
          reply_if (ltb b 0xc2) _ _ most-error
          (reply_if (ltb b 0xe0) _ _ (most-wider (omega arith) (ih (state (b % 32) 0 1 0x80 0xbf)))
          (reply_if (ltb b 0xf0) _ _ (most-wider (omega arith) (ih (state (b % 16) 0 2 (lower_of b) (upper_of b))))
          (reply_if (ltb b 0xf5) _ _ (most-wider (omega arith) (ih (state (b % 8) 0 3 (lower_of b) (upper_of b)))) most-error)))
        where
          reply_if : (t : Bool) (p q : DecoderReply) → AtMost (3 + 3 * length bs) (after_reply p (λ s. decode_from s bs)) → AtMost (3 + 3 * length bs) (after_reply q (λ s. decode_from s bs))
              → AtMost (3 + 3 * length bs) (after_reply (cond t p q) (λ s. decode_from s bs))
          reply_if true p q x y = x
          reply_if false p q x y = y

  most-following : (code seen needed b : ℕ) → eqb needed 0 ≡ false → AtMost (3 + 3 * length bs + 3) (after_reply (following code seen needed b) (λ s. decode_from s bs))
  unfolding following after_reply
  most-following code seen needed b n = by (eqb (seen + 1) needed)
    where
      by : (t : Bool) → AtMost (3 + 3 * length bs + 3) (after_reply (cond t (give (scalar (code * 64 + b % 64))) (continue (state (code * 64 + b % 64) (seen + 1) needed 0x80 0xbf))) (λ s. decode_from s bs))
      by true = most-wider (omega arith) (most-cons (code * 64 + b % 64) (room initial bs) 4 (scalar (code * 64 + b % 64)) (decode bs) refl (utf8_short (code * 64 + b % 64)).four-at-most (ih initial))
      by false = most-wider (rw n (omega arith)) (ih (state (code * 64 + b % 64) (seen + 1) needed 0x80 0xbf))

most : (bs : List ℕ) (s : State) → AtMost (room s bs) (decode_from s bs)
unfolding decode_from flat_map
most [] (state code seen needed lower upper) = by (eqb needed 0)
  where
    by : (t : Bool) → AtMost (3 * 0 + cond t 0 3) (cond t [] (error ∷ []))
    by true = record { most = omega arith }
    by false = record { most = rw length-append (omega (arith, replacement)) }
most (b ∷ bs) (state code seen needed lower upper) = by (λ s. most bs s) (eqb needed 0) refl
  where
    by : ((s : State) → AtMost (room s bs) (decode_from s bs)) → (t : Bool) → eqb needed 0 ≡ t
        → AtMost (3 * length (b ∷ bs) + cond t 0 3)
        (cond t (after_reply (leading b) (λ s. decode_from s bs))
        (cond (leb lower b && leb b upper) (after_reply (following code seen needed b) (λ s. decode_from s bs)) (error ∷ after_reply (leading b) (λ s. decode_from s bs))))
    by ih true e = most-wider (omega arith) (most-leading bs ih b)
    by ih false e =
        most_if (leb lower b && leb b upper) (most-wider (omega arith) (most-following bs ih code seen needed b e))
        (most-wider (omega arith) (most-cons 0xfffd (3 + 3 * length bs) 3 error _ refl replacement (most-leading bs ih b)))

text-three : (bytes : List ℕ) → length (decode8_text bytes) ≤ 3 * length bytes
unfolding decode8_text
text-three bytes = omega (arith, (most bytes initial).most)

pub fits-short : (bytes : List ℕ) (room : ℕ) → length bytes ≤ room / 3 → true ≡ leb (length (decode8_text bytes)) room
fits-short bytes room h = sym (le-leb _ room (omega (arith, text-three bytes)))

-- ---- the decoded text

pub decode-long : (bytes : List ℕ) → length (decode8_text bytes) ≤ 3 * length bytes
decode-long bytes = text-three bytes

-- some bytes give a text that is not empty
pub decode-some : (bytes : List ℕ) → 0 < length bytes → 0 < length (decode8_text bytes)
decode-some bytes h = by (next_at bytes 0) refl
  where
    some : (c e : ℕ) → ScalarAt bytes 0 c e → 0 < length (decode8_text bytes)
    some c e s = rw (text-scalar bytes 0 c e s, length-append) (omega (arith, (utf8_short c).some))

    by : (r : Char) → next_at bytes 0 ≡ r → 0 < length (decode8_text bytes)
    by (Code c e) k = some c e (scalar-code bytes 0 (Code c e) (sym k) c e refl)
    by (Error e) k = some 0xfffd e (scalar-error bytes 0 (Error e) (sym k) e refl)
    by End k = absurd (omega (arith, (next-none bytes 0 End (sym k) refl).past))

-- it is well-formed
items-formed : (cs : List ℕ) → well_formed (flat_map utf8_of cs) ≡ true
unfolding decode_from no_error flat_map
items-formed [] = refl
items-formed (c ∷ cs) = formed_utf8 c (flat_map utf8_of cs) ∙ items-formed cs

pub decode-formed : (bytes : List ℕ) → well_formed (decode8_text bytes) ≡ true
unfolding decode8_text
decode-formed bytes = items-formed (scalars bytes)
