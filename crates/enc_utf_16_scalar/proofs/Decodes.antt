-- The decoder, item by item. This module alone opens it. Assumes nothing.
use mathlib.Core.Path.{◌≡◌, refl, sym, ap, ◌∙◌}
use mathlib.Core.Bool.{Bool, true, false}
use mathlib.Core.List.{List, [], ◌∷◌, ◌++◌, map, flat_map, append-nil, append_assoc}
use mathlib.Core.Option.{Option, none, some}
use Prim.Native.Nat.{ℕ, suc, ◌+◌, ◌*◌, ◌-◌, ◌/◌, ◌%◌, ◌≤◌, ◌<◌}
use native.Mathlib.Omega.{arith}
use lib.ListN.{length, get_or, drop, length-drop, length-append, length-map}
use lib.Seq.{drop-cons, drop-length}
use lib.Dec.{leb, ltb}
use mir.Syntax.{w8, w16}
use Rattle.std.specs.Int.{from_le_bytes}
use mir.Val.{Fits}
use borrow.Author.Tests.{le-leb, lt-leb, ltb-true, ltb-false}
use Rattle.enc_utf_8.specs.Utf8.{Item, scalar, error, replaced, utf8_of}
use Rattle.enc_utf_8.proofs.Encodes.{utf8_short, len-one, len-two, len-three}
use Rattle.enc_utf_16.specs.Unit16.{unit_of, is_leading, is_trailing, from_surrogates}
use Rattle.enc_utf_16.specs.Decode.{unit_alone, unit_after, decode16_from, decode_items, decode_scalars, decode16_text}
use Rattle.enc_utf_16_scalar.specs.Units.{UnitAt, SurrogateAt, first_size, FirstScalar}
use Rattle.enc_utf_16.proofs.Ends.{drop-two}
use Rattle.enc_number.proofs.ByteOrder.{le_value-two}

-- ---- the surrogates

pub leading-is : (u : ℕ) → 0xD800 ≤ u → u ≤ 0xDBFF → is_leading u ≡ true
leading-is u a b = rw (le-leb 0xD800 u a, le-leb u 0xDBFF b)

pub leading-below : (u : ℕ) → u < 0xD800 → is_leading u ≡ false
leading-below u h = rw (lt-leb 0xD800 u h)

pub leading-above : (u : ℕ) → 0xDBFF < u → is_leading u ≡ false
leading-above u h = let a : 0xD800 ≤ u = omega arith in rw (le-leb 0xD800 u a, lt-leb u 0xDBFF h)

pub trailing_is : (u : ℕ) → 0xDC00 ≤ u → u ≤ 0xDFFF → is_trailing u ≡ true
trailing_is u a b = rw (le-leb 0xDC00 u a, le-leb u 0xDFFF b)

pub trailing_below : (u : ℕ) → u < 0xDC00 → is_trailing u ≡ false
trailing_below u h = rw (lt-leb 0xDC00 u h)

pub trailing_above : (u : ℕ) → 0xDFFF < u → is_trailing u ≡ false
trailing_above u h = let a : 0xDC00 ≤ u = omega arith in rw (le-leb 0xDC00 u a, lt-leb u 0xDFFF h)

-- ---- the decoder at the first code unit

pub odd_byte : (x : ℕ) → decode_items (x ∷ []) ≡ error ∷ []
unfolding decode16_from
odd_byte x = refl

module _ (x y : ℕ) where
  pub plain-unit : (xs : List ℕ) → is_leading (unit_of x y) ≡ false → is_trailing (unit_of x y) ≡ false → decode_items (x ∷ y ∷ xs) ≡ scalar (unit_of x y) ∷ decode_items xs
  unfolding decode16_from unit_after unit_alone
  plain-unit xs l t = rw (l, t)

  pub trailing_unit : (xs : List ℕ) → is_leading (unit_of x y) ≡ false → is_trailing (unit_of x y) ≡ true → decode_items (x ∷ y ∷ xs) ≡ error ∷ decode_items xs
  unfolding decode16_from unit_after unit_alone
  trailing_unit xs l t = rw (l, t)

  module _ (l : is_leading (unit_of x y) ≡ true) where
    pub leading_end : decode_items (x ∷ y ∷ []) ≡ error ∷ []
    unfolding decode16_from unit_after unit_alone
    leading_end = rw l

    pub leading_odd : (z : ℕ) → decode_items (x ∷ y ∷ z ∷ []) ≡ error ∷ []
    unfolding decode16_from unit_after unit_alone
    leading_odd z = rw l

    pub leading_pair : (z w : ℕ) (xs : List ℕ) → is_trailing (unit_of z w) ≡ true → decode_items (x ∷ y ∷ z ∷ w ∷ xs) ≡ scalar (from_surrogates (unit_of x y) (unit_of z w)) ∷ decode_items xs
    unfolding decode16_from unit_after unit_alone
    leading_pair z w xs t = rw (l, t)

    -- the standard's step 5: the bytes of the unit are restored, and taken again
    pub leading-restored : (z w : ℕ) (xs : List ℕ) → is_trailing (unit_of z w) ≡ false → decode_items (x ∷ y ∷ z ∷ w ∷ xs) ≡ error ∷ decode_items (z ∷ w ∷ xs)
    unfolding decode16_from unit_after unit_alone
    leading-restored z w xs t = rw (l, t)

-- ---- bytes are never decoded to nothing

surrogate-kept : (low : Option ℕ) (lead : ℕ) (xs : List ℕ) → 0 < length (decode16_from low (some lead) xs)
unfolding decode16_from unit_after
surrogate-kept none lead [] = omega arith
surrogate-kept (some low) lead [] = omega arith
surrogate-kept none lead (x ∷ xs) = surrogate-kept (some x) lead xs
surrogate-kept (some low) lead (x ∷ xs) = by (is_trailing (unit_of low x)) refl
  where
    by : (b : Bool) → is_trailing (unit_of low x) ≡ b → 0 < length (decode16_from (some low) (some lead) (x ∷ xs))
    by true e = rw e (omega arith)
    by false e = rw e (omega arith)

unit_kept : (x y : ℕ) (xs : List ℕ) → 0 < length (decode_items (x ∷ y ∷ xs))
unfolding decode16_from unit_after unit_alone
unit_kept x y xs = by (is_leading (unit_of x y)) (is_trailing (unit_of x y)) refl refl
  where
    by : (l t : Bool) → is_leading (unit_of x y) ≡ l → is_trailing (unit_of x y) ≡ t → 0 < length (decode_items (x ∷ y ∷ xs))
    by true t e f = rw e (surrogate-kept none (unit_of x y) xs)
    by false true e f = rw (e, f) (omega arith)
    by false false e f = rw (e, f) (omega arith)

items_kept : (bytes : List ℕ) → (length bytes ≡ 0 → ⊥) → 0 < length (decode_items bytes)
unfolding decode16_from
items_kept [] h = absurd (h refl)
items_kept (x ∷ []) h = omega arith
items_kept (x ∷ y ∷ xs) h = unit_kept x y xs

-- a list of scalar values that has an element is a text that has a byte
some-text : (f : ℕ → List ℕ) → ((c : ℕ) → 0 < length (f c)) → (l : List ℕ) → 0 < length l → 0 < length (flat_map f l)
unfolding flat_map
some-text f p [] h = absurd (omega arith)
some-text f p (c ∷ l) h = simp length-append (omega (arith, p c))

pub text-some : (bytes : List ℕ) → (length bytes ≡ 0 → ⊥) → 0 < length (decode16_text bytes)
unfolding decode_scalars
text-some bytes h = some-text utf8_of (λ c. (utf8_short c).some) _ (simp length-map (items_kept bytes h))

-- ---- two bytes are decoded to three bytes at most, and an odd byte to three

abbrev held : Option ℕ → ℕ
held none = 0
held (some n) = 1

abbrev held_byte : Option ℕ → ℕ
held_byte none = 0
held_byte (some n) = n

abbrev text_of : List Item → List ℕ
text_of is = flat_map utf8_of (map replaced is)

unit-three : (u : ℕ) → u < 0x10000 → length (utf8_of u) ≤ 3
unit-three u h = by (ltb u 0x80) (ltb u 0x800) refl refl
  where
    by : (s t : Bool) → ltb u 0x80 ≡ s → ltb u 0x800 ≡ t → length (utf8_of u) ≤ 3
    by true t p q = omega (arith, len-one u (ltb-true _ _ p))
    by false true p q = omega (arith, len-two u (ltb-false _ _ p) (ltb-true _ _ q))
    by false false p q = omega (arith, len-three u (ltb-false _ _ q) h)

alone-size : (u : ℕ) → u < 0x10000 → length (text_of (unit_alone u).items) + 3 * held (unit_alone u).leading ≤ 3
unfolding unit_alone flat_map
alone-size u h = by (is_leading u) (is_trailing u) refl refl
  where
    by : (l t : Bool) → is_leading u ≡ l → is_trailing u ≡ t → length (text_of (unit_alone u).items) + 3 * held (unit_alone u).leading ≤ 3
    by true t e f = rw e (omega arith)
    by false true e f = rw (e, f, append-nil) (omega (arith, unit-three 0xfffd (omega arith)))
    by false false e f = rw (e, f, append-nil) (omega (arith, unit-three u h))

after-size : (lead : Option ℕ) (u : ℕ) → u < 0x10000 → length (text_of (unit_after lead u).items) + 3 * held (unit_after lead u).leading ≤ 3 + 3 * held lead
unfolding unit_after flat_map
after-size none u h = omega (arith, alone-size u h)
after-size (some l) u h = by (is_trailing u) refl
  where
    by : (t : Bool) → is_trailing u ≡ t → length (text_of (unit_after (some l) u).items) + 3 * held (unit_after (some l) u).leading ≤ 6
    by true e = rw (e, append-nil) (omega (arith, (utf8_short (from_surrogates l u)).four-at-most))
    by false e = rw (e, length-append) (omega (arith, unit-three 0xfffd (omega arith), alone-size u h))

text_append : (is js : List Item) → text_of (is ++ js) ≡ text_of is ++ text_of js
unfolding flat_map
text_append [] js = refl
text_append (i ∷ is) js = rw (text_append is js, append_assoc)

size-from : (low lead : Option ℕ) (xs : List ℕ) → held_byte low < 256 → ((i : ℕ) → get_or xs i 0 < 256)
    → length (text_of (decode16_from low lead xs)) ≤ 3 * ((length xs + held low + 1) / 2) + 3 * held lead
unfolding decode16_from flat_map
size-from none none [] a h = omega arith
size-from none (some l) [] a h = rw append-nil (omega (arith, unit-three 0xfffd (omega arith)))
size-from (some b) lead [] a h = rw append-nil (omega (arith, unit-three 0xfffd (omega arith)))
size-from none lead (x ∷ xs) a h = omega (arith, size-from (some x) lead xs (h 0) (λ i. h (suc i)))
size-from (some b) lead (x ∷ xs) a h =
    let g = unit_after lead (unit_of b x) in
    rw (text_append g.items (decode16_from none g.leading xs), length-append)
    (omega (arith, after-size lead (unit_of b x) (omega (arith, h 0, le_value-two b x)), size-from none g.leading xs (omega arith) (λ i. h (suc i))))

-- the most bytes that a text takes in UTF-8
pub text-room : (bytes : List ℕ) → ((i : ℕ) → get_or bytes i 0 < 256) → length (decode16_text bytes) ≤ 3 * (length bytes / 2) + 3 * (length bytes % 2)
unfolding decode_scalars
text-room bytes h = omega (arith, size-from none none bytes (omega arith) h)

pub fits-short : (bytes : List ℕ) (room : ℕ) → ((i : ℕ) → Fits w8 (get_or bytes i 0)) → length bytes ≤ room / 3 → true ≡ leb (length (decode16_text bytes)) room
fits-short bytes room f h = sym (le-leb _ room (omega (arith, text-room bytes (λ i. (f i).fits))))

pub nothing_left : decode_scalars [] ≡ []
unfolding decode_scalars decode16_from
nothing_left = refl

-- ---- how many bytes it takes

module _ (x y : ℕ) where
  size-two : (xs : List ℕ) → is_leading (unit_of x y) ≡ false → first_size (x ∷ y ∷ xs) ≡ 2
  unfolding first_size
  size-two [] l = refl
  size-two (z ∷ []) l = rw l
  size-two (z ∷ w ∷ xs) l = rw l

  size-apart : (z w : ℕ) (xs : List ℕ) → is_trailing (unit_of z w) ≡ false → first_size (x ∷ y ∷ z ∷ w ∷ xs) ≡ 2
  unfolding first_size
  size-apart z w xs t = by (is_leading (unit_of x y)) refl
    where
      by : (l : Bool) → is_leading (unit_of x y) ≡ l → first_size (x ∷ y ∷ z ∷ w ∷ xs) ≡ 2
      by true e = rw (e, t)
      by false e = rw e

  module _ (l : is_leading (unit_of x y) ≡ true) where
    size_odd : (z : ℕ) → first_size (x ∷ y ∷ z ∷ []) ≡ 3
    unfolding first_size
    size_odd z = rw l

    size_pair : (z w : ℕ) (xs : List ℕ) → is_trailing (unit_of z w) ≡ true → first_size (x ∷ y ∷ z ∷ w ∷ xs) ≡ 4
    unfolding first_size
    size_pair z w xs t = rw (l, t)

size-one : (x : ℕ) → first_size (x ∷ []) ≡ 1
unfolding first_size
size-one x = refl

size-end : (x y : ℕ) → first_size (x ∷ y ∷ []) ≡ 2
unfolding first_size
size-end x y = refl

-- ---- the scalar value at a place

-- two bytes are a code unit
pub unit-here : (bytes : List ℕ) (at u : ℕ) → u ≡ from_le_bytes w16 (get_or bytes at 0 ∷ get_or bytes (at + 1) 0 ∷ []) → UnitAt bytes at u
unit-here bytes at u e = record { is = omega (arith, le_value-two (get_or bytes at 0) (get_or bytes (at + 1) 0)) }

module _ (bytes : List ℕ) (at : ℕ) where
  -- one item of k bytes stands at the place
  here : (next : ℕ) (i : Item) → decode_items (drop at bytes) ≡ i ∷ decode_items (drop next bytes) → at < next → next ≤ length bytes → next ≡ at + first_size (drop at bytes) → FirstScalar bytes at (replaced i) next
  unfolding decode_scalars
  here next i e a b p = record { scalar = record { is = ap (map replaced) e; later = a; within = b }; place = p }

  -- one error, and the end
  last : (xs : List ℕ) → drop at bytes ≡ xs → decode_items xs ≡ error ∷ [] → at < length bytes → length bytes ≡ at + first_size xs → FirstScalar bytes at 0xfffd (length bytes)
  unfolding decode16_from
  last xs d e a p = here (length bytes) error (rw (d, drop-length) e) a (omega arith) (p ∙ rw d)

  pub scalar_odd : at < length bytes → length bytes - at < 2 → FirstScalar bytes at 0xfffd (at + 1)
  scalar_odd a h =
      let k : length bytes ≡ suc at = omega arith in
      let n : at + 1 ≡ length bytes = omega arith in
      rw n (last (get_or bytes at 0 ∷ []) (drop-cons bytes at 0 a ∙ rw (← k, drop-length)) (odd_byte _) a (omega (arith, size-one (get_or bytes at 0))))

  module _ (u : ℕ) (e : UnitAt bytes at u) where
    plain : at + 2 ≤ length bytes → is_leading u ≡ false → is_trailing u ≡ false → FirstScalar bytes at u (at + 2)
    plain h l t = here (at + 2) (scalar u) (rw (drop-two bytes at h, e.is) (plain-unit _ _ _ (rw (← e.is) l) (rw (← e.is) t))) (omega arith) h
        (rw (drop-two bytes at h) (omega (arith, size-two (get_or bytes at 0) (get_or bytes (at + 1) 0) (drop (at + 2) bytes) (rw (← e.is) l))))

    pub scalar-low : 2 ≤ length bytes - at → u < 0xD800 → FirstScalar bytes at u (at + 2)
    scalar-low h l = plain (omega arith) (leading-below u l) (trailing_below u (omega arith))

    pub scalar-high : 2 ≤ length bytes - at → 0xDFFF < u → FirstScalar bytes at u (at + 2)
    scalar-high h l = plain (omega arith) (leading-above u (omega arith)) (trailing_above u l)

  module _ (u : ℕ) (s : SurrogateAt bytes at u) where
    split : drop at bytes ≡ get_or bytes at 0 ∷ get_or bytes (at + 1) 0 ∷ drop (at + 2) bytes
    split = drop-two bytes at s.whole

    pub scalar_trailing : 0xDBFF < u → FirstScalar bytes at 0xfffd (at + 2)
    scalar_trailing h =
        here (at + 2) error (rw split (trailing_unit _ _ _ (rw (← s.unit.is) (leading-above u h)) (rw (← s.unit.is) (trailing_is u (omega arith) s.to)))) (omega arith) s.whole
        (rw split (omega (arith, size-two (get_or bytes at 0) (get_or bytes (at + 1) 0) (drop (at + 2) bytes) (rw (← s.unit.is) (leading-above u h)))))

    -- a leading surrogate
    module _ (b : u ≤ 0xDBFF) where
      leads : is_leading (unit_of (get_or bytes at 0) (get_or bytes (at + 1) 0)) ≡ true
      leads = rw (← s.unit.is) (leading-is u s.from b)

      -- one error at the end, also where an odd byte follows
      pub scalar-cut : length bytes - at < 4 → FirstScalar bytes at 0xfffd (length bytes)
      scalar-cut h = by (drop (at + 2) bytes) refl
        where
          ends : (xs : List ℕ) → drop (at + 2) bytes ≡ xs → decode_items (get_or bytes at 0 ∷ get_or bytes (at + 1) 0 ∷ xs) ≡ error ∷ []
              → first_size (get_or bytes at 0 ∷ get_or bytes (at + 1) 0 ∷ xs) ≡ 2 + length xs → FirstScalar bytes at 0xfffd (length bytes)
          ends xs d q z = last _ (rw (← d) split) q (omega (arith, s.whole)) (omega (arith, z, s.whole, simp length-drop at (ap length d)))

          by : (xs : List ℕ) → drop (at + 2) bytes ≡ xs → FirstScalar bytes at 0xfffd (length bytes)
          by [] d = ends [] d (leading_end _ _ leads) (size-end _ _)
          by (z ∷ []) d = ends (z ∷ []) d (leading_odd _ _ leads z) (size_odd _ _ leads z)
          by (z ∷ w ∷ xs) d = absurd (omega (arith, simp length-drop at (ap length d)))

      module _ (v : ℕ) (f : UnitAt bytes (at + 2) v) (more : 4 ≤ length bytes - at) where
        pub scalar_pair : 0xDC00 ≤ v → v ≤ 0xDFFF → FirstScalar bytes at (0x10000 + (u - 0xD800) * 0x400 + (v - 0xDC00)) (at + 4)
        scalar_pair c d =
            let k : at + 2 + 2 ≡ at + 4 = omega arith in
            here (at + 4) (scalar (from_surrogates u v))
            (rw (split, drop-two bytes (at + 2) (omega arith), k, s.unit.is, f.is) (leading_pair _ _ leads _ _ _ (rw (← f.is) (trailing_is v c d)))) (omega arith) (omega arith)
            (rw (split, drop-two bytes (at + 2) (omega arith)) (omega (arith, size_pair (get_or bytes at 0) (get_or bytes (at + 1) 0) leads (get_or bytes (at + 2) 0) (get_or bytes (at + 2 + 1) 0) (drop (at + 2 + 2) bytes) (rw (← f.is) (trailing_is v c d)))))

        restored : is_trailing v ≡ false → FirstScalar bytes at 0xfffd (at + 2)
        restored t =
            here (at + 2) error (rw (split, drop-two bytes (at + 2) (omega arith)) (leading-restored _ _ leads _ _ _ (rw (← f.is) t))) (omega arith) s.whole
            (rw (split, drop-two bytes (at + 2) (omega arith)) (omega (arith, size-apart (get_or bytes at 0) (get_or bytes (at + 1) 0) (get_or bytes (at + 2) 0) (get_or bytes (at + 2 + 1) 0) (drop (at + 2 + 2) bytes) (rw (← f.is) t))))

        pub scalar-low-after : v < 0xDC00 → FirstScalar bytes at 0xfffd (at + 2)
        scalar-low-after h = restored (trailing_below v h)

        pub scalar-high-after : 0xDFFF < v → FirstScalar bytes at 0xfffd (at + 2)
        scalar-high-after h = restored (trailing_above v h)
