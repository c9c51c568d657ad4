-- Laws of little-endian byte order, over the width; this module alone unfolds `le_value` and `le_bytes`. Assumes nothing.
use mathlib.Core.Path.{◌≡◌, refl, sym, ap, ◌∙◌}
use mathlib.Core.List.{List, [], ◌∷◌, ◌++◌, append_assoc, append-nil}
use Prim.Native.Nat.{ℕ, zero, suc, ◌+◌, ◌-◌, ◌*◌, ◌/◌, ◌%◌, ◌^◌, ◌≤◌, ◌<◌, min}
use native.Mathlib.Nat.{mul_assoc, pow-suc, pow-succ', pow-le-pow_right, one-le-pow, lt_of_lt_of_le}
use lib.Arith.{mod-mul, digits_mod, digits_div}
use lib.Pow.{pow-add}
use native.Mathlib.Numerals.{add-one}
use native.Mathlib.Omega.{arith}
use lib.ListN.{length, get_or, take, drop, set, length-drop}
use lib.Seq.{take_all, take-add, drop-length, drop-cons, get_or-drop, length-take-le, take-suc-set}
use mir.Syntax.{w8, w32}
use mir.Val.{Fits}
use Rattle.std.specs.Int.{from_le_bytes}
use Rattle.enc_number.specs.Le.{Bytes, le_value, le_bytes, le_stored}

pub length-le_bytes : (w n : ℕ) → length (le_bytes w n) ≡ w
unfolding le_bytes
length-le_bytes zero n = refl
length-le_bytes (suc w) n = ap suc (length-le_bytes w (n / 256))

-- two bytes
pub le_bytes-two : (n : ℕ) → le_bytes 2 n ≡ n % 256 ∷ n / 256 % 256 ∷ []
unfolding le_bytes
le_bytes-two n = refl

-- four and eight
pub le_bytes-four : (n : ℕ) → le_bytes 4 n ≡ n % 256 ∷ n / 256 % 256 ∷ n / 256 / 256 % 256 ∷ n / 256 / 256 / 256 % 256 ∷ []
unfolding le_bytes
le_bytes-four n = refl

pub le_bytes_eight : (n : ℕ) → le_bytes 8 n ≡ le_bytes 4 n ++ le_bytes 4 (n / 256 / 256 / 256 / 256)
unfolding le_bytes
le_bytes_eight n = refl

pub le_value-two : (x y : ℕ) → le_value (x ∷ y ∷ []) ≡ x + y * 256
unfolding le_value
le_value-two x y = omega arith

next-byte : (w n : ℕ) → n % (256 ^ w * 256) ≡ n / 256 % 256 ^ w * 256 + n % 256
next-byte w n = mod-mul n (one-le-pow w 256 (omega arith)) (omega arith)

-- the w lowest bytes of n stand for n modulo 256 to the w
pub le_value-le_bytes : (w n : ℕ) → le_value (le_bytes w n) ≡ n % 256 ^ w
unfolding le_value le_bytes
le_value-le_bytes zero n = omega arith
le_value-le_bytes (suc w) n =
    rw (le_value-le_bytes w (n / 256), pow-suc 256 w) (omega (arith, next-byte w n))

-- bytes past the width don't count
pub le_bytes_mod : (w n : ℕ) → le_bytes w (n % 256 ^ w) ≡ le_bytes w n
unfolding le_bytes
le_bytes_mod zero n = refl
le_bytes_mod (suc w) n =
    let r : n % 256 < 256 = omega arith in
    let e : n % 256 ^ suc w ≡ n / 256 % 256 ^ w * 256 + n % 256 = rw (pow-suc 256 w) (next-byte w n) in
    let h : n % 256 ^ suc w % 256 ≡ n % 256 = rw e (digits_mod (n / 256 % 256 ^ w) r) in
    let t : n % 256 ^ suc w / 256 ≡ n / 256 % 256 ^ w = rw e (digits_div (n / 256 % 256 ^ w) r) in
    rw (h, t, le_bytes_mod w (n / 256))

-- 256 to the w has 8 times w bits
pub pow_bytes : (w : ℕ) → 256 ^ w ≡ 2 ^ (8 * w)
pow_bytes zero = refl
pow_bytes (suc w) =
    let e : 8 * suc w ≡ 8 * w + 8 = omega arith in
    pow-suc 256 w ∙ ap (λ (p : ℕ). p * 256) (pow_bytes w) ∙ sym (ap (λ (k : ℕ). 2 ^ k) e ∙ pow-add 2 (8 * w) 8)

-- bytes are those of the number that they stand for
pub le_bytes-le_value : (bs : List ℕ) → Bytes bs → le_bytes (length bs) (le_value bs) ≡ bs
unfolding le_value le_bytes
le_bytes-le_value [] h = refl
le_bytes-le_value (b ∷ bs) h =
    let l : b < 256 = h 0 in
    let m : (b + 256 * le_value bs) % 256 ≡ b = omega arith in
    let d : (b + 256 * le_value bs) / 256 ≡ le_value bs = omega arith in
    rw (m, d, le_bytes-le_value bs (λ i. h (suc i)))

pub le_value-lt : (bs : List ℕ) → Bytes bs → le_value bs < 256 ^ length bs
unfolding le_value
le_value-lt [] h = omega arith
le_value-lt (b ∷ bs) h =
    let l : b < 256 = h 0 in
    let t : le_value bs < 256 ^ length bs = le_value-lt bs (λ i. h (suc i)) in
    rw (pow-succ' 256 (length bs)) (omega arith)

-- at most w bytes
pub le_value-below : (w : ℕ) (bs : List ℕ) → Bytes bs → length bs ≤ w → le_value bs < 256 ^ w
le_value-below w bs h l = lt_of_lt_of_le (le_value-lt bs h) (pow-le-pow_right (omega arith) l)

pub le_value_append : (xs ys : List ℕ) → le_value (xs ++ ys) ≡ le_value xs + 256 ^ length xs * le_value ys
unfolding le_value
le_value_append [] ys = omega arith
le_value_append (x ∷ xs) ys =
    let e : 256 * 256 ^ length xs * le_value ys ≡ 256 * (256 ^ length xs * le_value ys) = mul_assoc 256 (256 ^ length xs) (le_value ys) in
    rw (le_value_append xs ys, pow-succ' 256 (length xs)) (omega arith)

-- the elements of a slice of u8 are bytes
pub bytes_of : (s : List ℕ) → ((i : ℕ) → Fits w8 (get_or s i 0)) → Bytes s
bytes_of s f i = (f i).fits

pub bytes_drop : (k : ℕ) (s : List ℕ) → Bytes s → Bytes (drop k s)
bytes_drop k s h i = rw (get_or-drop k s i 0) (h (k + i))

-- ---- a number folded from its last byte down

module _ (s : List ℕ) where
  pub fold_start : 0 ≡ le_value (drop (length s) s)
  unfolding le_value
  fold_start = rw (drop-length s)

  module _ (i value : ℕ) (inv : value ≡ le_value (drop i s)) where
    pub fold_more : 0 < i → i ≤ length s → (x : ℕ) → x ≡ get_or s (i - 1) 0 → x + 256 * value ≡ le_value (drop (i - 1) s)
    unfolding le_value
    fold_more h l x e =
        let k : suc (i - 1) ≡ i = omega arith in
        let m : i - 1 < length s = omega arith in
        let d : drop (i - 1) s ≡ get_or s (i - 1) 0 ∷ drop i s = drop-cons s (i - 1) 0 m ∙ ap (λ (j : ℕ). get_or s (i - 1) 0 ∷ drop j s) k in
        rw (d, e, inv)

    module _ (l : i ≤ length s) (m : length s < 4) (h : 0 < i) (b : (k : ℕ) → Fits w8 (get_or s k 0)) where
      fold_small : value < 65536
      fold_small = rw inv (le_value-below 2 (drop i s) (bytes_drop i s (bytes_of s b)) (simp length-drop (omega arith)))

      pub fold_mul : Fits w32 (256 * value)
      fold_mul = record { fits = omega (arith, fold_small) }

      pub fold_add : (x : ℕ) → x ≡ get_or s (i - 1) 0 → Fits w32 (x + 256 * value)
      fold_add x e = record { fits = omega (arith, fold_small, bytes_of s b (i - 1)) }

-- ---- four bytes at once, and eight as twice four

pub four_bytes : (s : List ℕ) (n : ℕ) → 4 ≤ length s → n ≡ from_le_bytes w32 (get_or s 0 0 ∷ get_or s 1 0 ∷ get_or s 2 0 ∷ get_or s 3 0 ∷ []) → n ≡ le_value (take 4 s)
unfolding le_value
four_bytes [] n l e = absurd (omega arith)
four_bytes (x ∷ []) n l e = absurd (omega arith)
four_bytes (x ∷ y ∷ []) n l e = absurd (omega arith)
four_bytes (x ∷ y ∷ z ∷ []) n l e = absurd (omega arith)
four_bytes (x ∷ y ∷ z ∷ w ∷ ws) n l e = omega arith

pub few_bytes : (k : ℕ) (s : List ℕ) (r : ℕ) → length s < k → r ≡ le_value s → r ≡ le_value (take k s)
few_bytes k s r l e = rw (take_all k s (omega arith)) e

pub low-only : (s : List ℕ) (low n : ℕ) → length s < 5 → low ≡ le_value (take 4 s) → n ≡ low → n ≡ le_value (take 8 s)
low-only s low n l a e = e ∙ a ∙ rw (take_all 4 s (omega arith), take_all 8 s (omega arith))

pub low-high : (s : List ℕ) (low high n m : ℕ) → 5 ≤ length s → low ≡ le_value (take 4 s) → high ≡ le_value (take 4 (take (length s - 4) (drop 4 s))) → n ≡ low → m ≡ high → n + 0x1_0000_0000 * m ≡ le_value (take 8 s)
low-high s low high n m l a b d e =
    let k : length (take 4 s) ≡ 4 = length-take-le 4 s (omega arith) in
    let p : take (length s - 4) (drop 4 s) ≡ drop 4 s = take_all (length s - 4) (drop 4 s) (simp length-drop (omega arith)) in
    rw (d, e) (sym (ap le_value (take-add 4 4 s) ∙ le_value_append (take 4 s) (take 4 (drop 4 s)) ∙ rw (k, ← a, ← (rw p at b))))

-- ---- a number stored from its lowest byte up

module _ (bytes : List ℕ) (w n value i : ℕ) (inv : take i bytes ++ le_bytes (w - i) n ≡ le_bytes w value) where
  pub store-more : i < w → w ≡ length bytes → take (i + 1) (set bytes i (n % 256)) ++ le_bytes (w - (i + 1)) (n / 256) ≡ le_bytes w value
  unfolding le_bytes
  store-more h l =
      let m : i < length bytes = omega arith in
      let k : w - i ≡ suc (w - (i + 1)) = omega arith in
      rw (add-one i, take-suc-set bytes i (n % 256) m, append_assoc)
      (rw (k, add-one i) at inv)

  pub store-end : (out : List ℕ) → w ≡ length bytes → w ≤ i → w ≡ min (length out) 8 → bytes ++ drop w out ≡ le_stored (min 8 (length out)) value out
  unfolding le_bytes
  store-end out l h e =
      let k : w - i ≡ 0 = omega arith in
      let d : min 8 (length out) ≡ w = omega arith in
      rw (d, ← inv, k, take_all i bytes (omega arith), append-nil)
