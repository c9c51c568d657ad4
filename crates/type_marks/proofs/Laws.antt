-- A hash turn by turn, a bit that is set beside those that stay, and the three bits of a hash. Assumes nothing.
use mathlib.Core.Path.{◌≡◌, refl, ap, ◌∙◌}
use mathlib.Core.Bool.{Bool, true, false}
use mathlib.Core.List.{List}
use Prim.Native.Nat.{ℕ, zero, suc, ◌+◌, ◌-◌, ◌*◌, ◌/◌, ◌%◌, ◌^◌, ◌≤◌, ◌<◌}
use native.Mathlib.Omega.{arith}
use native.Mathlib.Nat.{div_self, div-eq_of_lt, mul-div_cancel, mul-mod_left, mod-lt, mod-eq_of_lt, mul-le-mul_right, pow-suc}
use borrow.Author.Tests.{eqb-true, eqb-false, ltb-true, ltb-false}
use lib.ListN.{length, get_or, set, take, drop, length-set}
use lib.Seq.{get_or-set_same, get_or-set_other, take-take}
use lib.Bits.{bit_or, or_shr, or_mod}
use lib.Pow.{pow_pos, pow-lt, pow-add}
use lib.Dec.{eqb, ltb}
use Rattle.type_block_form.proofs.Bytes.{and_left, and_right}
use Rattle.type_marks.specs.Marks.{folded_of, joined_of, with_parts, hash_of, bit_of, BitSet, slot_of, SlotIs, is_marked, Marked}

-- ---- the hash of a name

-- a part of w bytes, as the code cuts it: more than eight are not joined
cut : (h w : ℕ) (part : List ℕ) → 8 ≤ w → joined_of h (take w part) ≡ joined_of h part
unfolding joined_of
cut h w part l = rw (take-take 8 w part l)

module _ (name : List ℕ) (n : ℕ) (en : n ≡ length name) where
  pub hash_short : n < 8 → (m : ℕ) → m ≡ joined_of n name → (r : ℕ) → r ≡ folded_of m → r ≡ hash_of name
  unfolding hash_of with_parts
  hash_short l m em r er =
      let z : length name / 8 ≡ 0 = omega arith in
      let y : length name - 8 ≡ 0 = omega arith in
      er ∙ ap folded_of em ∙ rw (z, y, en)

module _ (name : List ℕ) (n k : ℕ) where
  pub parts-start : with_parts name n 0 (k - 0) ≡ with_parts name n 0 k
  parts-start = let z : k - 0 ≡ k = omega arith in rw z

  module _ (i h : ℕ) (inv : with_parts name h i (k - i) ≡ with_parts name n 0 k) where
    pub parts_again : i < k → (at : ℕ) → at ≡ 8 * i → (m : ℕ) → m ≡ joined_of h (take (at + 8 - at) (drop at name)) → with_parts name m (i + 1) (k - (i + 1)) ≡ with_parts name n 0 k
    unfolding with_parts
    parts_again l at ea m em =
        let z : k - i ≡ suc (k - (i + 1)) = omega arith in
        rw (em, cut h (at + 8 - at) (drop at name) (omega arith), ea) (rw z at inv)

    pub hash_end : n ≡ length name → k ≡ n / 8 → k ≤ i → 8 ≤ n → (m : ℕ) → m ≡ joined_of h (take (n - (n - 8)) (drop (n - 8) name)) → (r : ℕ) → r ≡ folded_of m → r ≡ hash_of name
    unfolding hash_of with_parts
    hash_end en ek l g m em r er =
        let z : k - i ≡ 0 = omega arith in
        let x : h ≡ with_parts name n 0 k = (rw z at inv) in
        er ∙ ap folded_of (em ∙ cut h (n - (n - 8)) (drop (n - 8) name) (omega arith) ∙ rw (x, ek, en))

-- ---- a bit

or_one : (y : ℕ) → y < 2 → bit_or y 1 ≡ 1
or_one zero h = refl
or_one (suc zero) h = refl
or_one (suc (suc y)) h = absurd (omega arith)

or_zero : (y : ℕ) → y < 2 → bit_or y 0 ≡ y
or_zero zero h = refl
or_zero (suc zero) h = refl
or_zero (suc (suc y)) h = absurd (omega arith)

-- one bit of a power of two is set, and no other
power_other : (j k : ℕ) → (j ≡ k → ⊥) → 2 ^ k / 2 ^ j % 2 ≡ 0
power_other j k n = by (ltb j k) refl
  where
    by : (t : Bool) → ltb j k ≡ t → 2 ^ k / 2 ^ j % 2 ≡ 0
    by true e =
        let l : j < k = ltb-true j k e in
        let z : k ≡ suc (k - j - 1) + j = omega arith in
        let p : 2 ^ k ≡ 2 ^ suc (k - j - 1) * 2 ^ j = ap (λ (x : ℕ). 2 ^ x) z ∙ pow-add 2 (suc (k - j - 1)) j in
        rw (p, mul-div_cancel (2 ^ suc (k - j - 1)) (pow_pos j), pow-suc 2 (k - j - 1)) (mul-mod_left (2 ^ (k - j - 1)) 2)
    by false e =
        let l : k ≤ j = ltb-false j k e in
        let m : k < j = omega (arith, n) in
        rw (div-eq_of_lt (pow-lt m))

or_bit : (x y k : ℕ) → bit_or x y / 2 ^ k % 2 ≡ bit_or (x / 2 ^ k % 2) (y / 2 ^ k % 2)
or_bit x y k = rw (or_shr x y k) (or_mod (x / 2 ^ k) (y / 2 ^ k) 1)

bit_here : (x k : ℕ) → bit_or x (2 ^ k) / 2 ^ k % 2 ≡ 1
bit_here x k = or_bit x (2 ^ k) k ∙ rw (div_self (pow_pos k)) (or_one (x / 2 ^ k % 2) (mod-lt (x / 2 ^ k) (omega arith)))

bit_other : (x j k : ℕ) → (j ≡ k → ⊥) → bit_or x (2 ^ k) / 2 ^ j % 2 ≡ x / 2 ^ j % 2
bit_other x j k n = or_bit x (2 ^ k) j ∙ rw (power_other j k n) (or_zero (x / 2 ^ j % 2) (mod-lt (x / 2 ^ j) (omega arith)))

module _ (marks : List ℕ) (s : ℕ) where
  pub bit_is : eqb (get_or marks (s / 32) 0 / 2 ^ (s % 32) % 2) 1 ≡ bit_of marks s
  unfolding bit_of
  bit_is = refl

module _ (marks : List ℕ) (s : ℕ) (l : s / 32 < length marks) where
  word : ℕ
  word = bit_or (get_or marks (s / 32) 0) (2 ^ (s % 32))

  here : bit_of (set marks (s / 32) word) s ≡ true
  unfolding bit_of word
  here = rw (get_or-set_same marks (s / 32) (bit_or (get_or marks (s / 32) 0) (2 ^ (s % 32))) 0 l, bit_here (get_or marks (s / 32) 0) (s % 32))

  others : (u : ℕ) → (u ≡ s → ⊥) → bit_of (set marks (s / 32) word) u ≡ bit_of marks u
  unfolding bit_of word
  others u n = by (eqb (u / 32) (s / 32)) refl
    where
      by : (t : Bool) → eqb (u / 32) (s / 32) ≡ t → eqb (get_or (set marks (s / 32) word) (u / 32) 0 / 2 ^ (u % 32) % 2) 1 ≡ eqb (get_or marks (u / 32) 0 / 2 ^ (u % 32) % 2) 1
      by true e =
          let q : u / 32 ≡ s / 32 = eqb-true _ _ e in
          let m : u % 32 ≡ s % 32 → ⊥ = λ h. n (omega arith) in
          rw (q, get_or-set_same marks (s / 32) (bit_or (get_or marks (s / 32) 0) (2 ^ (s % 32))) 0 l, bit_other (get_or marks (s / 32) 0) (u % 32) (s % 32) m)
      by false e = rw (get_or-set_other marks (s / 32) (u / 32) (bit_or (get_or marks (s / 32) 0) (2 ^ (s % 32))) 0 (eqb-false _ _ e))

  pub set_bit_is : BitSet marks s (set marks (s / 32) (bit_or (get_or marks (s / 32) 0) (1 * 2 ^ (s % 32) % 4294967296)))
  unfolding word
  set_bit_is =
      let k : s % 32 < 32 = omega arith in
      let b : 2 ^ (s % 32) < 4294967296 = pow-lt k in
      let q : 1 * 2 ^ (s % 32) % 4294967296 ≡ 2 ^ (s % 32) = let o : 1 * 2 ^ (s % 32) ≡ 2 ^ (s % 32) = omega arith in rw o (mod-eq_of_lt b) in
      rw q (record { here = here; others = others; same = length-set marks (s / 32) (bit_or (get_or marks (s / 32) 0) (2 ^ (s % 32))) })

-- no bit is lost
pub bit_kept : (marks : List ℕ) (s : ℕ) (marks' : List ℕ) → BitSet marks s marks' → (u : ℕ) → bit_of marks u ≡ true → bit_of marks' u ≡ true
bit_kept marks s marks' b u h = by (eqb u s) refl
  where
    by : (t : Bool) → eqb u s ≡ t → bit_of marks' u ≡ true
    by true e = rw (eqb-true u s e) b.here
    by false e = b.others u (eqb-false u s e) ∙ h

-- ---- three bits for a hash

module _ (n part : ℕ) (a : part < 1048576) (b : 0 < n) where
  product : part * n ≤ 1048575 * n
  product = mul-le-mul_right n (omega arith)

  pub slot_in_is : SlotIs n part (part * n / 32768)
  unfolding slot_of
  slot_in_is = record { is = refl; inside = omega (arith, product) }

module _ (marks : List ℕ) (h : ℕ) (marks₁ marks₂ marks₃ : List ℕ) (x : BitSet marks (slot_of (length marks) (h / 4096)) marks₁)
    (y : BitSet marks₁ (slot_of (length marks₁) (h / 64 % 1048576)) marks₂) (z : BitSet marks₂ (slot_of (length marks₂) (h % 1048576)) marks₃) where
  through : (s : ℕ) → bit_of marks s ≡ true → bit_of marks₃ s ≡ true
  through s k = bit_kept _ _ _ z s (bit_kept _ _ _ y s (bit_kept _ _ _ x s k))

  size : length marks₃ ≡ length marks
  size = z.same ∙ y.same ∙ x.same

  upper : bit_of marks₃ (slot_of (length marks) (h / 4096)) ≡ true
  upper = bit_kept _ _ _ z _ (bit_kept _ _ _ y _ x.here)

  middle : bit_of marks₃ (slot_of (length marks) (h / 64 % 1048576)) ≡ true
  middle = bit_kept _ _ _ z _ (rw x.same at y.here)

  lower : bit_of marks₃ (slot_of (length marks) (h % 1048576)) ≡ true
  lower = (rw (y.same ∙ x.same) at z.here)

  pub mark-is : Marked marks h marks₃
  unfolding is_marked
  mark-is =
      record {
        here = rw (size, upper, middle, lower);
        kept = λ g k. let l = and_right (bit_of marks (slot_of (length marks) (g / 4096))) _ k in
            rw (size, through (slot_of (length marks) (g / 4096)) (and_left _ _ k), through (slot_of (length marks) (g / 64 % 1048576)) (and_left _ _ l), through (slot_of (length marks) (g % 1048576)) (and_right (bit_of marks (slot_of (length marks) (g / 64 % 1048576))) _ l));
      }
