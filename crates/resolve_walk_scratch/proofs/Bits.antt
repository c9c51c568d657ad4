-- A bit set in words: to set one bit tells on that bit only. Assumes nothing.
use mathlib.Core.Path.{◌≡◌, refl, sym, ◌∙◌}
use mathlib.Core.Bool.{Bool, true, false, ◌||◌}
use mathlib.Core.List.{List}
use Prim.Native.Nat.{ℕ, zero, suc, ◌+◌, ◌*◌, ◌-◌, ◌/◌, ◌%◌, ◌^◌, ◌≤◌, ◌<◌}
use native.Mathlib.Omega.{arith}
use native.Mathlib.Nat.{div-eq_of_lt, div_self, mod-lt, mod-eq_of_lt, mul-mod_left}
use lib.ListN.{length, get_or, set}
use lib.Seq.{get_or-set_same, get_or-set_other}
use lib.Bits.{bit_or, or_shr, or_mod, or_zero_r}
use lib.Pow.{pow_pos, pow-lt, pow-add, shl-shr}
use lib.Dec.{eqb, ltb}
use borrow.Author.Tests.{eqb-true, eqb-false, ltb-true, ltb-false}
use Rattle.resolve_walk_scratch.specs.Scratch.{marked_in, marked_on, BitIn, BlockMarked}
use Rattle.resolve_walk_scratch.proofs.Stacks.{stack_set}

one_bit : (j k : ℕ) → (j ≡ k → ⊥) → 2 ^ j / 2 ^ k % 2 ≡ 0
one_bit j k n = by (ltb j k) refl
  where
    by : (t : Bool) → ltb j k ≡ t → 2 ^ j / 2 ^ k % 2 ≡ 0
    by true h = rw (div-eq_of_lt (pow-lt (ltb-true j k h)))
    by false h =
        let l : k ≤ j = ltb-false j k h in
        let d : j ≡ (j - k - 1) + 1 + k = omega (arith, n) in
        rw (d, pow-add 2 ((j - k - 1) + 1) k, shl-shr, pow-add 2 (j - k - 1) 1) (mul-mod_left (2 ^ (j - k - 1)) 2)

or_one : (y : ℕ) → y < 2 → bit_or y 1 ≡ 1
or_one zero h = refl
or_one (suc zero) h = refl
or_one (suc (suc y)) h = absurd (omega arith)

or_bit : (x j k : ℕ) → bit_or x (2 ^ j) / 2 ^ k % 2 ≡ bit_or (x / 2 ^ k % 2) (2 ^ j / 2 ^ k % 2)
or_bit x j k = rw (or_shr x (2 ^ j) k) (or_mod (x / 2 ^ k) (2 ^ j / 2 ^ k) 1)

bit_same : (x k : ℕ) → bit_or x (2 ^ k) / 2 ^ k % 2 ≡ 1
bit_same x k = or_bit x k k ∙ rw (div_self (pow_pos k)) (or_one (x / 2 ^ k % 2) (mod-lt (x / 2 ^ k) (omega arith)))

bit_other : (x j k : ℕ) → (j ≡ k → ⊥) → bit_or x (2 ^ j) / 2 ^ k % 2 ≡ x / 2 ^ k % 2
bit_other x j k n = or_bit x j k ∙ rw (one_bit j k n) (or_zero_r (x / 2 ^ k % 2))

module _ (sc : List ℕ) (t : ℕ) (z : 4096 + t / 32 < length sc) where
  marks : (u : ℕ) → marked_in (marked_on sc t) u ≡ eqb t u || marked_in sc u
  unfolding marked_in marked_on
  marks u = by (eqb t u) refl
    where
      y : ℕ
      y = bit_or (get_or sc (4096 + t / 32) 0) (2 ^ (t % 32))

      goal : ℕ → Type 0
      goal u = eqb (get_or (set sc (4096 + t / 32) y) (4096 + u / 32) 0 / 2 ^ (u % 32) % 2) 1 ≡ eqb t u || eqb (get_or sc (4096 + u / 32) 0 / 2 ^ (u % 32) % 2) 1

      word : (g : Bool) → eqb (t / 32) (u / 32) ≡ g → eqb t u ≡ false → goal u
      word true h e =
          let q : u / 32 ≡ t / 32 = sym (eqb-true _ _ h) in
          let n : t ≡ u → ⊥ = eqb-false t u e in
          let m : t % 32 ≡ u % 32 → ⊥ = λ r. n (omega arith) in
          rw (e, q, get_or-set_same sc (4096 + t / 32) y 0 z, bit_other (get_or sc (4096 + t / 32) 0) (t % 32) (u % 32) m)
      word false h e =
          let n : t / 32 ≡ u / 32 → ⊥ = eqb-false _ _ h in
          let m : 4096 + u / 32 ≡ 4096 + t / 32 → ⊥ = λ r. n (omega arith) in
          rw (e, get_or-set_other sc (4096 + t / 32) (4096 + u / 32) y 0 m)

      by : (g : Bool) → eqb t u ≡ g → goal u
      by true h =
          let q : u ≡ t = sym (eqb-true t u h) in
          rw (h, q, get_or-set_same sc (4096 + t / 32) y 0 z, bit_same (get_or sc (4096 + t / 32) 0) (t % 32))
      by false h = word (eqb (t / 32) (u / 32)) refl h

pub mark-is : (sc : List ℕ) (t : ℕ) → BitIn sc t → BlockMarked sc t (set sc (4096 + t / 32) (bit_or (get_or sc (4096 + t / 32) 0) (1 * 2 ^ (t % 32) % 4294967296)))
unfolding marked_on
mark-is sc t p =
    let z : 4096 + t / 32 < length sc = p.room in
    let k : t % 32 < 32 = omega arith in
    let b : 2 ^ (t % 32) < 4294967296 = pow-lt k in
    let q : 1 * 2 ^ (t % 32) % 4294967296 ≡ 2 ^ (t % 32) = let o : 1 * 2 ^ (t % 32) ≡ 2 ^ (t % 32) = omega arith in rw o (mod-eq_of_lt b) in
    rw q
    (record {
      stack = λ d l. stack_set sc _ _ d (omega arith);
      marks = marks sc t z;
      numbers = refl;
    })

pub marked-is : (sc : List ℕ) (t : ℕ) → eqb (get_or sc (4096 + t / 32) 0 / 2 ^ (t % 32) % 2) 1 ≡ marked_in sc t
unfolding marked_in
marked-is sc t = refl
