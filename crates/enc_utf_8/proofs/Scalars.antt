-- Every code point that `next_at` finds is a scalar value. Assumes nothing.
use mathlib.Core.Path.{◌≡◌, refl}
use mathlib.Core.Bool.{Bool, true, false, cond, ◌&&◌}
use mathlib.Core.List.{List, [], ◌∷◌}
use Prim.Native.Nat.{ℕ, ◌+◌, ◌*◌, ◌%◌, ◌-◌, ◌≤◌, ◌<◌}
use native.Mathlib.Omega.{arith}
use lib.ListN.{drop}
use lib.Dec.{leb, ltb, eqb}
use borrow.Author.Tests.{ltb-true, ltb-false, leb-true, eqb-true, eqb-false}
use Rattle.enc_utf_8.specs.declared.Char.{Char}
use Rattle.enc_utf_8.specs.declared.Char.TheVariants.{Code, Error, End}
use Rattle.enc_utf_8.specs.Utf8.{State, state, initial, lower_of, upper_of, DecoderReply, leading, following, found, next_from, next_at, is_scalar}
use Rattle.enc_utf_8.proofs.Encodes.{scalar-low, scalar-high}
use Rattle.enc_utf_8.proofs.Decodes.{fewer, lower-other, upper-other}

-- a code point that is found lies from `low` to `high`
data Between (low high : ℕ) : Char → Type 0 where
  between-code : {c e : ℕ} → low ≤ c → c ≤ high → Between low high (Code c e)
  between-error : {e : ℕ} → Between low high (Error e)
  between-end : Between low high End

under : {low high low' high' c e : ℕ} → low ≤ low' → high' ≤ high → low' ≤ c → c ≤ high' → Between low high (Code c e)
under {low} {high} {low'} {high'} {c} p q l h = between-code {c = c} (omega arith) (omega arith)

wider : {low high low' high' : ℕ} {r : Char} → low ≤ low' → high' ≤ high → Between low' high' r → Between low high r
wider p q (between-code l h) = under p q l h
wider p q between-error = between-error
wider p q between-end = between-end

-- a byte outside the boundaries is an error
guarded : (b lower upper at : ℕ) {low high : ℕ} (r : Char) → (lower ≤ b → b ≤ upper → Between low high r) → Between low high (cond (leb lower b && leb b upper) r (Error at))
guarded b lower upper at {low} {high} r k = by (leb lower b) (leb b upper) refl refl
  where
    by : (s t : Bool) → leb lower b ≡ s → leb b upper ≡ t → Between low high (cond (s && t) r (Error at))
    by true true p q = k (leb-true _ _ p) (leb-true _ _ q)
    by true false p q = between-error
    by false t p q = between-error

-- the code points that one, two, three more bytes give
module _ (lower upper : ℕ) (hl : 0x80 ≤ lower) (hu : upper ≤ 0xbf) where
  one_range : (bs : List ℕ) (at code : ℕ) → Between (code * 64 + (lower - 0x80)) (code * 64 + (upper - 0x80)) (next_from (state code 0 1 lower upper) at bs)
  unfolding next_from following found
  one_range [] at code = between-error
  one_range (b ∷ bs) at code = guarded b lower upper at _ (λ p q. between-code {c = code * 64 + b % 64} (omega arith) (omega arith))

module _ (lower upper : ℕ) (hl : 0x80 ≤ lower) (hu : upper ≤ 0xbf) where
  two_range : (bs : List ℕ) (at code : ℕ) → Between ((code * 64 + (lower - 0x80)) * 64) ((code * 64 + (upper - 0x80)) * 64 + 63) (next_from (state code 0 2 lower upper) at bs)
  unfolding next_from following found
  two_range [] at code = between-error
  two_range (b ∷ bs) at code =
      guarded b lower upper at _
      (λ p q.
      rw (fewer (code * 64 + b % 64) 0 0 0x80 0xbf (at + 1) bs)
      (wider (omega arith) (omega arith) (one_range 0x80 0xbf (omega arith) (omega arith) bs (at + 1) (code * 64 + b % 64))))

module _ (lower upper : ℕ) (hl : 0x80 ≤ lower) (hu : upper ≤ 0xbf) where
  three_range : (bs : List ℕ) (at code : ℕ) → Between ((code * 64 + (lower - 0x80)) * 4096) ((code * 64 + (upper - 0x80)) * 4096 + 4095) (next_from (state code 0 3 lower upper) at bs)
  unfolding next_from following found
  three_range [] at code = between-error
  three_range (b ∷ bs) at code =
      guarded b lower upper at _
      (λ p q.
      rw (fewer (code * 64 + b % 64) 0 1 0x80 0xbf (at + 1) bs)
      (wider (omega arith) (omega arith) (two_range 0x80 0xbf (omega arith) (omega arith) bs (at + 1) (code * 64 + b % 64))))

-- ---- after a lead byte

-- a code point that is found is a scalar value
data Sound : Char → Type 0 where
  sound-code : {c e : ℕ} → is_scalar c ≡ true → Sound (Code c e)
  sound-error : {e : ℕ} → Sound (Error e)
  sound-end : Sound End

scalar_if : (c : ℕ) → (0xd800 ≤ c → 0xe000 ≤ c) → c < 0x110000 → is_scalar c ≡ true
scalar_if c k h = by (ltb c 0xd800) refl
  where
    by : (t : Bool) → ltb c 0xd800 ≡ t → is_scalar c ≡ true
    by true e = scalar-low c (ltb-true _ _ e)
    by false e = scalar-high c (k (ltb-false _ _ e)) h

sound : {low high : ℕ} {r : Char} → ((c : ℕ) → low ≤ c → c ≤ high → is_scalar c ≡ true) → Between low high r → Sound r
sound k (between-code l h) = sound-code (k _ l h)
sound k between-error = sound-error
sound k between-end = sound-end

module _ (bs : List ℕ) (at b : ℕ) where
  after_two : 0xc2 ≤ b → b < 0xe0 → Sound (next_from (state (b % 32) 0 1 0x80 0xbf) at bs)
  after_two l h = sound (λ c p q. scalar-low c (omega arith)) (one_range 0x80 0xbf (omega arith) (omega arith) bs at (b % 32))

  after-three : 0xe0 ≤ b → b < 0xf0 → Sound (next_from (state (b % 16) 0 2 (lower_of b) (upper_of b)) at bs)
  after-three l h = by (eqb b 0xe0) (eqb b 0xed) refl refl
    where
      by : (s t : Bool) → eqb b 0xe0 ≡ s → eqb b 0xed ≡ t → Sound (next_from (state (b % 16) 0 2 (lower_of b) (upper_of b)) at bs)
      by true t p q = rw (eqb-true b 0xe0 p) (sound (λ c p q. scalar-low c (omega arith)) (two_range 0xa0 0xbf (omega arith) (omega arith) bs at 0))
      by false true p q = rw (eqb-true b 0xed q) (sound (λ c p q. scalar-low c (omega arith)) (two_range 0x80 0x9f (omega arith) (omega arith) bs at 13))
      by false false p q =
          let n : b ≡ 0xed → ⊥ = eqb-false b 0xed q in
          rw (← lower-other b (eqb-false b 0xe0 p) (λ e. omega arith), ← upper-other b n (λ e. omega arith))
          (sound (λ c l' h'. scalar_if c (λ k. omega arith) (omega arith)) (two_range 0x80 0xbf (omega arith) (omega arith) bs at (b % 16)))

  after-four : 0xf0 ≤ b → b < 0xf5 → Sound (next_from (state (b % 8) 0 3 (lower_of b) (upper_of b)) at bs)
  after-four l h = by (eqb b 0xf0) (eqb b 0xf4) refl refl
    where
      by : (s t : Bool) → eqb b 0xf0 ≡ s → eqb b 0xf4 ≡ t → Sound (next_from (state (b % 8) 0 3 (lower_of b) (upper_of b)) at bs)
      by true t p q = rw (eqb-true b 0xf0 p) (sound (λ c p q. scalar-high c (omega arith) (omega arith)) (three_range 0x90 0xbf (omega arith) (omega arith) bs at 0))
      by false true p q = rw (eqb-true b 0xf4 q) (sound (λ c p q. scalar-high c (omega arith) (omega arith)) (three_range 0x80 0x8f (omega arith) (omega arith) bs at 4))
      by false false p q =
          let n : b ≡ 0xf0 → ⊥ = eqb-false b 0xf0 p in
          let m : b ≡ 0xf4 → ⊥ = eqb-false b 0xf4 q in
          rw (← lower-other b (λ e. omega arith) n, ← upper-other b (λ e. omega arith) m)
          (sound (λ c l' h'. scalar-high c (omega arith) (omega arith)) (three_range 0x80 0xbf (omega arith) (omega arith) bs at (b % 8)))

sound_if : (b k : ℕ) (p q : DecoderReply) (at : ℕ) (rest : State → Char) → (b < k → Sound (found p at rest)) → (k ≤ b → Sound (found q at rest)) → Sound (found (cond (ltb b k) p q) at rest)
sound_if b k p q at rest x y = by (ltb b k) refl
  where
    by : (t : Bool) → ltb b k ≡ t → Sound (found (cond t p q) at rest)
    by true e = x (ltb-true _ _ e)
    by false e = y (ltb-false _ _ e)

all_sound : (bs : List ℕ) (at : ℕ) → Sound (next_from initial at bs)
unfolding next_from leading found
all_sound [] at = sound-end
all_sound (b ∷ bs) at =
    let rest : State → Char = λ s. next_from s (at + 1) bs in
    sound_if b 0x80 _ _ at rest (λ h. sound-code {c = b} (scalar-low b (omega arith)))
    (λ h. sound_if b 0xc2 _ _ at rest (λ h₂. sound-error)
    (λ h₂. sound_if b 0xe0 _ _ at rest (after_two bs (at + 1) b h₂)
    (λ h₃. sound_if b 0xf0 _ _ at rest (after-three bs (at + 1) b h₃)
    (λ h₄. sound_if b 0xf5 _ _ at rest (after-four bs (at + 1) b h₄) (λ h₅. sound-error)))))

code-sound : {c e : ℕ} → Sound (Code c e) → is_scalar c ≡ true
code-sound (sound-code h) = h

-- what a caller of `next` cites
pub next-scalar : (text : List ℕ) (at : ℕ) (r : Char) → r ≡ next_at text at → (c e : ℕ) → r ≡ Code c e → is_scalar c ≡ true
next-scalar text at r h c e k = code-sound {c = c} {e = e} (rw (← k, h) (all_sound (drop at text) at))
