-- Laws of the index: the only place that opens `code_point`, `first_from` and `byte_of`. Assumes nothing.
use Rattle.std.specs.Prelude.{Option, Some, None}
use mathlib.Core.Path.{◌≡◌, refl, sym, ap, ◌∙◌}
use mathlib.Core.Bool.{Bool, true, false, cond}
use mathlib.Core.List.{List}
use Prim.Native.Nat.{ℕ, zero, suc, ◌+◌, ◌-◌, ◌/◌, ◌%◌, ◌≤◌, ◌<◌}
use native.Mathlib.Nat.{add-zero, zero-add, suc-add}
use native.Mathlib.Omega.{arith}
use lib.ListN.{get_or}
use lib.Dec.{ltb, eqb}
use borrow.Author.Tests.{le-ltb, lt-ltb, le-leb, lt-leb, eq-eqb, ne_eqb, eqb-true, ltb-true, ltb-false}
use Rattle.enc_windows_1252.specs.Index.{listed_points, code_point, code_points, first_from, byte_of}
use Rattle.enc_windows_1252.proofs.Table.{at, same}

-- ---- the code point of a byte

-- the entry of the table
pub point_is : (l : List ℕ) (b : ℕ) → l ≡ code_points → b < 256 → get_or l b 0 ≡ code_point b
unfolding code_points
point_is l b e h = rw e (at code_point 256 b 0 h)

pub own-low : (b : ℕ) → b < 0x80 → code_point b ≡ b
unfolding code_point
own-low b h = rw (lt-leb 0x80 b h)

pub own-high : (b : ℕ) → 0xa0 ≤ b → code_point b ≡ b
unfolding code_point
own-high b h =
    let l : 0x80 ≤ b = omega arith in
    rw (le-leb 0x80 b l, le-ltb b 0xa0 h)

-- the bytes 80h to 9Fh, and all others
pub point_listed : (b p : ℕ) → b / 32 ≡ 4 → p ≡ get_or listed_points (b % 32) 0 → p ≡ code_point b
unfolding code_point
point_listed b p e q =
    let l : 0x80 ≤ b = omega arith in
    let u : b < 0xa0 = omega arith in
    let d : b - 0x80 ≡ b % 32 = omega arith in
    rw (le-leb 0x80 b l, lt-ltb b 0xa0 u, d) q

pub point_own : (b : ℕ) → (b / 32 ≡ 4 → ⊥) → b ≡ code_point b
point_own b n = by (ltb b 0x80) refl
  where
    by : (t : Bool) → ltb b 0x80 ≡ t → b ≡ code_point b
    by true t = sym (own-low b (ltb-true b 0x80 t))
    by false t = let l : 0x80 ≤ b = ltb-false b 0x80 t in sym (own-high b (omega (arith, n)))

-- ---- the byte of a code point: the inverse

-- each byte is the byte of its code point
byte_of_code : (b : ℕ) → b < 256 → byte_of (code_point b) ≡ Some b
unfolding listed_points code_point first_from byte_of
byte_of_code b h = same (λ (k : ℕ). byte_of (code_point k)) Some 256 b None refl h

pub byte-is : (b c : ℕ) → b < 256 → code_point b ≡ c → Some b ≡ byte_of c
byte-is b c h e = sym (ap byte_of (sym e) ∙ byte_of_code b h)

-- b is a byte and c its code point
pub record Coded (b c : ℕ) : Type 0 where
  pub byte : b < 256
  pub code : code_point b ≡ c

no_byte : {X : Type 0} {b : ℕ} → None ≡ Some b → X
no_byte e = absurd (let z : ◌≡◌ {A = ℕ} 0 1 = cc in omega arith)

found : (c b k n : ℕ) → b + k ≤ 256 → first_from c b k ≡ Some n → Coded n c
unfolding first_from
found c b zero n h e = no_byte e
found c b (suc k) n h e = by (eqb (code_point b) c) refl e (λ q. found c (b + 1) k n (omega arith) q)
  where
    by : (t : Bool) → eqb (code_point b) c ≡ t → cond t (Some b) (first_from c (b + 1) k) ≡ Some n → (first_from c (b + 1) k ≡ Some n → Coded n c) → Coded n c
    by true q e later = let z : b ≡ n = cc in rw (← z) (record { byte = omega arith; code = eqb-true (code_point b) c q })
    by false q e later = later e

pub code_is : (b c : ℕ) → byte_of c ≡ Some b → Coded b c
unfolding byte_of
code_is b c e = by (ltb c 0x80) refl e
  where
    by : (t : Bool) → ltb c 0x80 ≡ t → cond t (Some c) (first_from c 0x80 0x80) ≡ Some b → Coded b c
    by true q e = let z : c ≡ b = cc in rw (← z) (record { byte = omega (arith, ltb-true c 0x80 q); code = own-low c (ltb-true c 0x80 q) })
    by false q e = found c 0x80 0x80 b (omega arith) e

-- ---- the search for it

first-cut : (c b j k : ℕ) → first_from c (b + j) k ≡ None → first_from c b (j + k) ≡ first_from c b j
unfolding first_from
first-cut c b zero k h = rw zero-add (rw add-zero at h)
first-cut c b (suc j) k h =
    let e : b + suc j ≡ b + 1 + j = omega arith in
    rw (suc-add, first-cut c (b + 1) j k (rw e at h))

first-none : (c b k : ℕ) → 0xa0 ≤ b → ((j : ℕ) → b ≤ j → j < b + k → j ≡ c → ⊥) → first_from c b k ≡ None
unfolding first_from
first-none c b zero h n = refl
first-none c b (suc k) h n =
    rw (ne_eqb (code_point b) c (λ e. n b (omega arith) (omega arith) (sym (own-high b h) ∙ e)))
    (first-none c (b + 1) k (omega arith) (λ j l u. n j (omega arith) (omega arith)))

module _ (c : ℕ) (h : 0x80 ≤ c) where
  search_is : ((j : ℕ) → 0xa0 ≤ j → j < 0x100 → j ≡ c → ⊥) → byte_of c ≡ first_from c 0x80 0x20
  unfolding byte_of
  search_is n = rw (le-ltb c 0x80 h) (first-cut c 0x80 0x20 0x60 (first-none c 0xa0 0x60 (omega arith) n))

  pub byte-listed : (r : Option ℕ) → c < 0xa0 → r ≡ first_from c 0x80 0x20 → r ≡ byte_of c
  byte-listed r l e = e ∙ sym (search_is (λ j lo hi q. omega arith))

pub byte_low : (c : ℕ) → c < 0x80 → Some c ≡ byte_of c
byte_low c h = byte-is c c (omega arith) (own-low c h)

pub byte_high : (c : ℕ) → 0xa0 ≤ c → c < 0x100 → Some c ≡ byte_of c
byte_high c h l = byte-is c c (omega arith) (own-high c h)

pub byte_beyond : (c : ℕ) (r : Option ℕ) → 0x100 ≤ c → r ≡ first_from c 0x80 0x20 → r ≡ byte_of c
byte_beyond c r h e = e ∙ sym (search_is c (omega arith) (λ j lo hi q. omega arith))

-- ---- the loop over 80h to 9Fh: what is left of the search gives the whole

module _ (c b : ℕ) (inv : first_from c 0x80 0x20 ≡ first_from c b (0xa0 - b)) where
  turn : b < 0xa0 → first_from c 0x80 0x20 ≡ cond (eqb (code_point b) c) (Some b) (first_from c (b + 1) (0xa0 - (b + 1)))
  unfolding first_from
  turn h = let k : 0xa0 - b ≡ suc (0xa0 - (b + 1)) = omega arith in inv ∙ rw k

  pub listed_here : (p : ℕ) → b < 0xa0 → p ≡ code_point b → p ≡ c → Some b ≡ first_from c 0x80 0x20
  listed_here p h e q = sym (turn h ∙ rw (eq-eqb (code_point b) c (sym e ∙ q)))

  pub listed-again : (p : ℕ) → b < 0xa0 → p ≡ code_point b → (p ≡ c → ⊥) → first_from c 0x80 0x20 ≡ first_from c (b + 1) (0xa0 - (b + 1))
  listed-again p h e n = turn h ∙ rw (ne_eqb (code_point b) c (λ q. n (e ∙ q)))

  pub listed-none : 0xa0 ≤ b → None ≡ first_from c 0x80 0x20
  unfolding first_from
  listed-none h = let k : 0xa0 - b ≡ 0 = omega arith in sym (inv ∙ rw k)
