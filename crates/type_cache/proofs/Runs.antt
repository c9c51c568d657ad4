-- Tests of blocks one after another: what holds of a run holds of its parts, and back. Assumes nothing.
use mathlib.Core.Path.{◌≡◌, refl}
use mathlib.Core.Bool.{Bool, true}
use mathlib.Core.List.{List}
use Prim.Native.Nat.{ℕ, zero, suc, ◌+◌, ◌<◌}
use native.Mathlib.Omega.{arith}
use borrow.Author.Tests.{eqb-true}
use lib.Dec.{eqb}
use Rattle.type_book.specs.Book.{block_of, fields_of, entries_of}
use Rattle.type_book.proofs.Blocks.{same-u32}
use Rattle.type_block_form.specs.Form.{type_form, field_form, entry_form}
use Rattle.type_doubles.specs.Doubles.{all_from}
use Rattle.type_book_check.specs.Check.{place_of, places_onward, placed_from}
use Rattle.type_book_check.proofs.Valid.{chosen, went}
use Rattle.type_cache.proofs.Checked.{and_left, and_right}

-- ---- a test of every block
pub each : (p : ℕ → Bool) (i k : ℕ) → all_from p i k ≡ true → (j : ℕ) → j < k → p (i + j) ≡ true
unfolding all_from
each p i zero h j l = absurd (omega arith)
each p i (suc k) h zero l = let q : i + 0 ≡ i = omega arith in rw q (and_left _ _ h)
each p i (suc k) h (suc j) l =
    let q : i + suc j ≡ i + 1 + j = omega arith in
    rw q (each p (i + 1) k (and_right (p i) _ h) j (omega arith))

pub all-each : (p : ℕ → Bool) (i k : ℕ) → ((j : ℕ) → j < k → p (i + j) ≡ true) → all_from p i k ≡ true
unfolding all_from
all-each p i zero f = refl
all-each p i (suc k) f =
    let q : i + 0 ≡ i = omega arith in
    let h : p i ≡ true = rw q at (f 0 (omega arith)) in
    rw h (all-each p (i + 1) k (λ j l. let o : i + 1 + j ≡ i + suc j = omega arith in rw o (f (suc j) (omega arith))))

-- ---- the blocks in their places
-- the first of the blocks that two books share, and the others
first : (a b : List ℕ) (m n k : ℕ) → ((j : ℕ) → j < suc k → block_of b (n + j) ≡ block_of a (m + j)) → block_of b n ≡ block_of a m
first a b m n k h =
    let p : m + 0 ≡ m = omega arith in
    let q : n + 0 ≡ n = omega arith in
    rw (p, q) at (h 0 (omega arith))

others : (a b : List ℕ) (m n k : ℕ) → ((j : ℕ) → j < suc k → block_of b (n + j) ≡ block_of a (m + j)) → (j : ℕ) → j < k → block_of b (n + 1 + j) ≡ block_of a (m + 1 + j)
others a b m n k h j l =
    let p : m + suc j ≡ m + 1 + j = omega arith in
    let q : n + suc j ≡ n + 1 + j = omega arith in
    rw (p, q) at (h (suc j) (omega arith))

-- where f fields and e entries are due and in their places, these f + e blocks are so in a book of their own
pub placed-due : (a b : List ℕ) (m n k f e : ℕ) → ((j : ℕ) → j < f + e → block_of b (n + j) ≡ block_of a (m + j)) → placed_from a m k f e ≡ true → placed_from b n (f + e) f e ≡ true
unfolding placed_from place_of places_onward
placed-due a b m n zero f e s h =
    let x : f ≡ 0 = eqb-true f 0 (and_left _ _ h) in
    let y : e ≡ 0 = eqb-true e 0 (and_right (eqb f 0) _ h) in
    rw (x, y)
placed-due a b m n (suc k) zero zero s h = refl
placed-due a b m n (suc k) zero (suc e) s h =
    let o : 0 + suc e ≡ suc (0 + e) = omega arith in
    let r : (j : ℕ) → j < suc (0 + e) → block_of b (n + j) ≡ block_of a (m + j) = λ j l. s j (omega arith) in
    rw (o, first a b m n (0 + e) r, chosen (entry_form (block_of a m)) _ _ _ h)
    (placed-due a b (m + 1) (n + 1) k 0 e (others a b m n (0 + e) r) (went (entry_form (block_of a m)) _ _ _ h))
placed-due a b m n (suc k) (suc f) e s h =
    let o : suc f + e ≡ suc (f + e) = omega arith in
    let r : (j : ℕ) → j < suc (f + e) → block_of b (n + j) ≡ block_of a (m + j) = λ j l. s j (omega arith) in
    rw (o, first a b m n (f + e) r, chosen (field_form (block_of a m)) _ _ _ h)
    (placed-due a b (m + 1) (n + 1) k f e (others a b m n (f + e) r) (went (field_form (block_of a m)) _ _ _ h))

-- so too a type with its fields and entries
pub placed-type : (a b : List ℕ) (m n k : ℕ) → ((j : ℕ) → j < suc (fields_of a m + entries_of a m) → block_of b (n + j) ≡ block_of a (m + j))
    → type_form (block_of a m) ≡ true → placed_from a (m + 1) k (fields_of a m) (entries_of a m) ≡ true → placed_from b n (suc (fields_of a m + entries_of a m)) 0 0 ≡ true
unfolding placed_from place_of places_onward
placed-type a b m n k s t h =
    let z : block_of b n ≡ block_of a m = first a b m n _ s in
    rw (z, t, same-u32 b a n m z 12 (omega arith), same-u32 b a n m z 16 (omega arith))
    (placed-due a b (m + 1) (n + 1) k _ _ (others a b m n _ s) h)

-- the first block of a book is a type
pub placed_first : (book : List ℕ) (n k : ℕ) → placed_from book n (suc k) 0 0 ≡ true → type_form (block_of book n) ≡ true
unfolding placed_from place_of
placed_first book n k h = chosen (type_form (block_of book n)) _ _ _ h
