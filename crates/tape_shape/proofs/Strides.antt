-- The bytes of an array's elements, and a loop over them. Assumes nothing.
use mathlib.Core.Path.{◌≡◌, sym, ap, ◌∙◌}
use mathlib.Core.Bool.{Bool, true, false}
use mathlib.Core.List.{List}
use Prim.Native.Nat.{ℕ, zero, suc, ◌+◌, ◌*◌, ◌-◌, ◌^◌, ◌≤◌, ◌<◌}
use native.Mathlib.Omega.{arith}
use native.Mathlib.Nat.{zero-add, add-mul, one-mul, zero-mul, mul_comm, mul_assoc}
use lib.ListN.{length, get_or, take, drop, length-take, length-drop}
use lib.Dec.{eqb}
use borrow.Author.Tests.{eqb-true, leb-false}
use mir.Syntax.{w8, w64}
use mir.Val.{Fits}
use Rattle.type_book.specs.Book.{size_of, count_of, dimensions_of}
use Rattle.tape_shape.specs.Array.{product_from, stride_of, is_last, array_bytes, Fills, FillsNext, StrideIs}

swap : (a b p : ℕ) → a * (b * p) ≡ b * (a * p)
swap a b p = sym (mul_assoc a b p) ∙ ap (λ (x : ℕ). x * p) (mul_comm a b) ∙ mul_assoc b a p

-- the whole array is its first dimension
pub fills_first : (book : List ℕ) (t e len : ℕ) (b : Bool) → b ≡ eqb (array_bytes book t e) len → b ≡ true → Fills book 0 t e len
unfolding array_bytes
fills_first book t e len b q h = record { fills = eqb-true _ _ (sym q ∙ h) }

-- one index of a dimension that is not the last is the next dimension
pub fills-further : (book : List ℕ) (d t e len : ℕ) (b : Bool) → b ≡ is_last book d t → b ≡ false → FillsNext book d t e len → Fills book (d + 1) t e len
unfolding is_last stride_of product_from
fills-further book d t e len b q h f =
    let l : d + 1 < dimensions_of book t = leb-false (dimensions_of book t) (d + 1) (sym q ∙ h) in
    let k : dimensions_of book t - (d + 1) ≡ suc (dimensions_of book t - (d + 1 + 1)) = omega arith in
    record {
      fills =
          swap (count_of book t (d + 1)) (size_of book e) (product_from book t (d + 1 + 1) (dimensions_of book t - (d + 1 + 1)))
          ∙ (rw k at f.fills);
    }

-- a dimension that is not the last has a next one
pub next_dimension : (book : List ℕ) (d t : ℕ) (b : Bool) → b ≡ is_last book d t → b ≡ false → ((i : ℕ) → Fits w8 (get_or book i 0)) → Fits w8 (d + 1)
unfolding is_last
next_dimension book d t b q h k =
    let l : d + 1 < dimensions_of book t = leb-false (dimensions_of book t) (d + 1) (sym q ∙ h) in
    record { fits = omega (arith, (k (t * 512 + 2)).fits) }

-- ---- a loop over the elements

-- how far the loop over n elements of `stride` bytes has come
pub record Along (book : List ℕ) (d t e n stride from i len : ℕ) : Type 0 where
  pub step : 0 < n → stride ≡ stride_of book d t e
  pub upto : from + (n - i) * stride ≡ len

-- what the stride's function ensures
pub along-start : {book : List ℕ} {d t e n stride len : ℕ} → n ≡ count_of book t d → Fills book d t e len → StrideIs n len stride → Along book d t e n stride 0 0 len
along-start {book} {d} {t} {e} {n} {stride} {len} z f s =
    let k : n * stride_of book d t e ≡ len = rw z f.fills in
    record { step = λ l. s.is (stride_of book d t e) l k; upto = by n stride k s }
  where
    by : (n stride : ℕ) → n * stride_of book d t e ≡ len → StrideIs n len stride → 0 + (n - 0) * stride ≡ len
    by zero stride k s = rw (zero-mul) (sym (zero-mul (stride_of book d t e)) ∙ k)
    by (suc n) stride k s = let y : stride ≡ stride_of book d t e = s.is (stride_of book d t e) (omega arith) k in let z : suc n - 0 ≡ suc n = omega arith in rw (y, zero-add, z) k

bytes-split : (n stride i : ℕ) → i < n → (n - i) * stride ≡ stride + (n - (i + 1)) * stride
bytes-split n stride i l = let q : n - i ≡ 1 + (n - (i + 1)) = omega arith in rw (q, add-mul, one-mul)

pub along-again : {book : List ℕ} {d t e n stride from i len : ℕ} → i < n → Along book d t e n stride from i len → Along book d t e n stride (from + stride) (i + 1) len
along-again {book} {d} {t} {e} {n} {stride} {from} {i} {len} l a = record { step = a.step; upto = omega (arith, bytes-split n stride i l, a.upto) }

pub along-end : (book : List ℕ) (d t e n stride from i len : ℕ) → i < n → Along book d t e n stride from i len → from + stride ≤ len
along-end book d t e n stride from i len l a = omega (arith, bytes-split n stride i l, a.upto)

pub along-fits : (book : List ℕ) (d t e n stride from i len : ℕ) → i < n → Along book d t e n stride from i len → len < 2 ^ 64 → Fits w64 (from + stride)
along-fits book d t e n stride from i len l a h = record { fits = omega (arith, along-end book d t e n stride from i len l a) }

-- the next element has its bytes
pub element-fills : {book : List ℕ} {d t e n stride from i : ℕ} (mem : List ℕ) → i < n → Along book d t e n stride from i (length mem) → FillsNext book d t e (length (take (from + stride - from) (drop from mem)))
element-fills {book} {d} {t} {e} {n} {stride} {from} {i} mem l a =
    let y : stride ≡ stride_of book d t e = a.step (omega arith) in
    record { fills = sym y ∙ sym (simp (length-take, length-drop) (omega (arith, along-end book d t e n stride from i (length mem) l a))) }
