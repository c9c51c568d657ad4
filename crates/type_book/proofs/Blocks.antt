-- What a block says depends on its 512 bytes alone, and a book that is added to keeps its blocks. Assumes nothing.
use mathlib.Core.Path.{◌≡◌, refl, sym, ap, ◌∙◌}
use mathlib.Core.List.{List, [], ◌∷◌, ◌++◌}
use Prim.Native.Nat.{ℕ, zero, suc, ◌+◌, ◌*◌, ◌≤◌, ◌<◌}
use native.Mathlib.Omega.{arith}
use lib.ListN.{length, get_or, take, drop, length-drop}
use lib.Seq.{take-take, drop-drop, get_or-take, get_or-drop, take-append-le, drop-append-le}
use Rattle.enc_number.specs.Le.{le_value}
use Rattle.type_book.specs.Book.{block_of, byte_at, u32_at}

-- a part that ends within the first w elements is a part of these
within : (len k w : ℕ) (s : List ℕ) → k + len ≤ w → take len (drop k (take w s)) ≡ take len (drop k s)
within len zero w s h = take-take len w s (omega arith)
within len (suc k) zero s h = absurd (omega arith)
within len (suc k) (suc w) [] h = refl
within len (suc k) (suc w) (x ∷ xs) h = within len k w xs (omega arith)

pub byte_of_block : (book : List ℕ) (n k : ℕ) → k < 512 → get_or (block_of book n) k 0 ≡ byte_at book n k
byte_of_block book n k h = get_or-take 512 (drop (n * 512) book) k 0 h ∙ get_or-drop (n * 512) book k 0

pub part_of_block : (book : List ℕ) (n k len : ℕ) → k + len ≤ 512 → take len (drop k (block_of book n)) ≡ take len (drop (n * 512 + k) book)
part_of_block book n k len h = within len k 512 (drop (n * 512) book) h ∙ ap (take len) (drop-drop k (n * 512) book)

-- two blocks of the same bytes, in one book or in two
module _ (a b : List ℕ) (m n : ℕ) (e : block_of a m ≡ block_of b n) where
  pub same_byte : (k : ℕ) → k < 512 → byte_at a m k ≡ byte_at b n k
  same_byte k h = sym (byte_of_block a m k h) ∙ ap (λ (s : List ℕ). get_or s k 0) e ∙ byte_of_block b n k h

  pub same-part : (k len : ℕ) → k + len ≤ 512 → take len (drop (m * 512 + k) a) ≡ take len (drop (n * 512 + k) b)
  same-part k len h = sym (part_of_block a m k len h) ∙ ap (λ (s : List ℕ). take len (drop k s)) e ∙ part_of_block b n k len h

  pub same-u32 : (k : ℕ) → k + 4 ≤ 512 → u32_at a m k ≡ u32_at b n k
  same-u32 k h = ap le_value (same-part k 4 h)

  -- the part that starts at byte k, as long as byte c says: a value, a name or a type name
  pub same-counted : (c k : ℕ) → c < 512 → k + byte_at a m c ≤ 512
      → take (byte_at a m c) (drop (m * 512 + k) a) ≡ take (byte_at b n c) (drop (n * 512 + k) b)
  same-counted c k hc h = same-part k (byte_at a m c) h ∙ ap (λ (l : ℕ). take l (drop (n * 512 + k) b)) (same_byte c hc)

pub block_append : (book more : List ℕ) (n : ℕ) → n * 512 + 512 ≤ length book → block_of (book ++ more) n ≡ block_of book n
block_append book more n h =
    ap (take 512) (drop-append-le (n * 512) book more (omega arith))
    ∙ take-append-le 512 (drop (n * 512) book) more (simp length-drop (omega arith))
