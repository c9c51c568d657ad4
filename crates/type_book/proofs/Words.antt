-- Names compared by words of w bytes, four or eight, each as one number. Assumes nothing.
use mathlib.Core.Path.{◌≡◌, refl, sym, ap, ◌∙◌}
use mathlib.Core.Bool.{Bool, true, false}
use mathlib.Core.List.{List}
use Prim.Native.Nat.{ℕ, ◌+◌, ◌*◌, ◌-◌, ◌≤◌, ◌<◌}
use native.Mathlib.Omega.{arith}
use lib.ListN.{length, get_or, take, drop, length-take, length-drop, get_or-eq_default}
use lib.Seq.{take_all, take-take, take-add, get_or-take}
use lib.Dec.{eqb, ltb}
use borrow.Author.Tests.{eqb-true, eqb-false, ltb-true, ltb-false}
use mir.Syntax.{w8}
use mir.Val.{Fits}
use Rattle.enc_number.specs.Le.{Bytes, le_value, le_bytes}
use Rattle.enc_number.proofs.ByteOrder.{le_bytes-le_value, bytes_of, bytes_drop}
use Rattle.type_book.specs.Book.{same_name}
use Rattle.type_book.proofs.Names.{same_refl, same_eq, eq_same, other_name}

-- ---- a word

bytes_take : (n : ℕ) (s : List ℕ) → Bytes s → Bytes (take n s)
bytes_take n s h i = by (ltb i n) refl
  where
    by : (t : Bool) → ltb i n ≡ t → get_or (take n s) i 0 < 256
    by true q = rw (get_or-take n s i 0 (ltb-true i n q)) (h i)
    by false q =
        let z : get_or (take n s) i 0 ≡ 0 = get_or-eq_default (take n s) 0 (omega (arith, length-take n s, ltb-false i n q)) in
        omega arith

-- the bytes of their number
word_bytes : (w : ℕ) (s : List ℕ) (i : ℕ) → i + w ≤ length s → Bytes s → le_bytes w (le_value (take w (drop i s))) ≡ take w (drop i s)
word_bytes w s i l f =
    let n : length (take w (drop i s)) ≡ w = simp (length-take, length-drop) (omega (arith, l)) in
    rw n at (le_bytes-le_value (take w (drop i s)) (bytes_take w (drop i s) (bytes_drop i s f)))

module _ (w : ℕ) (a b : List ℕ) (i : ℕ) (hw : w ≤ 8) (ha : i + w ≤ length a) (hb : i + w ≤ length b) (fa : (k : ℕ) → Fits w8 (get_or a k 0)) (fb : (k : ℕ) → Fits w8 (get_or b k 0)) where
  number_same : le_value (take w (drop i a)) ≡ le_value (take w (drop i b)) → take w (drop i a) ≡ take w (drop i b)
  number_same q = sym (word_bytes w a i ha (bytes_of a fa)) ∙ ap (le_bytes w) q ∙ word_bytes w b i hb (bytes_of b fb)

  -- a word has at most eight bytes, so that all of it is read
  word_whole : (s : List ℕ) → take 8 (take (i + w - i) (drop i s)) ≡ take w (drop i s)
  word_whole s =
      let e : i + w - i ≡ w = omega arith in
      rw e (take_all 8 (take w (drop i s)) (omega (arith, hw, length-take w (drop i s))))

  -- they are the same exactly if their numbers are
  pub same_number : (x y : ℕ) → x ≡ le_value (take 8 (take (i + w - i) (drop i a))) → y ≡ le_value (take 8 (take (i + w - i) (drop i b)))
      → eqb x y ≡ same_name (take w (drop i a)) (take w (drop i b))
  same_number x y ex ey = by (eqb x y) refl
    where
      p : x ≡ le_value (take w (drop i a))
      p = ex ∙ ap le_value (word_whole a)

      q : y ≡ le_value (take w (drop i b))
      q = ey ∙ ap le_value (word_whole b)

      by : (t : Bool) → eqb x y ≡ t → t ≡ same_name (take w (drop i a)) (take w (drop i b))
      by true e = sym (eq_same _ _ (number_same (sym p ∙ eqb-true x y e ∙ q)))
      by false e = other_name _ _ (λ z. eqb-false x y e (p ∙ ap le_value z ∙ sym q))

-- ---- the words of `same_name`

-- the first i bytes are the same
pub record SameTo (a b : List ℕ) (i : ℕ) : Type 0 where
  pub same : take i a ≡ take i b

pub none_compared : (a b : List ℕ) → SameTo a b 0
none_compared a b = record { same = refl }

module _ (w : ℕ) (a b : List ℕ) (i : ℕ) (t : Bool) (et : t ≡ same_name (take w (drop i a)) (take w (drop i b))) where
  -- names that differ in a word are not the same
  pub word-differs : t ≡ false → false ≡ same_name a b
  word-differs q = other_name a b (λ e. let z : true ≡ false = sym (same_refl (take w (drop i b))) ∙ ap (λ (s : List ℕ). same_name (take w (drop i s)) (take w (drop i b))) (sym e) ∙ sym et ∙ q in absurd (let o : ◌≡◌ {A = ℕ} 0 1 = cc in omega arith))

  -- the same of the answer itself
  pub word-no : t ≡ false → t ≡ same_name a b
  word-no q = q ∙ word-differs q

  -- one word more
  pub word-again : t ≡ true → SameTo a b i → SameTo a b (i + w)
  word-again q inv = record { same = rw (take-add i w a, take-add i w b, inv.same, same_eq _ _ (sym et ∙ q)) }

-- the last word tells, where the bytes before place j were compared and it begins no later
pub word-last : (w : ℕ) (a b : List ℕ) (j : ℕ) (t : Bool) → t ≡ same_name (take w (drop (length a - w) a)) (take w (drop (length a - w) b)) → length a ≡ length b → w ≤ length a → length a - w ≤ j → SameTo a b j
    → t ≡ same_name a b
word-last w a b j t et e m l inv = by t refl
  where
    i : ℕ
    i = length a - w

    p : take i a ≡ take i b
    p = sym (take-take i j a l) ∙ ap (take i) inv.same ∙ take-take i j b l

    by : (g : Bool) → t ≡ g → t ≡ same_name a b
    by false q = q ∙ word-differs w a b i t et q
    by true q =
        let r : take (i + w) a ≡ take (i + w) b = (word-again w a b i t et q (record { same = p })).same in
        let u : take (i + w) a ≡ a = take_all (i + w) a (omega (arith, m)) in
        let v : take (i + w) b ≡ b = take_all (i + w) b (omega (arith, m, e)) in
        q ∙ sym (eq_same a b (sym u ∙ r ∙ v))

-- where the bytes before place i were compared, the word there is the same, and the last word begins no later than that one ends
module _ (w : ℕ) (a b : List ℕ) (i : ℕ) (s : Bool) (es : s ≡ same_name (take w (drop i a)) (take w (drop i b))) where
  pub word-last-next : s ≡ true → (t : Bool) → t ≡ same_name (take w (drop (length a - w) a)) (take w (drop (length a - w) b)) → length a ≡ length b → w ≤ length a → length a - w - i ≤ w → SameTo a b i
      → t ≡ same_name a b
  word-last-next p t et e m l inv = word-last w a b (i + w) t et e m (omega (arith, l)) (word-again w a b i s es p inv)

-- a name of fewer than two words: the first w bytes and the last w are all of it
pub two_words : (w : ℕ) (a b : List ℕ) (s t : Bool) → s ≡ same_name (take w (drop 0 a)) (take w (drop 0 b)) → s ≡ true → t ≡ same_name (take w (drop (length a - w) a)) (take w (drop (length a - w) b)) → length a ≡ length b → w ≤ length a → length a < 2 * w
    → t ≡ same_name a b
two_words w a b s t es p et e m l = word-last-next w a b 0 s es p t et e m (omega (arith, l)) (none_compared a b)
