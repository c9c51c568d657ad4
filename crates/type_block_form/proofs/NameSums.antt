-- The names of a block that holds its sum: where the head and the two names have all of the sum, every byte past them is 0. Assumes nothing.
use mathlib.Core.Path.{◌≡◌, refl, sym, ap, ◌∙◌}
use mathlib.Core.Bool.{Bool, true, false, cond, ◌&&◌, and-true, and-false}
use mathlib.Core.List.{List, [], ◌∷◌, ◌++◌}
use Prim.Native.Nat.{ℕ, ◌+◌, ◌-◌, ◌≤◌, ◌<◌}
use native.Mathlib.Omega.{arith}
use lib.ListN.{length, get_or, take, drop, length-drop, take-append-drop}
use lib.Seq.{length-take-le, take-take, take-add, drop-drop}
use lib.Dec.{eqb}
use borrow.Author.Tests.{eqb-true, eqb-false, eq-eqb, ne_eqb, le-leb, lt-leb}
use Rattle.enc_number.specs.Le.{le_value}
use Rattle.std.specs.Prelude.{Option, Some, None}
use Rattle.type_block_form.specs.Form.{sum_of, sum_right, every, is_zero, is_printable, part, unused_zero, name_form, names_form}
use Rattle.type_block_form.specs.Names.{name_sum_of}
use Rattle.type_block_form.proofs.Bytes.{every-stop, every-end, sum-again, sum-end}
use Rattle.type_block_form.proofs.Sums.{sum_append}

-- ---- the loop of `name_sum`

module _ (name : List ℕ) (i total : ℕ) (e : every is_printable name ≡ every is_printable (drop i name)) where
  pub name-stop : i < length name → is_printable (get_or name i 0) ≡ false → None ≡ name_sum_of name
  unfolding name_sum_of
  name-stop l p = rw (← every-stop is_printable name i e l p)

  pub name-again : sum_of name ≡ total + sum_of (drop i name) → i < length name → (v : ℕ) → v ≡ get_or name i 0 → sum_of name ≡ total + v + sum_of (drop (i + 1) name)
  name-again s l v ev = rw ev (sum-again name i total s l)

  pub name-end : sum_of name ≡ total + sum_of (drop i name) → length name ≤ i → Some total ≡ name_sum_of name
  unfolding name_sum_of
  name-end s l = rw (← every-end is_printable name i e l, ← sum-end name i total s l)

-- ---- what the answer says of a name

sum_in : Option ℕ → ℕ
sum_in (Some n) = n
sum_in None = 0

-- one of its bytes may not stand in a name
said-wrong : (name : List ℕ) → name_sum_of name ≡ None → every is_printable name ≡ false
unfolding name_sum_of
said-wrong name q = by (every is_printable name) q
  where
    by : (t : Bool) → cond t (Some (sum_of name)) None ≡ None → t ≡ false
    by true z = cc
    by false z = refl

-- all of them may
said_letters : (name : List ℕ) (n : ℕ) → name_sum_of name ≡ Some n → every is_printable name ≡ true
unfolding name_sum_of
said_letters name n q = by (every is_printable name) q
  where
    by : (t : Bool) → cond t (Some (sum_of name)) None ≡ Some n → t ≡ true
    by true z = refl
    by false z = cc

-- and their sum is the one that is said
said-sum : (name : List ℕ) (n : ℕ) → name_sum_of name ≡ Some n → n ≡ sum_of name
unfolding name_sum_of sum_in
said-sum name n q =
    let z : name_sum_of name ≡ Some (sum_of name) = rw (said_letters name n q) in
    ap sum_in (sym q ∙ z)

-- ---- bytes that add up to nothing

zero-sum : (xs : List ℕ) → every is_zero xs ≡ eqb (sum_of xs) 0
unfolding every sum_of
zero-sum [] = refl
zero-sum (x ∷ xs) = by (eqb x 0) refl (zero-sum xs)
  where
    by : (s : Bool) → eqb x 0 ≡ s → every is_zero xs ≡ eqb (sum_of xs) 0 → eqb x 0 && every is_zero xs ≡ eqb (x + sum_of xs) 0
    by false p q = rw p (sym (ne_eqb (x + sum_of xs) 0 (λ z. eqb-false x 0 p (omega arith))))
    by true p q =
        let z : sum_of xs ≡ x + sum_of xs = omega (arith, eqb-true x 0 p) in
        rw (p, q) (ap (λ (n : ℕ). eqb n 0) z)

-- the sum of a list, by its first n bytes and those past them
sum-split : (n : ℕ) (xs : List ℕ) → sum_of xs ≡ sum_of (take n xs) + sum_of (drop n xs)
sum-split n xs = ap sum_of (sym (take-append-drop n xs)) ∙ sum_append (take n xs) (drop n xs)

-- ---- one name, in the 200 bytes that it may fill

module _ (n : ℕ) (bytes : List ℕ) (h : length bytes ≡ 200) where
  form_long : 200 < n → name_form n bytes ≡ false
  unfolding name_form unused_zero
  form_long l = rw (lt-leb n (length bytes) (omega arith))

  form_wrong : every is_printable (take n bytes) ≡ false → name_form n bytes ≡ false
  unfolding name_form
  form_wrong q = rw q (and-false (unused_zero n bytes))

  form_right : n ≤ 200 → every is_printable (take n bytes) ≡ true → name_form n bytes ≡ eqb (sum_of (drop n bytes)) 0
  unfolding name_form unused_zero
  form_right l q = rw (q, le-leb n (length bytes) (omega arith)) (and-true (every is_zero (drop n bytes)) ∙ zero-sum (drop n bytes))

-- ---- the two names of a block

module _ (b : List ℕ) (h : length b ≡ 512) where
  -- the 200 bytes from byte f on that a name may fill, and a name in them as the code cuts it
  room : (f : ℕ) → f ≤ 312 → length (take 200 (drop f b)) ≡ 200
  room f l = length-take-le 200 (drop f b) (simp length-drop (omega arith))

  name-cut : (f n : ℕ) → n ≤ 200 → take (f + n - f) (drop f b) ≡ take n (take 200 (drop f b))
  name-cut f n l = let z : f + n - f ≡ n = omega arith in rw z (sym (take-take n 200 (drop f b) l))

  module _ (n : ℕ) (en : n ≡ get_or b 52 0) where
    pub name-long : 200 < n → false ≡ names_form b
    unfolding names_form
    name-long l = rw (← en, form_long n (part 54 254 b) (room 54 (omega arith)) l)

    module _ (l : n ≤ 200) (r : Option ℕ) (er : r ≡ name_sum_of (take (54 + n - 54) (drop 54 b))) where
      pub name-wrong : r ≡ None → false ≡ names_form b
      unfolding names_form
      name-wrong q = rw (← en, form_wrong n (part 54 254 b) (room 54 (omega arith)) (said-wrong _ (ap name_sum_of (sym (name-cut 54 n l)) ∙ sym er ∙ q)))

      module _ (a : ℕ) (q : r ≡ Some a) (t : ℕ) (et : t ≡ get_or b 53 0) where
        first : name_form n (part 54 254 b) ≡ eqb (sum_of (drop n (part 54 254 b))) 0
        first = form_right n (part 54 254 b) (room 54 (omega arith)) l (said_letters _ a (ap name_sum_of (sym (name-cut 54 n l)) ∙ sym er ∙ q))

        pub type-name-long : 200 < t → false ≡ names_form b
        unfolding names_form
        type-name-long k = rw (← en, ← et, form_long t (part 254 454 b) (room 254 (omega arith)) k) (sym (and-false (name_form n (part 54 254 b))))

        module _ (k : t ≤ 200) (u : Option ℕ) (eu : u ≡ name_sum_of (take (254 + t - 254) (drop 254 b))) where
          pub type-name-wrong : u ≡ None → false ≡ names_form b
          unfolding names_form
          type-name-wrong p = rw (← en, ← et, form_wrong t (part 254 454 b) (room 254 (omega arith)) (said-wrong _ (ap name_sum_of (sym (name-cut 254 t k)) ∙ sym eu ∙ p))) (sym (and-false (name_form n (part 54 254 b))))

          module _ (c : ℕ) (p : u ≡ Some c) (right : sum_right b ≡ true) (s f : ℕ) (es : s ≡ le_value (take 4 (take 4 (drop 508 b)))) (ef : f ≡ sum_of (take 54 b)) where
            second : name_form t (part 254 454 b) ≡ eqb (sum_of (drop t (part 254 454 b))) 0
            second = form_right t (part 254 454 b) (room 254 (omega arith)) k (said_letters _ c (ap name_sum_of (sym (name-cut 254 t k)) ∙ sym eu ∙ p))

            of_name : a ≡ sum_of (take n (part 54 254 b))
            of_name = said-sum _ a (ap name_sum_of (sym (name-cut 54 n l)) ∙ sym er ∙ q)

            of_type-name : c ≡ sum_of (take t (part 254 454 b))
            of_type-name = said-sum _ c (ap name_sum_of (sym (name-cut 254 t k)) ∙ sym eu ∙ p)

            held : s ≡ sum_of (take 508 b)
            unfolding sum_right
            held = es ∙ rw (take-take 4 4 (drop 508 b) (omega arith)) (eqb-true _ _ right)

            -- the whole sum, part by part
            parted : sum_of (take 508 b) ≡ sum_of (take 54 b) + (sum_of (part 54 254 b) + (sum_of (part 254 454 b) + sum_of (part 454 508 b)))
            parted =
                let x : sum_of (take 508 b) ≡ sum_of (take 54 b) + sum_of (take 454 (drop 54 b)) = ap sum_of (take-add 54 454 b) ∙ sum_append _ _ in
                let y : sum_of (take 454 (drop 54 b)) ≡ sum_of (take 200 (drop 54 b)) + sum_of (take 254 (drop 254 b)) = ap sum_of (take-add 200 254 (drop 54 b) ∙ ap (λ (k : List ℕ). take 200 (drop 54 b) ++ take 254 k) (drop-drop 200 54 b)) ∙ sum_append _ _ in
                let z : sum_of (take 254 (drop 254 b)) ≡ sum_of (take 200 (drop 254 b)) + sum_of (take 54 (drop 454 b)) = ap sum_of (take-add 200 54 (drop 254 b) ∙ ap (λ (k : List ℕ). take 200 (drop 254 b) ++ take 54 k) (drop-drop 200 254 b)) ∙ sum_append _ _ in
                omega arith

            all_told : s ≡ f + a + c + (sum_of (drop n (part 54 254 b)) + (sum_of (drop t (part 254 454 b)) + sum_of (part 454 508 b)))
            all_told =
                let x = sum-split n (part 54 254 b) in
                let y = sum-split t (part 254 454 b) in
                omega (arith, held, parted, of_name, of_type-name)

            pub name-fits : s < 4294967296 → f + a < 18446744073709551616
            name-fits z = omega (arith, all_told)

            pub names-fit : s < 4294967296 → f + a + c < 18446744073709551616
            names-fit z = omega (arith, all_told)

            -- the head and the names have it all exactly if nothing is left
            told : sum_of (drop n (part 54 254 b)) ≡ 0 → sum_of (drop t (part 254 454 b)) ≡ 0 → sum_of (part 454 508 b) ≡ 0 → s ≡ f + a + c
            told i j m = omega (arith, all_told)

            left : s ≡ f + a + c → (sum_of (drop n (part 54 254 b)) ≡ 0) × (sum_of (drop t (part 254 454 b)) ≡ 0) × (sum_of (part 454 508 b) ≡ 0)
            left e = (omega (arith, all_told), omega (arith, all_told), omega (arith, all_told))

            pub names-told : eqb s (f + a + c) ≡ names_form b
            unfolding names_form
            names-told = rw (← en, ← et, first, second, zero-sum (part 454 508 b)) (by (eqb (sum_of (drop n (part 54 254 b))) 0) (eqb (sum_of (drop t (part 254 454 b))) 0) (eqb (sum_of (part 454 508 b)) 0) refl refl refl)
              where
                by : (x y z : Bool) → eqb (sum_of (drop n (part 54 254 b))) 0 ≡ x → eqb (sum_of (drop t (part 254 454 b))) 0 ≡ y → eqb (sum_of (part 454 508 b)) 0 ≡ z
                    → eqb s (f + a + c) ≡ x && (y && z)
                by true true true i j m = eq-eqb s (f + a + c) (told (eqb-true _ _ i) (eqb-true _ _ j) (eqb-true _ _ m))
                by false y z i j m = ne_eqb s (f + a + c) (λ e. eqb-false _ _ i (left e).0)
                by true false z i j m = ne_eqb s (f + a + c) (λ e. eqb-false _ _ j (left e).1)
                by true true false i j m = ne_eqb s (f + a + c) (λ e. eqb-false _ _ m (left e).2)
