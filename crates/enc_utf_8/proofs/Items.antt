-- The first item that `next_at` finds is the first of `decode`, and the others are those from the place after it on. Assumes nothing.
use mathlib.Core.Path.{◌≡◌, refl, sym, ap, ◌∙◌}
use mathlib.Core.Bool.{Bool, true, false, cond, ◌&&◌}
use mathlib.Core.List.{List, [], ◌∷◌, map}
use Prim.Native.Nat.{ℕ, suc, ◌+◌, ◌*◌, ◌%◌, ◌-◌, ◌≤◌, ◌<◌}
use native.Mathlib.Omega.{arith}
use lib.ListN.{length, drop, length-drop, drop_of_length-le}
use lib.Seq.{drop-drop}
use lib.Dec.{leb, ltb, eqb, eqb-suc-zero}
use Rattle.enc_utf_8.specs.declared.Char.{Char}
use Rattle.enc_utf_8.specs.declared.Char.TheVariants.{Code, Error, End}
use Rattle.enc_utf_8.specs.Utf8.{Item, scalar, error, State, state, initial, DecoderReply, give, continue, leading, following, lower_of, upper_of, after_reply, decode_from, decode, no_error, well_formed, replaced, scalars, found, next_from, next_at}

-- the item `i` took the bytes of `bs` up to the place `e`, where `at` is the place of the first, and the items are `is`
record Took (i : Item) (e at : ℕ) (bs : List ℕ) (is : List Item) : Type 0 where
  count : ℕ
  place : e ≡ at + count
  within : count ≤ length bs
  items : is ≡ i ∷ decode (drop count bs)

-- what is found from a state on, and the items from it on
data Tells : Char → ℕ → List ℕ → List Item → Type 0 where
  tells-code : {c e at : ℕ} {bs : List ℕ} {is : List Item} → Took (scalar c) e at bs is → Tells (Code c e) at bs is
  tells-error : {e at : ℕ} {bs : List ℕ} {is : List Item} → Took error e at bs is → Tells (Error e) at bs is
  tells-end : {at : ℕ} {bs : List ℕ} → Tells End at bs []

by_cond : (t : Bool) {x y : Char} {at : ℕ} {bs : List ℕ} {is js : List Item} → Tells x at bs is → Tells y at bs js → Tells (cond t x y) at bs (cond t is js)
by_cond true p q = p
by_cond false p q = q

took-none : (i : Item) (at : ℕ) (bs : List ℕ) → Took i at at bs (i ∷ decode bs)
took-none i at bs = record { count = 0; place = omega arith; within = omega arith; items = refl }

took_one : (i : Item) (at b : ℕ) (bs : List ℕ) → Took i (at + 1) at (b ∷ bs) (i ∷ decode bs)
took_one i at b bs = record { count = 1; place = refl; within = omega arith; items = refl }

took-later : {i : Item} {e at : ℕ} (b : ℕ) {bs : List ℕ} {is : List Item} → Took i e (at + 1) bs is → Took i e at (b ∷ bs) is
took-later b t = record {
  count = suc t.count;
  place = omega (arith, t.place);
  within = omega (arith, t.within);
  items = t.items;
}

tells-later : {r : Char} {at : ℕ} (b : ℕ) {bs : List ℕ} {is : List Item} → Tells r (at + 1) bs is → Tells r at (b ∷ bs) is
tells-later b (tells-code t) = tells-code (took-later b t)
tells-later b (tells-error t) = tells-error (took-later b t)
tells-later b tells-end = tells-end

tells_reply : (p : DecoderReply) (at b : ℕ) (bs : List ℕ) → ((s : State) → Tells (next_from s (at + 1) bs) (at + 1) bs (decode_from s bs))
    → Tells (found p at (λ s. next_from s (at + 1) bs)) at (b ∷ bs) (after_reply p (λ s. decode_from s bs))
unfolding found after_reply
tells_reply (give (scalar c)) at b bs k = tells-code (took_one (scalar c) at b bs)
tells_reply (give error) at b bs k = tells-error (took_one error at b bs)
tells_reply (continue s) at b bs k = tells-later b (k s)

tells : (bs : List ℕ) (s : State) (at : ℕ) → Tells (next_from s at bs) at bs (decode_from s bs)
unfolding next_from decode_from
tells [] (state code seen needed lower upper) at = by_cond (eqb needed 0) tells-end (tells-error (took-none error at []))
tells (b ∷ bs) (state code seen needed lower upper) at =
    by_cond (eqb needed 0) (tells_reply (leading b) at b bs (λ s. tells bs s (at + 1)))
    (by_cond (leb lower b && leb b upper)
    (tells_reply (following code seen needed b) at b bs (λ s. tells bs s (at + 1)))
    (tells-error (took-none error at (b ∷ bs))))

-- ---- from the initial state on, every item takes a byte

-- bytes are needed: something is found
data Some : Char → Type 0 where
  some-code : {c e : ℕ} → Some (Code c e)
  some-error : {e : ℕ} → Some (Error e)

some_if : (t : Bool) {x y : Char} → Some x → Some y → Some (cond t x y)
some_if true p q = p
some_if false p q = q

needing : (bs : List ℕ) (code seen needed lower upper at : ℕ) → Some (next_from (state code seen (suc needed) lower upper) at bs)
unfolding next_from following found
needing [] code seen needed lower upper at = rw (eqb-suc-zero needed) some-error
needing (b ∷ bs) code seen needed lower upper at =
    rw (eqb-suc-zero needed)
    (some_if (leb lower b && leb b upper)
    (step (eqb (seen + 1) (suc needed)) (needing bs (code * 64 + b % 64) (seen + 1) needed 0x80 0xbf (at + 1)))
    some-error)
  where
    step : (t : Bool) → Some (next_from (state (code * 64 + b % 64) (seen + 1) (suc needed) 0x80 0xbf) (at + 1) bs)
        → Some (found (cond t (give (scalar (code * 64 + b % 64))) (continue (state (code * 64 + b % 64) (seen + 1) (suc needed) 0x80 0xbf))) at (λ s. next_from s (at + 1) bs))
    step true ih = some-code
    step false ih = ih

data Moves : Char → ℕ → Type 0 where
  moves-code : {c e at : ℕ} → at < e → Moves (Code c e) at
  moves-error : {e at : ℕ} → at < e → Moves (Error e) at

took-past : {i : Item} {e at : ℕ} {bs : List ℕ} {is : List Item} → Took i e (at + 1) bs is → at < e
took-past t = omega (arith, t.place)

moves-later : {r : Char} {at : ℕ} {bs : List ℕ} {is : List Item} → Some r → Tells r (at + 1) bs is → Moves r at
moves-later some-code (tells-code t) = moves-code (took-past t)
moves-later some-error (tells-error t) = moves-error (took-past t)

moves_if : (t : Bool) (p q : DecoderReply) (at : ℕ) (rest : State → Char) → Moves (found p at rest) at → Moves (found q at rest) at → Moves (found (cond t p q) at rest) at
moves_if true p q at rest x y = x
moves_if false p q at rest x y = y

moves : (b : ℕ) (bs : List ℕ) (at : ℕ) → Moves (next_from initial at (b ∷ bs)) at
unfolding next_from leading found
moves b bs at =
    let rest : State → Char = λ s. next_from s (at + 1) bs in
    moves_if (ltb b 0x80) _ _ at rest (moves-code (omega arith))
    (moves_if (ltb b 0xc2) _ _ at rest (moves-error (omega arith))
    (moves_if (ltb b 0xe0) _ _ at rest (moves-later (needing bs _ _ _ _ _ (at + 1)) (tells bs (state (b % 32) 0 1 128 191) (at + 1)))
    (moves_if (ltb b 0xf0) _ _ at rest (moves-later (needing bs _ _ _ _ _ (at + 1)) (tells bs (state (b % 16) 0 2 (lower_of b) (upper_of b)) (at + 1)))
    (moves_if (ltb b 0xf5) _ _ at rest (moves-later (needing bs _ _ _ _ _ (at + 1)) (tells bs (state (b % 8) 0 3 (lower_of b) (upper_of b)) (at + 1)))
    (moves-error (omega arith))))))

-- ---- what a caller of `next` cites

-- the first item of the text from `at` on is `i`, and the place after its bytes is `e`
pub record Begins (i : Item) (text : List ℕ) (at e : ℕ) : Type 0 where
  pub decodes : decode (drop at text) ≡ i ∷ decode (drop e text)
  pub past : at < e
  pub within : e ≤ length text

-- nothing is left from `at` on
pub record Ends (text : List ℕ) (at : ℕ) : Type 0 where
  pub decodes : decode (drop at text) ≡ []
  pub past : length text ≤ at

begins : {i : Item} {text : List ℕ} {at e : ℕ} → Took i e at (drop at text) (decode (drop at text)) → at < e → Begins i text at e
begins {i} {text} {at} {e} t m = record {
  decodes = t.items ∙ ap (λ (l : List ℕ). i ∷ decode l) (drop-drop t.count at text ∙ ap (λ (k : ℕ). drop k text) (sym t.place));
  past = m;
  within = omega (arith, t.within, t.place, length-drop at text);
}

code-took : {c e at : ℕ} {bs : List ℕ} {is : List Item} → Tells (Code c e) at bs is → Took (scalar c) e at bs is
code-took (tells-code t) = t

error-took : {e at : ℕ} {bs : List ℕ} {is : List Item} → Tells (Error e) at bs is → Took error e at bs is
error-took (tells-error t) = t

end-items : {at : ℕ} {bs : List ℕ} {is : List Item} → Tells End at bs is → is ≡ []
end-items tells-end = refl

code-moves : {c e at : ℕ} → Moves (Code c e) at → at < e
code-moves (moves-code h) = h

error-moves : {e at : ℕ} → Moves (Error e) at → at < e
error-moves (moves-error h) = h

no_end : {r : Char} {at : ℕ} → Moves r at → r ≡ End → ⊥
no_end (moves-code m) k = let z : ◌≡◌ {A = ℕ} 0 1 = cc in omega arith
no_end (moves-error m) k = let z : ◌≡◌ {A = ℕ} 0 1 = cc in omega arith

module _ (text : List ℕ) (at : ℕ) (r : Char) (h : r ≡ next_at text at) where
  told : Tells r at (drop at text) (decode (drop at text))
  told = rw h (tells (drop at text) initial at)

  moved : (bs : List ℕ) → drop at text ≡ bs → (r ≡ End → ⊥) → Moves r at
  unfolding next_from
  moved [] q n = absurd (n (h ∙ rw q))
  moved (b ∷ bs) q n = rw (h, q) (moves b bs at)

  pub next-code : (c e : ℕ) → r ≡ Code c e → Begins (scalar c) text at e
  next-code c e k = begins (code-took (rw k at told)) (code-moves (rw k at (moved (drop at text) refl (λ z. absurd (let y : ◌≡◌ {A = ℕ} 0 1 = cc in omega arith)))))

  pub next-error : (e : ℕ) → r ≡ Error e → Begins error text at e
  next-error e k = begins (error-took (rw k at told)) (error-moves (rw k at (moved (drop at text) refl (λ z. absurd (let y : ◌≡◌ {A = ℕ} 0 1 = cc in omega arith)))))

  past_end : (bs : List ℕ) → drop at text ≡ bs → r ≡ End → length text ≤ at
  past_end [] q k = omega (arith, length-drop at text, ap length q)
  past_end (b ∷ bs) q k = absurd (no_end {at = at} (rw (h, q) (moves b bs at)) k)

  pub next-none : r ≡ End → Ends text at
  next-none k = record { decodes = end-items (rw k at told); past = past_end (drop at text) refl k }

  -- the same of the scalar values, where an error counts as U+FFFD
  pub scalars-code : (c e : ℕ) → r ≡ Code c e → scalars (drop at text) ≡ c ∷ scalars (drop e text)
  scalars-code c e k = ap (λ (is : List Item). map replaced is) (next-code c e k).decodes

  pub scalars-error : (e : ℕ) → r ≡ Error e → scalars (drop at text) ≡ 0xfffd ∷ scalars (drop e text)
  scalars-error e k = ap (λ (is : List Item). map replaced is) (next-error e k).decodes

  pub scalars-none : r ≡ End → scalars (drop at text) ≡ []
  scalars-none k = ap (λ (is : List Item). map replaced is) (next-none k).decodes

-- ---- the exits of `well_formed`: the whole is well-formed where what is left is

module _ (text : List ℕ) (at : ℕ) (inv : well_formed text ≡ well_formed (drop at text)) where
  module _ (r : Char) (h : r ≡ next_at text at) where
    pub formed-again : (c e : ℕ) → r ≡ Code c e → well_formed text ≡ well_formed (drop e text)
    unfolding no_error
    formed-again c e k = inv ∙ rw (next-code text at r h c e k).decodes

    pub formed-less : (c e : ℕ) → r ≡ Code c e → length text - e < length text - at
    formed-less c e k = let b = next-code text at r h c e k in omega (arith, b.past, b.within)

    pub formed-not : (e : ℕ) → r ≡ Error e → false ≡ well_formed text
    unfolding no_error
    formed-not e k = sym (inv ∙ rw (next-error text at r h e k).decodes)

    pub formed-none : r ≡ End → true ≡ well_formed text
    unfolding no_error
    formed-none k = sym (inv ∙ rw (next-none text at r h k).decodes)

  pub formed-end : length text ≤ at → true ≡ well_formed text
  unfolding no_error decode_from
  formed-end l = sym (inv ∙ rw (drop_of_length-le text l))
