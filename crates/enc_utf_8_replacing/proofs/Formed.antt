-- What the standard's decoder gives for well-formed bytes: their code points' own bytes; and what follows them is decoded as if it stood alone. Assumes nothing.
use mathlib.Core.Path.{◌≡◌, refl, sym, ap, ◌∙◌}
use mathlib.Core.Bool.{Bool, true, false, cond, ◌&&◌}
use mathlib.Core.List.{List, [], ◌∷◌, ◌++◌, flat_map, map}
use Prim.Native.Nat.{ℕ, zero, suc, ◌+◌, ◌*◌, ◌/◌, ◌%◌, ◌-◌, ◌≤◌, ◌<◌}
use native.Mathlib.Omega.{arith}
use lib.ListN.{length}
use lib.Dec.{leb, ltb, eqb, eqb-suc-zero}
use borrow.Author.Tests.{leb-true, ltb-true, ltb-false, eqb-true, eqb-false}
use Rattle.enc_utf_8.specs.Utf8.{Item, scalar, error, State, state, initial, DecoderReply, give, continue, lower_of, upper_of, leading, following, after_reply, decode_from, decode, no_error, well_formed, replaced, three, four, utf8_of}
use Rattle.enc_utf_8.proofs.Encodes.{utf8_one, utf8_two, utf8_three-low, utf8_three-high, utf8_four}

never : {X : Type 0} → false ≡ true → X
never e = absurd (let z : ◌≡◌ {A = ℕ} 0 1 = cc in omega arith)

both : (p q : Bool) → p && q ≡ true → (p ≡ true) × (q ≡ true)
both true q h = (refl, h)
both false q h = never h

-- ---- what follows a well-formed text is decoded as if it stood alone

join_if : (t : Bool) (is js ks ls tail : List Item) → (no_error ks ≡ true → is ≡ ks ++ tail) → (no_error ls ≡ true → js ≡ ls ++ tail)
    → no_error (cond t ks ls) ≡ true → cond t is js ≡ cond t ks ls ++ tail
join_if true is js ks ls tail p q h = p h
join_if false is js ks ls tail p q h = q h

join_reply : (p : DecoderReply) (xs ys : List ℕ) → ((s : State) → no_error (decode_from s xs) ≡ true → decode_from s (xs ++ ys) ≡ decode_from s xs ++ decode ys)
    → no_error (after_reply p (λ s. decode_from s xs)) ≡ true → after_reply p (λ s. decode_from s (xs ++ ys)) ≡ after_reply p (λ s. decode_from s xs) ++ decode ys
unfolding after_reply no_error
join_reply (give (scalar c)) xs ys k h = ap (λ (is : List Item). scalar c ∷ is) (k initial h)
join_reply (give error) xs ys k h = never h
join_reply (continue s) xs ys k h = k s h

-- where no byte is needed the state counts for nothing
at_rest : (code seen lower upper : ℕ) (ys : List ℕ) → decode_from (state code seen 0 lower upper) ys ≡ decode ys
unfolding decode_from
at_rest code seen lower upper [] = refl
at_rest code seen lower upper (y ∷ ys) = refl

join-end : (needed code seen lower upper : ℕ) (ys : List ℕ) → no_error (decode_from (state code seen needed lower upper) []) ≡ true
    → decode_from (state code seen needed lower upper) ys ≡ decode_from (state code seen needed lower upper) [] ++ decode ys
unfolding decode_from no_error
join-end zero code seen lower upper ys h = at_rest code seen lower upper ys
join-end (suc needed) code seen lower upper ys h = never (rw (eqb-suc-zero needed) at h)

join : (xs ys : List ℕ) (s : State) → no_error (decode_from s xs) ≡ true → decode_from s (xs ++ ys) ≡ decode_from s xs ++ decode ys
unfolding decode_from no_error
join [] ys (state code seen needed lower upper) h = join-end needed code seen lower upper ys h
join (x ∷ xs) ys (state code seen needed lower upper) h =
    join_if (eqb needed 0) _ _ _ _ (decode ys) (join_reply (leading x) xs ys (λ s. join xs ys s))
    (join_if (leb lower x && leb x upper) _ _ _ _ (decode ys) (join_reply (following code seen needed x) xs ys (λ s. join xs ys s)) (λ q. never q)) h

pub decode-join : (xs ys : List ℕ) → well_formed xs ≡ true → decode (xs ++ ys) ≡ decode xs ++ decode ys
decode-join xs ys h = join xs ys initial h

-- ---- the bytes of one code point, by its digits of six bits

module _ (a b : ℕ) where
  two-own : 0xc2 ≤ a → a < 0xe0 → 0x80 ≤ b → b ≤ 0xbf → utf8_of (a % 32 * 64 + b % 64) ≡ a ∷ b ∷ []
  two-own l h lb hb =
      let c : ℕ = a % 32 * 64 + b % 64 in
      let x : 0xc0 + c / 64 ≡ a = omega arith in
      let y : 0x80 + c % 64 ≡ b = omega arith in
      utf8_two c (omega arith) (omega arith) ∙ rw (x, y)

-- the boundaries after a lead byte
record Bound (a b : ℕ) : Type 0 where
  low : 0x80 ≤ b
  high : b ≤ 0xbf
  not-overlong_3 : a ≡ 0xe0 → 0xa0 ≤ b
  not-surrogate : a ≡ 0xed → b ≤ 0x9f
  not-overlong_4 : a ≡ 0xf0 → 0x90 ≤ b
  not-past : a ≡ 0xf4 → b ≤ 0x8f

bound : (a b : ℕ) → lower_of a ≤ b → b ≤ upper_of a → Bound a b
bound a b l h = by (eqb a 0xe0) (eqb a 0xf0) (eqb a 0xed) (eqb a 0xf4) refl refl refl refl l h
  where
    by : (s t u v : Bool) → eqb a 0xe0 ≡ s → eqb a 0xf0 ≡ t → eqb a 0xed ≡ u → eqb a 0xf4 ≡ v → cond s 0xa0 (cond t 0x90 0x80) ≤ b → b ≤ cond u 0x9f (cond v 0x8f 0xbf) → Bound a b
    by s t u v p q r w l h = record {
      low = lowest s t l;
      high = highest u v h;
      not-overlong_3 = λ e. over-three s t p l e;
      not-surrogate = λ e. under-surrogate u v r h e;
      not-overlong_4 = λ e. over-four s t p q l e;
      not-past = λ e. under_last u v r w h e;
    }
      where
        lowest : (s t : Bool) → cond s 0xa0 (cond t 0x90 0x80) ≤ b → 0x80 ≤ b
        lowest true t l = omega arith
        lowest false true l = omega arith
        lowest false false l = omega arith

        highest : (u v : Bool) → b ≤ cond u 0x9f (cond v 0x8f 0xbf) → b ≤ 0xbf
        highest true v h = omega arith
        highest false true h = omega arith
        highest false false h = omega arith

        over-three : (s t : Bool) → eqb a 0xe0 ≡ s → cond s 0xa0 (cond t 0x90 0x80) ≤ b → a ≡ 0xe0 → 0xa0 ≤ b
        over-three true t p l e = l
        over-three false t p l e = absurd (eqb-false a 0xe0 p e)

        over-four : (s t : Bool) → eqb a 0xe0 ≡ s → eqb a 0xf0 ≡ t → cond s 0xa0 (cond t 0x90 0x80) ≤ b → a ≡ 0xf0 → 0x90 ≤ b
        over-four true t p q l e = omega arith
        over-four false true p q l e = l
        over-four false false p q l e = absurd (eqb-false a 0xf0 q e)

        under-surrogate : (u v : Bool) → eqb a 0xed ≡ u → b ≤ cond u 0x9f (cond v 0x8f 0xbf) → a ≡ 0xed → b ≤ 0x9f
        under-surrogate true v r h e = h
        under-surrogate false v r h e = absurd (eqb-false a 0xed r e)

        under_last : (u v : Bool) → eqb a 0xed ≡ u → eqb a 0xf4 ≡ v → b ≤ cond u 0x9f (cond v 0x8f 0xbf) → a ≡ 0xf4 → b ≤ 0x8f
        under_last true v r w h e = absurd (let z = eqb-true a 0xed r in omega arith)
        under_last false true r w h e = h
        under_last false false r w h e = absurd (eqb-false a 0xf4 w e)

three-digits : (c p q r : ℕ) → (p * 64 + q) * 64 + r ≡ c → q < 64 → r < 64 → three c ≡ (0xe0 + p) ∷ (0x80 + q) ∷ (0x80 + r) ∷ []
three-digits c p q r e hq hr =
    let x : c / 4096 ≡ p = omega arith in
    let y : c / 64 ≡ p * 64 + q = omega arith in
    let z : (p * 64 + q) % 64 ≡ q = omega arith in
    let w : c % 64 ≡ r = omega arith in
    rw (x, y, z, w)

four-digits : (c p q r s : ℕ) → ((p * 64 + q) * 64 + r) * 64 + s ≡ c → q < 64 → r < 64 → s < 64 → four c ≡ (0xf0 + p) ∷ (0x80 + q) ∷ (0x80 + r) ∷ (0x80 + s) ∷ []
four-digits c p q r s e hq hr hs =
    let x : c / 262144 ≡ p = omega arith in
    let y : c / 4096 ≡ p * 64 + q = omega arith in
    let y' : (p * 64 + q) % 64 ≡ q = omega arith in
    let z : c / 64 ≡ (p * 64 + q) * 64 + r = omega arith in
    let z' : ((p * 64 + q) * 64 + r) % 64 ≡ r = omega arith in
    let w : c % 64 ≡ s = omega arith in
    rw (x, y, y', z, z', w)

-- a byte that follows, by its six bits
six : (b : ℕ) → 0x80 ≤ b → b ≤ 0xbf → 0x80 + b % 64 ≡ b
six b l h = omega arith

three-own : (a b c : ℕ) → 0xe0 ≤ a → a < 0xf0 → Bound a b → 0x80 ≤ c → c ≤ 0xbf → utf8_of ((a % 16 * 64 + b % 64) * 64 + c % 64) ≡ a ∷ b ∷ c ∷ []
three-own a b c l h g lc hc =
    shape (eqb a 0xe0) (eqb a 0xed) refl refl
    ∙ three-digits _ (a % 16) (b % 64) (c % 64) refl (omega arith) (omega arith)
    ∙ rw (x, six b g.low g.high, six c lc hc)
  where
    x : 0xe0 + a % 16 ≡ a
    x = omega arith

    shape : (s t : Bool) → eqb a 0xe0 ≡ s → eqb a 0xed ≡ t → utf8_of ((a % 16 * 64 + b % 64) * 64 + c % 64) ≡ three ((a % 16 * 64 + b % 64) * 64 + c % 64)
    shape true t p q =
        let z = eqb-true a 0xe0 p in
        let y = g.not-overlong_3 z in
        utf8_three-low ((a % 16 * 64 + b % 64) * 64 + c % 64) (omega (arith, g.high)) (omega (arith, g.high))
    shape false true p q =
        let z = eqb-true a 0xed q in
        let y = g.not-surrogate z in
        utf8_three-low ((a % 16 * 64 + b % 64) * 64 + c % 64) (omega (arith, g.low)) (omega (arith, g.low))
    shape false false p q = side (ltb a 0xed) refl (eqb-false a 0xe0 p) (eqb-false a 0xed q)
      where
        side : (t : Bool) → ltb a 0xed ≡ t → (a ≡ 0xe0 → ⊥) → (a ≡ 0xed → ⊥) → utf8_of ((a % 16 * 64 + b % 64) * 64 + c % 64) ≡ three ((a % 16 * 64 + b % 64) * 64 + c % 64)
        side true e n m =
            let z = ltb-true a 0xed e in
            utf8_three-low ((a % 16 * 64 + b % 64) * 64 + c % 64) (omega (arith, g.low, g.high, n)) (omega (arith, g.low, g.high))
        side false e n m =
            let z = ltb-false a 0xed e in
            let y : 0xee ≤ a = omega (arith, m) in
            utf8_three-high ((a % 16 * 64 + b % 64) * 64 + c % 64) (omega (arith, g.low, g.high)) (omega (arith, g.low, g.high))

four-own : (a b c d : ℕ) → 0xf0 ≤ a → a < 0xf5 → Bound a b → 0x80 ≤ c → c ≤ 0xbf → 0x80 ≤ d → d ≤ 0xbf
    → utf8_of (((a % 8 * 64 + b % 64) * 64 + c % 64) * 64 + d % 64) ≡ a ∷ b ∷ c ∷ d ∷ []
four-own a b c d l h g lc hc ld hd =
    shape (eqb a 0xf0) (eqb a 0xf4) refl refl
    ∙ four-digits _ (a % 8) (b % 64) (c % 64) (d % 64) refl (omega arith) (omega arith) (omega arith)
    ∙ rw (x, six b g.low g.high, six c lc hc, six d ld hd)
  where
    x : 0xf0 + a % 8 ≡ a
    x = omega arith

    shape : (s t : Bool) → eqb a 0xf0 ≡ s → eqb a 0xf4 ≡ t → utf8_of (((a % 8 * 64 + b % 64) * 64 + c % 64) * 64 + d % 64) ≡ four (((a % 8 * 64 + b % 64) * 64 + c % 64) * 64 + d % 64)
    shape true t p q =
        let z = eqb-true a 0xf0 p in
        let y = g.not-overlong_4 z in
        utf8_four (((a % 8 * 64 + b % 64) * 64 + c % 64) * 64 + d % 64) (omega (arith, g.high)) (omega (arith, g.high))
    shape false true p q =
        let z = eqb-true a 0xf4 q in
        let y = g.not-past z in
        utf8_four (((a % 8 * 64 + b % 64) * 64 + c % 64) * 64 + d % 64) (omega (arith, g.low)) (omega (arith, g.low))
    shape false false p q =
        let n = eqb-false a 0xf0 p in
        let m = eqb-false a 0xf4 q in
        utf8_four (((a % 8 * 64 + b % 64) * 64 + c % 64) * 64 + d % 64) (omega (arith, g.low, g.high, n)) (omega (arith, g.low, g.high, m))

-- ---- a well-formed text is its own text

-- the text of some items
abbrev text_of : List Item → List ℕ
text_of is = flat_map utf8_of (map replaced is)

-- where bytes are needed and no error comes, a byte within the boundaries comes: the last of its code point, or one that more must follow
record Last (code lower upper : ℕ) (bs : List ℕ) (is : List Item) : Type 0 where
  byte : ℕ
  rest : List ℕ
  bytes : bs ≡ byte ∷ rest
  low : lower ≤ byte
  high : byte ≤ upper
  items : is ≡ scalar (code * 64 + byte % 64) ∷ decode rest
  formed : well_formed rest ≡ true

record More (code seen needed lower upper : ℕ) (bs : List ℕ) (is : List Item) : Type 0 where
  byte : ℕ
  rest : List ℕ
  bytes : bs ≡ byte ∷ rest
  low : lower ≤ byte
  high : byte ≤ upper
  items : is ≡ decode_from (state (code * 64 + byte % 64) (seen + 1) needed 0x80 0xbf) rest
  formed : no_error (decode_from (state (code * 64 + byte % 64) (seen + 1) needed 0x80 0xbf) rest) ≡ true

last : (code seen needed lower upper : ℕ) (bs : List ℕ) → eqb needed 0 ≡ false → eqb (seen + 1) needed ≡ true → no_error (decode_from (state code seen needed lower upper) bs) ≡ true
    → Last code lower upper bs (decode_from (state code seen needed lower upper) bs)
unfolding decode_from no_error following after_reply
last code seen needed lower upper [] n e h = never (rw n at h)
last code seen needed lower upper (b ∷ bs) n e h = rw (n, e) (by (leb lower b && leb b upper) refl (rw (n, e) at h))
  where
    by : (t : Bool) → leb lower b && leb b upper ≡ t
        → no_error (cond t (scalar (code * 64 + b % 64) ∷ decode bs) (error ∷ after_reply (leading b) (λ s. decode_from s bs))) ≡ true
        → Last code lower upper (b ∷ bs) (cond t (scalar (code * 64 + b % 64) ∷ decode bs) (error ∷ after_reply (leading b) (λ s. decode_from s bs)))
    by true q k =
        let l = both (leb lower b) (leb b upper) q in
        record { byte = b; rest = bs; bytes = refl; low = leb-true lower b l.0; high = leb-true b upper l.1; items = refl; formed = k }
    by false q k = never k

more : (code seen needed lower upper : ℕ) (bs : List ℕ) → eqb needed 0 ≡ false → eqb (seen + 1) needed ≡ false → no_error (decode_from (state code seen needed lower upper) bs) ≡ true
    → More code seen needed lower upper bs (decode_from (state code seen needed lower upper) bs)
unfolding decode_from no_error following after_reply
more code seen needed lower upper [] n e h = never (rw n at h)
more code seen needed lower upper (b ∷ bs) n e h = rw (n, e) (by (leb lower b && leb b upper) refl (rw (n, e) at h))
  where
    by : (t : Bool) → leb lower b && leb b upper ≡ t
        → no_error (cond t (decode_from (state (code * 64 + b % 64) (seen + 1) needed 0x80 0xbf) bs) (error ∷ after_reply (leading b) (λ s. decode_from s bs))) ≡ true
        → More code seen needed lower upper (b ∷ bs) (cond t (decode_from (state (code * 64 + b % 64) (seen + 1) needed 0x80 0xbf) bs) (error ∷ after_reply (leading b) (λ s. decode_from s bs)))
    by true q k =
        let l = both (leb lower b) (leb b upper) q in
        record { byte = b; rest = bs; bytes = refl; low = leb-true lower b l.0; high = leb-true b upper l.1; items = refl; formed = k }
    by false q k = never k

-- one code point, and what follows it
first-is : {bs : List ℕ} (c : ℕ) (rest : List ℕ) → utf8_of c ≡ bs → text_of (decode rest) ≡ rest → text_of (scalar c ∷ decode rest) ≡ bs ++ rest
unfolding flat_map
first-is c rest u v = rw (u, v)

-- one code point of a text, where the shorter texts are their own
module _ (n : ℕ) (ih : (cs : List ℕ) → length cs ≤ n → well_formed cs ≡ true → text_of (decode cs) ≡ cs) (a : ℕ) (bs : List ℕ) (len : length bs ≤ n) where
  after_two : 0xc2 ≤ a → a < 0xe0 → no_error (decode_from (state (a % 32) 0 1 0x80 0xbf) bs) ≡ true → text_of (decode_from (state (a % 32) 0 1 0x80 0xbf) bs) ≡ a ∷ bs
  after_two l h k =
      let x = last (a % 32) 0 1 0x80 0xbf bs refl refl k in
      let u = two-own a x.byte l h x.low x.high in
      let v = ih x.rest (omega (arith, ap length x.bytes)) x.formed in
      ap text_of x.items ∙ first-is _ x.rest u v ∙ ap (λ (r : List ℕ). a ∷ r) (sym x.bytes)

  after-three : 0xe0 ≤ a → a < 0xf0 → no_error (decode_from (state (a % 16) 0 2 (lower_of a) (upper_of a)) bs) ≡ true
      → text_of (decode_from (state (a % 16) 0 2 (lower_of a) (upper_of a)) bs) ≡ a ∷ bs
  after-three l h k =
      let x = more (a % 16) 0 2 (lower_of a) (upper_of a) bs refl refl k in
      let y = last (a % 16 * 64 + x.byte % 64) 1 2 0x80 0xbf x.rest refl refl x.formed in
      let u = three-own a x.byte y.byte l h (bound a x.byte x.low x.high) y.low y.high in
      let v = ih y.rest (omega (arith, ap length x.bytes, ap length y.bytes)) y.formed in
      ap text_of (x.items ∙ y.items)
      ∙ first-is _ y.rest u v
      ∙ ap (λ (r : List ℕ). a ∷ r) (ap (λ (r : List ℕ). x.byte ∷ r) (sym y.bytes) ∙ sym x.bytes)

  after-four : 0xf0 ≤ a → a < 0xf5 → no_error (decode_from (state (a % 8) 0 3 (lower_of a) (upper_of a)) bs) ≡ true
      → text_of (decode_from (state (a % 8) 0 3 (lower_of a) (upper_of a)) bs) ≡ a ∷ bs
  after-four l h k =
      let x = more (a % 8) 0 3 (lower_of a) (upper_of a) bs refl refl k in
      let y = more (a % 8 * 64 + x.byte % 64) 1 3 0x80 0xbf x.rest refl refl x.formed in
      let z = last ((a % 8 * 64 + x.byte % 64) * 64 + y.byte % 64) 2 3 0x80 0xbf y.rest refl refl y.formed in
      let u = four-own a x.byte y.byte z.byte l h (bound a x.byte x.low x.high) y.low y.high z.low z.high in
      let v = ih z.rest (omega (arith, ap length x.bytes, ap length y.bytes, ap length z.bytes)) z.formed in
      ap text_of (x.items ∙ y.items ∙ z.items)
      ∙ first-is _ z.rest u v
      ∙ ap (λ (r : List ℕ). a ∷ r)
      (ap (λ (r : List ℕ). x.byte ∷ r) (ap (λ (r : List ℕ). y.byte ∷ r) (sym z.bytes) ∙ sym y.bytes) ∙ sym x.bytes)

  -- what a reply to the first byte leads to
  abbrev Own : DecoderReply → Type 0
  Own p = no_error (after_reply p (λ s. decode_from s bs)) ≡ true → text_of (after_reply p (λ s. decode_from s bs)) ≡ a ∷ bs

  own_if : (k : ℕ) (p q : DecoderReply) → (a < k → Own p) → (k ≤ a → Own q) → Own (cond (ltb a k) p q)
  own_if k p q x y = by (ltb a k) refl
    where
      by : (t : Bool) → ltb a k ≡ t → Own (cond t p q)
      by true e = x (ltb-true a k e)
      by false e = y (ltb-false a k e)

  own_first : Own (leading a)
  unfolding leading after_reply no_error
  own_first =
      own_if 0x80 _ _ (λ l k. first-is a bs (utf8_one a l) (ih bs len k))
      (λ l. own_if 0xc2 _ _ (λ l₂ k. never k)
      (λ l₂. own_if 0xe0 _ _ (λ l₃ k. after_two l₂ l₃ k)
      (λ l₃. own_if 0xf0 _ _ (λ l₄ k. after-three l₃ l₄ k)
      (λ l₄. own_if 0xf5 _ _ (λ l₅ k. after-four l₄ l₅ k) (λ l₅ k. never k)))))

own : (n : ℕ) (bs : List ℕ) → length bs ≤ n → well_formed bs ≡ true → text_of (decode bs) ≡ bs
unfolding decode_from flat_map
own zero [] len h = refl
own zero (b ∷ bs) len h = absurd (omega arith)
own (suc n) [] len h = refl
own (suc n) (b ∷ bs) len h = own_first n (λ cs l f. own n cs l f) b bs (omega arith) h

-- what a well-formed text's decoding is in UTF-8
pub formed-own : (bs : List ℕ) → well_formed bs ≡ true → flat_map utf8_of (map replaced (decode bs)) ≡ bs
formed-own bs h = own (length bs) bs (omega arith) h
