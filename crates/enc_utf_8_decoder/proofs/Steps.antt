-- The place after a code point: what each exit of the functions that look for it says of `next_at`, and of the pass over a text. Assumes nothing.
use mathlib.Core.Path.{◌≡◌, refl, sym, ap, ◌∙◌}
use mathlib.Core.Bool.{Bool, true, false, cond, not, ◌&&◌}
use mathlib.Core.List.{List, ◌∷◌}
use Prim.Native.Nat.{ℕ, ◌+◌, ◌-◌, ◌≤◌, ◌<◌}
use native.Mathlib.Omega.{arith}
use native.Mathlib.Numerals.{add-one}
use lib.ListN.{length, get_or, take, drop}
use lib.Seq.{drop-cons}
use lib.Dec.{T, leb, ltb, eqb}
use borrow.Author.Tests.{lt-ltb, le-ltb, le-leb, lt-leb, eq-eqb, ltb-true, ltb-false}
use Rattle.enc_utf_8.specs.declared.Char.{Char}
use Rattle.enc_utf_8.specs.declared.Char.TheVariants.{Code, Error, End}
use Rattle.enc_utf_8.specs.Utf8.{state, lower_of, upper_of, leading, following, found, next_from, next_at, trail, well_formed}
use Rattle.enc_utf_8.proofs.Cuts.{Passed, passed-code, passed-less, passed-error, passed_none, part-trail, part-last, part-clean, part_cut}
use Rattle.enc_utf_8.proofs.Decodes.{next_past, next_one, more-error, more-none}
use Rattle.enc_utf_8.proofs.Items.{next-code}
use Rattle.enc_utf_8_decoder.specs.After.{place_after, four_fit, PassedTo}

-- ---- the bytes at a place

one-there : (text : List ℕ) (at : ℕ) → at < length text → drop at text ≡ get_or text at 0 ∷ drop (at + 1) text
one-there text at h = rw (add-one, drop-cons text at 0 h)

four-there : (text : List ℕ) (at : ℕ) → at + 4 ≤ length text
    → drop at text ≡ get_or text at 0 ∷ get_or text (at + 1) 0 ∷ get_or text (at + 2) 0 ∷ get_or text (at + 3) 0 ∷ drop (at + 4) text
four-there text at h =
    let x : at + 1 + 1 ≡ at + 2 = omega arith in
    let y : at + 2 + 1 ≡ at + 3 = omega arith in
    let z : at + 3 + 1 ≡ at + 4 = omega arith in
    one-there text at (omega arith)
    ∙ ap (λ (l : List ℕ). get_or text at 0 ∷ l) (one-there text (at + 1) (omega arith) ∙ rw x
    (ap (λ (l : List ℕ). get_or text (at + 1) 0 ∷ l) (one-there text (at + 2) (omega arith) ∙ rw y
    (ap (λ (l : List ℕ). get_or text (at + 2) 0 ∷ l) (one-there text (at + 3) (omega arith) ∙ rw z)))))

-- a byte that can only follow others lies between the boundaries that no lead narrows
between : (b : ℕ) → leb 0x80 b && leb b 0xbf ≡ trail b
unfolding trail
between b = ap (λ (t : Bool). leb 0x80 b && t) (by (ltb b 0xc0) refl)
  where
    by : (t : Bool) → ltb b 0xc0 ≡ t → leb b 0xbf ≡ t
    by true e = le-leb b 0xbf (omega (arith, ltb-true b 0xc0 e))
    by false e = lt-leb b 0xbf (omega (arith, ltb-false b 0xc0 e))

module _ (text : List ℕ) (at : ℕ) (h : at + 4 ≤ length text) where
  -- ---- the exits of `after_two`

  pub two_none : 0x80 ≤ get_or text at 0 → get_or text at 0 < 0xc2 → at ≡ place_after (next_at text at) at
  unfolding next_from leading found place_after
  two_none l u = rw (four-there text at h, le-ltb (get_or text at 0) 0x80 l, lt-ltb (get_or text at 0) 0xc2 u)

  module _ (l : 0xc2 ≤ get_or text at 0) (u : get_or text at 0 < 0xe0) (t : Bool) (e : t ≡ trail (get_or text (at + 1) 0)) where
    pub two-whole : t ≡ true → at + 2 ≡ place_after (next_at text at) at
    unfolding next_from leading following found place_after
    two-whole q =
        let x : at + 1 + 1 ≡ at + 2 = omega arith in
        rw (four-there text at h, le-ltb (get_or text at 0) 0x80 (omega arith), le-ltb (get_or text at 0) 0xc2 l, lt-ltb (get_or text at 0) 0xe0 u, between (get_or text (at + 1) 0), ← e, q, x)

    pub two-cut : t ≡ false → at ≡ place_after (next_at text at) at
    unfolding next_from leading following found place_after
    two-cut q =
        rw (four-there text at h, le-ltb (get_or text at 0) 0x80 (omega arith), le-ltb (get_or text at 0) 0xc2 l, lt-ltb (get_or text at 0) 0xe0 u, between (get_or text (at + 1) 0), ← e, q)

  -- ---- the exits of `after_three`

  module _ (l : 0xe0 ≤ get_or text at 0) (u : get_or text at 0 < 0xf0) (f : Bool) (ef : f ≡ (leb (lower_of (get_or text at 0)) (get_or text (at + 1) 0) && leb (get_or text (at + 1) 0) (upper_of (get_or text at 0)))) where
    three-second : f ≡ false → at ≡ place_after (next_at text at) at
    unfolding next_from leading following found place_after
    three-second q =
        rw (
          four-there text at h,
          le-ltb (get_or text at 0) 0x80 (omega arith),
          le-ltb (get_or text at 0) 0xc2 (omega arith),
          le-ltb (get_or text at 0) 0xe0 l,
          lt-ltb (get_or text at 0) 0xf0 u,
          ← ef,
          q,
        )

    module _ (y : f ≡ true) (t : Bool) (e : t ≡ trail (get_or text (at + 2) 0)) where
      three-whole : t ≡ true → at + 3 ≡ place_after (next_at text at) at
      unfolding next_from leading following found place_after
      three-whole q =
          let x : at + 1 + 1 + 1 ≡ at + 3 = omega arith in
          rw (
            four-there text at h,
            le-ltb (get_or text at 0) 0x80 (omega arith),
            le-ltb (get_or text at 0) 0xc2 (omega arith),
            le-ltb (get_or text at 0) 0xe0 l,
            lt-ltb (get_or text at 0) 0xf0 u,
            ← ef,
            y,
            between (get_or text (at + 2) 0),
            ← e,
            q,
            x,
          )

      three-cut : t ≡ false → at ≡ place_after (next_at text at) at
      unfolding next_from leading following found place_after
      three-cut q =
          rw (
            four-there text at h,
            le-ltb (get_or text at 0) 0x80 (omega arith),
            le-ltb (get_or text at 0) 0xc2 (omega arith),
            le-ltb (get_or text at 0) 0xe0 l,
            lt-ltb (get_or text at 0) 0xf0 u,
            ← ef,
            y,
            between (get_or text (at + 2) 0),
            ← e,
            q,
          )

  module _ (l : 0xe0 ≤ get_or text at 0) (u : get_or text at 0 < 0xf0) where
    three-by : (s t : Bool) → s ≡ (leb (lower_of (get_or text at 0)) (get_or text (at + 1) 0) && leb (get_or text (at + 1) 0) (upper_of (get_or text at 0))) → t ≡ trail (get_or text (at + 2) 0) → cond (s && t) (at + 3) at ≡ place_after (next_at text at) at
    three-by true true f e = three-whole l u true f refl true e refl
    three-by true false f e = three-cut l u true f refl false e refl
    three-by false t f e = three-second l u false f refl

    module _ (t : Bool) (e : t ≡ ((leb (lower_of (get_or text at 0)) (get_or text (at + 1) 0) && leb (get_or text (at + 1) 0) (upper_of (get_or text at 0))) && trail (get_or text (at + 2) 0))) where
      pub three-passed : t ≡ true → at + 3 ≡ place_after (next_at text at) at
      three-passed q = ap (λ (b : Bool). cond b (at + 3) at) (sym q ∙ e) ∙ three-by _ _ refl refl

      pub three-stayed : t ≡ false → at ≡ place_after (next_at text at) at
      three-stayed q = ap (λ (b : Bool). cond b (at + 3) at) (sym q ∙ e) ∙ three-by _ _ refl refl

  -- ---- the exits of `after_four`

  module _ (l : 0xf0 ≤ get_or text at 0) (u : get_or text at 0 < 0xf5) (f : Bool) (ef : f ≡ (leb (lower_of (get_or text at 0)) (get_or text (at + 1) 0) && leb (get_or text (at + 1) 0) (upper_of (get_or text at 0)))) where
    four-second : f ≡ false → at ≡ place_after (next_at text at) at
    unfolding next_from leading following found place_after
    four-second q =
        rw (
          four-there text at h,
          le-ltb (get_or text at 0) 0x80 (omega arith),
          le-ltb (get_or text at 0) 0xc2 (omega arith),
          le-ltb (get_or text at 0) 0xe0 (omega arith),
          le-ltb (get_or text at 0) 0xf0 l,
          lt-ltb (get_or text at 0) 0xf5 u,
          ← ef,
          q,
        )

    -- by the two bytes after the second
    four-by : (s t : Bool) → f ≡ true → trail (get_or text (at + 2) 0) ≡ s → trail (get_or text (at + 3) 0) ≡ t → cond (s && t) (at + 4) at ≡ place_after (next_at text at) at
    unfolding next_from leading following found place_after
    four-by true true y e g =
        let x : at + 1 + 1 + 1 + 1 ≡ at + 4 = omega arith in
        rw (
          four-there text at h,
          le-ltb (get_or text at 0) 0x80 (omega arith),
          le-ltb (get_or text at 0) 0xc2 (omega arith),
          le-ltb (get_or text at 0) 0xe0 (omega arith),
          le-ltb (get_or text at 0) 0xf0 l,
          lt-ltb (get_or text at 0) 0xf5 u,
          ← ef,
          y,
          between (get_or text (at + 2) 0),
          e,
          between (get_or text (at + 3) 0),
          g,
          x,
        )
    four-by true false y e g =
        rw (
          four-there text at h,
          le-ltb (get_or text at 0) 0x80 (omega arith),
          le-ltb (get_or text at 0) 0xc2 (omega arith),
          le-ltb (get_or text at 0) 0xe0 (omega arith),
          le-ltb (get_or text at 0) 0xf0 l,
          lt-ltb (get_or text at 0) 0xf5 u,
          ← ef,
          y,
          between (get_or text (at + 2) 0),
          e,
          between (get_or text (at + 3) 0),
          g,
        )
    four-by false t y e g =
        rw (
          four-there text at h,
          le-ltb (get_or text at 0) 0x80 (omega arith),
          le-ltb (get_or text at 0) 0xc2 (omega arith),
          le-ltb (get_or text at 0) 0xe0 (omega arith),
          le-ltb (get_or text at 0) 0xf0 l,
          lt-ltb (get_or text at 0) 0xf5 u,
          ← ef,
          y,
          between (get_or text (at + 2) 0),
          e,
        )

    module _ (y : f ≡ true) (t : Bool) (e : t ≡ (trail (get_or text (at + 2) 0) && trail (get_or text (at + 3) 0))) where
      four-whole : t ≡ true → at + 4 ≡ place_after (next_at text at) at
      four-whole q = ap (λ (b : Bool). cond b (at + 4) at) (sym q ∙ e) ∙ four-by _ _ y refl refl

      four-cut : t ≡ false → at ≡ place_after (next_at text at) at
      four-cut q = ap (λ (b : Bool). cond b (at + 4) at) (sym q ∙ e) ∙ four-by _ _ y refl refl

  module _ (l : 0xf0 ≤ get_or text at 0) (u : get_or text at 0 < 0xf5) where
    four-all : (s t : Bool) → s ≡ (leb (lower_of (get_or text at 0)) (get_or text (at + 1) 0) && leb (get_or text (at + 1) 0) (upper_of (get_or text at 0))) → t ≡ (trail (get_or text (at + 2) 0) && trail (get_or text (at + 3) 0)) → cond (s && t) (at + 4) at ≡ place_after (next_at text at) at
    four-all true true f e = four-whole l u true f refl true e refl
    four-all true false f e = four-cut l u true f refl false e refl
    four-all false t f e = four-second l u false f refl

    module _ (t : Bool) (e : t ≡ four_fit text at) where
      pub four-passed : t ≡ true → at + 4 ≡ place_after (next_at text at) at
      unfolding four_fit
      four-passed q = ap (λ (b : Bool). cond b (at + 4) at) (sym q ∙ e) ∙ four-all _ _ refl refl

      pub four-stayed : t ≡ false → at ≡ place_after (next_at text at) at
      unfolding four_fit
      four-stayed q = ap (λ (b : Bool). cond b (at + 4) at) (sym q ∙ e) ∙ four-all _ _ refl refl

module _ (text : List ℕ) (at : ℕ) (t : Bool) (e : t ≡ (leb (lower_of (get_or text at 0)) (get_or text (at + 1) 0) && leb (get_or text (at + 1) 0) (upper_of (get_or text at 0)))) where
  pub fit-second : t ≡ true → (r : Bool) → r ≡ (trail (get_or text (at + 2) 0) && trail (get_or text (at + 3) 0)) → r ≡ four_fit text at
  unfolding four_fit
  fit-second q r k = rw (← e, q) k

  pub fit-first : t ≡ false → t ≡ four_fit text at
  unfolding four_fit
  fit-first q = rw (← e, q)

-- ---- `after_code`: no code point begins with a byte from F5h on

pub code-none : (text : List ℕ) (at : ℕ) → at < length text → 0xf5 ≤ get_or text at 0 → at ≡ place_after (next_at text at) at
unfolding place_after
code-none text at h l = ap (λ (x : Char). place_after x at) (next_past text at h l)

-- ---- the exits of `after_last`

module _ (text : List ℕ) (at : ℕ) (r : Char) (h : r ≡ next_at text at) where
  pub last_code : (c e : ℕ) → r ≡ Code c e → e ≡ place_after (next_at text at) at
  unfolding place_after
  last_code c e k = ap (λ (x : Char). place_after x at) (sym k ∙ h)

  pub last-none : ((c e : ℕ) → r ≡ Code c e → ⊥) → at ≡ place_after (next_at text at) at
  unfolding place_after
  last-none n = by r refl
    where
      by : (x : Char) → r ≡ x → at ≡ place_after (next_at text at) at
      by (Code c e) k = absurd (n c e k)
      by (Error e) k = ap (λ (x : Char). place_after x at) (sym k ∙ h)
      by End k = ap (λ (x : Char). place_after x at) (sym k ∙ h)

-- ---- the exits of `two_more` and `three_more`: what is no code point stays

module _ (text : List ℕ) (at code lower upper total : ℕ) (many : T (ltb 1 total)) (one : Char) (h : one ≡ next_from (state code 0 1 lower upper) at (drop at text)) where
  pub more-ended : ((c e : ℕ) → one ≡ Code c e → ⊥) → one ≡ next_from (state code 0 total lower upper) at (drop at text)
  more-ended n = by one refl
    where
      by : (x : Char) → one ≡ x → one ≡ next_from (state code 0 total lower upper) at (drop at text)
      by (Code c e) k = absurd (n c e k)
      by (Error e) k = k ∙ more-error text at code lower upper total many one h e k
      by End k = k ∙ more-none text at code lower upper total many one h k

-- ---- the exits of `part_well_formed`

module _ (text : List ℕ) (a e : ℕ) (l : a < e) (w : e ≤ length text) (f : Bool) (first : f ≡ trail (get_or text a 0)) where
  pub part-begun : f ≡ true → not f ≡ well_formed (take (e - a) (drop a text))
  part-begun q = ap not q ∙ part-trail text a e l w f first q

  module _ (whole : well_formed text ≡ true) (q : f ≡ false) where
    pub part-end : e ≡ length text → eqb e (length text) ≡ well_formed (take (e - a) (drop a text))
    part-end h = eq-eqb e (length text) h ∙ part-last text a e l w f first whole q h

    pub part-inner : (e ≡ length text → ⊥) → (n : Bool) → n ≡ trail (get_or text e 0) → not n ≡ well_formed (take (e - a) (drop a text))
    part-inner h true k = part_cut text a e l w f first whole q true k h refl
    part-inner h false k = part-clean text a e l w f first whole q false k refl

-- ---- the pass over a text

module _ (text : List ℕ) (at : ℕ) (p : Passed text at) (r : ℕ) (e : r ≡ place_after (next_at text at) at) where
  module _ (n : r ≡ at → ⊥) where
    -- a code point was found, and its place is after it
    coded : {X : Type 0} → ((c : ℕ) → next_at text at ≡ Code c r → X) → X
    unfolding place_after
    coded {X} k = by (next_at text at) refl e
      where
        by : (x : Char) → next_at text at ≡ x → r ≡ place_after x at → X
        by (Code c f) q z = k c (q ∙ ap (Code c) (sym z))
        by (Error f) q z = absurd (n z)
        by End q z = absurd (n z)

    pub after-passed : Passed text r
    after-passed = coded (λ c q. passed-code text at p (Code c r) (sym q) c r refl)

    pub after_less : length text - r < length text - at
    after_less = coded (λ c q. passed-less text at p (Code c r) (sym q) c r refl)

  pub after_none : at < length text → r ≡ at → well_formed text ≡ eqb at (length text)
  unfolding place_after
  after_none l k = by (next_at text at) refl e
    where
      by : (x : Char) → next_at text at ≡ x → r ≡ place_after x at → well_formed text ≡ eqb at (length text)
      by (Code c f) q z = absurd (let b = next-code text at (Code c f) (sym q) c f refl in omega (arith, b.past))
      by (Error f) q z = passed-error text at p (Error f) (sym q) l f refl
      by End q z = passed_none text at p End (sym q) refl

-- ---- the exits of `after_any`

pub any-ascii : (text : List ℕ) (at : ℕ) → at < length text → get_or text at 0 < 0x80 → at + 1 ≡ place_after (next_at text at) at
unfolding place_after
any-ascii text at h l = ap (λ (r : Char). place_after r at) (next_one text at h l)

-- ---- `codes_end`: what it asks for and promises is what the pass over a text keeps

pub passed_in : (text : List ℕ) (at : ℕ) → PassedTo text at → Passed text at
passed_in text at p = record { within = p.within; cuts = p.cuts }

pub passed_out : (text : List ℕ) (at : ℕ) → Passed text at → PassedTo text at
passed_out text at p = record { within = p.within; cuts = p.cuts }

-- before it an error ends the whole
pub stops : (text : List ℕ) (at bound r : ℕ) → Passed text at → r ≡ place_after (next_at text at) at → at < bound → bound ≤ length text → r ≡ at → at < bound → well_formed text ≡ eqb at (length text)
stops text at bound r p e l h k _ = after_none text at p r e (omega arith) k

-- what is left after `codes_end`
pub codes_less : (text : List ℕ) (at bound r : ℕ) → at < bound → bound ≤ length text → bound ≤ r → length text - r < length text - at
codes_less text at bound r h l m = omega arith

-- an error before the bound ends the pass
pub stopped : (text : List ℕ) (r bound : ℕ) → (r < bound → well_formed text ≡ eqb r (length text)) → r < bound → well_formed text ≡ eqb r (length text)
stopped text r bound s l = s l
