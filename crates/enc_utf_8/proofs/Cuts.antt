-- The parts of a text: a well-formed text is well-formed on both sides of a cut before a code point, and ill_formed before a cut within one. Assumes nothing.
use mathlib.Core.Path.{◌≡◌, refl, sym, ap, ◌∙◌}
use mathlib.Core.Bool.{Bool, true, false, cond, ◌&&◌}
use mathlib.Core.List.{List, [], ◌∷◌, ◌++◌}
use Prim.Native.Nat.{ℕ, zero, suc, ◌+◌, ◌*◌, ◌%◌, ◌-◌, ◌≤◌, ◌<◌}
use native.Mathlib.Omega.{arith}
use lib.ListN.{length, get_or, take, drop, length-drop, take-append-drop, drop_of_length-le}
use lib.Seq.{take-nil, drop-cons, drop-drop, take-take, take-add, take_all, length-take-le, get_or-take, get_or-drop}
use lib.Dec.{leb, ltb, eqb, eqb-suc-zero}
use borrow.Author.Tests.{leb-true, ltb-true, le-leb, lt-leb, lt-ltb, le-ltb, eq-eqb, ne_eqb}
use Rattle.enc_utf_8.specs.declared.Char.{Char}
use Rattle.enc_utf_8.specs.declared.Char.TheVariants.{Code, Error, End}
use Rattle.enc_utf_8.specs.Utf8.{Item, scalar, error, State, state, initial, DecoderReply, give, continue, lower_of, upper_of, leading, following, after_reply, decode_from, decode, no_error, well_formed, trail, found, next_from, next_at, ValidTo, Stretch}
use Rattle.enc_utf_8.proofs.Items.{next-code, next-error, next-none, formed-again, formed-not, formed-none, formed-end}

never : {X : Type 0} → false ≡ true → X
never e = absurd (let z : ◌≡◌ {A = ℕ} 0 1 = cc in omega arith)

both : (p q : Bool) → p && q ≡ true → (p ≡ true) × (q ≡ true)
both true q h = (refl, h)
both false q h = never h

-- ---- every state that the decoder comes to takes trail bytes alone

-- the boundaries lie within the trail bytes
abbrev Fine : State → Type 0
Fine (state code seen needed lower upper) = (0x80 ≤ lower) × (upper < 0xc0)

-- the state that a reply goes on in
abbrev FineReply : DecoderReply → Type 0
FineReply (give i) = Unit {0}
FineReply (continue s) = Fine s

fine_if : (t : Bool) (p q : DecoderReply) → FineReply p → FineReply q → FineReply (cond t p q)
fine_if true p q x y = x
fine_if false p q x y = y

lower-fine : (b : ℕ) → 0x80 ≤ lower_of b
lower-fine b = by (eqb b 0xe0) (eqb b 0xf0)
  where
    by : (s t : Bool) → 0x80 ≤ cond s 0xa0 (cond t 0x90 0x80)
    by true t = omega arith
    by false true = omega arith
    by false false = omega arith

upper-fine : (b : ℕ) → upper_of b < 0xc0
upper-fine b = by (eqb b 0xed) (eqb b 0xf4)
  where
    by : (s t : Bool) → cond s 0x9f (cond t 0x8f 0xbf) < 0xc0
    by true t = omega arith
    by false true = omega arith
    by false false = omega arith

leading-fine : (b : ℕ) → FineReply (leading b)
unfolding leading
leading-fine b =
    fine_if (ltb b 0x80) _ _ tt
    (fine_if (ltb b 0xc2) _ _ tt
    (fine_if (ltb b 0xe0) _ _ (omega arith, omega arith)
    (fine_if (ltb b 0xf0) _ _ (lower-fine b, upper-fine b)
    (fine_if (ltb b 0xf5) _ _ (lower-fine b, upper-fine b) tt))))

following-fine : (code seen needed b : ℕ) → FineReply (following code seen needed b)
unfolding following
following-fine code seen needed b = fine_if (eqb (seen + 1) needed) _ _ tt (omega arith, omega arith)

-- ---- the cut

-- a part that is well-formed or not (`t`), and what comes after it, where both together are well-formed: the part ends with a code point, or within one
data Cut (t : Bool) (ys : List ℕ) : Type 0 where
  clean : t ≡ true → well_formed ys ≡ true → Cut t ys
  inside : t ≡ false → (y : ℕ) (zs : List ℕ) → ys ≡ y ∷ zs → trail y ≡ true → Cut t ys

-- where no byte is needed the state counts for nothing
at_rest : (code seen lower upper : ℕ) (ys : List ℕ) → decode_from (state code seen 0 lower upper) ys ≡ decode ys
unfolding decode_from
at_rest code seen lower upper [] = refl
at_rest code seen lower upper (y ∷ ys) = refl

-- where some are, a byte comes that is within the boundaries
in_need : (code seen needed lower upper : ℕ) (ys : List ℕ) → Fine (state code seen (suc needed) lower upper) → no_error (decode_from (state code seen (suc needed) lower upper) ys) ≡ true → Cut false ys
unfolding decode_from no_error trail
in_need code seen needed lower upper [] f h = never (rw (eqb-suc-zero needed) at h)
in_need code seen needed lower upper (y ∷ ys) f h = by (leb lower y && leb y upper) refl (rw (eqb-suc-zero needed) at h)
  where
    by : (t : Bool) → leb lower y && leb y upper ≡ t
        → no_error (cond t (after_reply (following code seen (suc needed) y) (λ s. decode_from s ys)) (error ∷ after_reply (leading y) (λ s. decode_from s ys))) ≡ true
        → Cut false (y ∷ ys)
    by true e q =
        let l = both (leb lower y) (leb y upper) e in
        let a = leb-true lower y l.0 in
        let b = leb-true y upper l.1 in
        inside refl y ys refl (rw (le-leb 0x80 y (omega (arith, f.0)), lt-ltb y 0xc0 (omega (arith, f.1))))
    by false e q = never q

cut_if : (t : Bool) (is js ks ls : List Item) (ys : List ℕ) → (no_error is ≡ true → Cut (no_error ks) ys) → (no_error js ≡ true → Cut (no_error ls) ys)
    → no_error (cond t is js) ≡ true → Cut (no_error (cond t ks ls)) ys
cut_if true is js ks ls ys p q h = p h
cut_if false is js ks ls ys p q h = q h

cut_reply : (p : DecoderReply) (xs ys : List ℕ) → FineReply p → ((s : State) → Fine s → no_error (decode_from s (xs ++ ys)) ≡ true → Cut (no_error (decode_from s xs)) ys)
    → no_error (after_reply p (λ s. decode_from s (xs ++ ys))) ≡ true → Cut (no_error (after_reply p (λ s. decode_from s xs))) ys
unfolding after_reply no_error
cut_reply (give (scalar c)) xs ys f k h = k initial (omega arith, omega arith) h
cut_reply (give error) xs ys f k h = never h
cut_reply (continue s) xs ys f k h = k s f h

cut-end : (needed code seen lower upper : ℕ) (ys : List ℕ) → Fine (state code seen needed lower upper) → no_error (decode_from (state code seen needed lower upper) ys) ≡ true
    → Cut (no_error (decode_from (state code seen needed lower upper) [])) ys
unfolding decode_from no_error
cut-end zero code seen lower upper ys f h = clean refl (rw (at_rest code seen lower upper ys) at h)
cut-end (suc needed) code seen lower upper ys f h = rw (eqb-suc-zero needed) (in_need code seen needed lower upper ys f h)

cut : (xs ys : List ℕ) (s : State) → Fine s → no_error (decode_from s (xs ++ ys)) ≡ true → Cut (no_error (decode_from s xs)) ys
unfolding decode_from no_error
cut [] ys (state code seen needed lower upper) f h = cut-end needed code seen lower upper ys f h
cut (x ∷ xs) ys (state code seen needed lower upper) f h =
    cut_if (eqb needed 0) _ _ _ _ ys (cut_reply (leading x) xs ys (leading-fine x) (λ s. cut xs ys s))
    (cut_if (leb lower x && leb x upper) _ _ _ _ ys
    (cut_reply (following code seen needed x) xs ys (following-fine code seen needed x) (λ s. cut xs ys s))
    (λ q. never q)) h

-- a text that begins with a trail byte is ill_formed
trail-first : (y : ℕ) (ys : List ℕ) → trail y ≡ true → well_formed (y ∷ ys) ≡ false
unfolding decode_from no_error leading after_reply trail
trail-first y ys h =
    let p = both (leb 0x80 y) (ltb y 0xc0) h in
    let a = leb-true 0x80 y p.0 in
    let b = ltb-true y 0xc0 p.1 in
    rw (le-ltb y 0x80 a, lt-ltb y 0xc2 (omega arith))

-- ---- a part of a text whose beginning is known to be well-formed

drop-take : {A : Type 0} (a n : ℕ) (l : List A) → drop a (take n l) ≡ take (n - a) (drop a l)
drop-take zero n l = let e : n - 0 ≡ n = omega arith in rw e
drop-take (suc a) zero l = let e : 0 - suc a ≡ 0 = omega arith in rw e
drop-take (suc a) (suc n) [] = rw take-nil
drop-take (suc a) (suc n) (x ∷ xs) = let e : suc n - suc a ≡ n - a = omega arith in rw e (drop-take a n xs)

part_of : {A : Type 0} (a m n : ℕ) (l : List A) → m ≤ n - a → take m (drop a (take n l)) ≡ take m (drop a l)
part_of a m n l h = ap (take m) (drop-take a n l) ∙ take-take m (n - a) (drop a l) h

-- what is cut off begins with the byte there
cut-byte : (l : List ℕ) (k y : ℕ) (zs : List ℕ) → drop k l ≡ y ∷ zs → y ≡ get_or l k 0
cut-byte l k y zs h =
    let z : k + 0 ≡ k = omega arith in
    ap (λ (r : List ℕ). get_or r 0 0) (sym h) ∙ get_or-drop k l 0 0 ∙ ap (λ (j : ℕ). get_or l j 0) z

cut_short : (l : List ℕ) (k y : ℕ) (zs : List ℕ) → drop k l ≡ y ∷ zs → k < length l
cut_short l k y zs h = omega (arith, length-drop k l, ap length h)

cut_at : (l : List ℕ) (k : ℕ) → well_formed l ≡ true → Cut (well_formed (take k l)) (drop k l)
cut_at l k h = cut (take k l) (drop k l) initial (omega arith, omega arith) (rw (take-append-drop k l) h)

-- before a byte that is no trail byte, or at the end, a text is cut clean
cut-clean : (l : List ℕ) (k : ℕ) → well_formed l ≡ true → (k < length l → trail (get_or l k 0) ≡ false) → (well_formed (take k l) ≡ true) × (well_formed (drop k l) ≡ true)
cut-clean l k h n = by (cut_at l k h)
  where
    by : Cut (well_formed (take k l)) (drop k l) → (well_formed (take k l) ≡ true) × (well_formed (drop k l) ≡ true)
    by (clean p q) = (p, q)
    by (inside p y zs e t) = never (sym (n (cut_short l k y zs e)) ∙ ap trail (sym (cut-byte l k y zs e)) ∙ t)

-- before a trail byte it is not
cut-within : (l : List ℕ) (k : ℕ) → well_formed l ≡ true → k < length l → trail (get_or l k 0) ≡ true → well_formed (take k l) ≡ false
cut-within l k h n t = by (cut_at l k h)
  where
    by : Cut (well_formed (take k l)) (drop k l) → well_formed (take k l) ≡ false
    by (clean p q) = never (sym (trail-first (get_or l k 0) (drop (suc k) l) t) ∙ ap well_formed (sym (drop-cons l k 0 n)) ∙ q)
    by (inside p y zs e u) = p

-- what `part_well_formed` answers: the bytes at the two ends tell
module _ (text : List ℕ) (a e : ℕ) where
  pub part_none : e ≤ a → true ≡ well_formed (take (e - a) (drop a text))
  unfolding decode_from no_error
  part_none h = let z : e - a ≡ 0 = omega arith in rw z

  module _ (l : a < e) (w : e ≤ length text) (f : Bool) (first : f ≡ trail (get_or text a 0)) where
    pub part-trail : f ≡ true → false ≡ well_formed (take (e - a) (drop a text))
    part-trail t =
        let z : e - a ≡ suc (e - a - 1) = omega arith in
        sym (rw (z, drop-cons text a 0 (omega arith)) (trail-first (get_or text a 0) (take (e - a - 1) (drop (suc a) text)) (sym first ∙ t)))

    module _ (k : well_formed text ≡ true) (t : f ≡ false) where
      rest : well_formed (drop a text) ≡ true
      rest = (cut-clean text a k (λ z. sym first ∙ t)).1

      long : length (drop a text) ≡ length text - a
      long = length-drop a text

      byte : get_or (drop a text) (e - a) 0 ≡ get_or text e 0
      byte = let z : a + (e - a) ≡ e = omega arith in get_or-drop a text (e - a) 0 ∙ rw z

      pub part-last : e ≡ length text → true ≡ well_formed (take (e - a) (drop a text))
      part-last h = sym (cut-clean (drop a text) (e - a) rest (λ z. absurd (omega (arith, long)))).0

      module _ (n : Bool) (next : n ≡ trail (get_or text e 0)) where
        pub part-clean : n ≡ false → true ≡ well_formed (take (e - a) (drop a text))
        part-clean u = sym (cut-clean (drop a text) (e - a) rest (λ z. ap trail byte ∙ sym next ∙ u)).0

        pub part_cut : (e ≡ length text → ⊥) → n ≡ true → false ≡ well_formed (take (e - a) (drop a text))
        part_cut h u = sym (cut-within (drop a text) (e - a) rest (inside_it h) (ap trail byte ∙ sym next ∙ u))
          where
            inside_it : (e ≡ length text → ⊥) → e - a < length (drop a text)
            inside_it h = omega (arith, long, h)

-- a part of a stretch is the same part of the text
pub part_of_stretch : (text : List ℕ) (lo hi a e : ℕ) → lo ≤ a → a ≤ e → e ≤ hi
    → take (e - lo - (a - lo)) (drop (a - lo) (take (hi - lo) (drop lo text))) ≡ take (e - a) (drop a text)
part_of_stretch text lo hi a e l m h =
    let y : e - lo - (a - lo) ≡ e - a = omega arith in
    let z : lo + (a - lo) ≡ a = omega arith in
    ap (λ (k : ℕ). take k (drop (a - lo) (take (hi - lo) (drop lo text)))) y
    ∙ part_of (a - lo) (e - a) (hi - lo) (drop lo text) (omega arith)
    ∙ ap (take (e - a)) (drop-drop (a - lo) lo text ∙ ap (λ (k : ℕ). drop k text) z)

-- and so is a part of the text's beginning
pub part_of_first : (text : List ℕ) (v a e : ℕ) → e ≤ v → take (e - a) (drop a (take v text)) ≡ take (e - a) (drop a text)
part_of_first text v a e h = part_of a (e - a) v text (omega arith)

-- what `is_trail` answers
module _ (b : ℕ) where
  pub trail-below : b < 0x80 → false ≡ trail b
  unfolding trail
  trail-below h = rw (lt-leb 0x80 b h)

  pub trail-from : 0x80 ≤ b → ltb b 0xc0 ≡ trail b
  unfolding trail
  trail-from h = rw (le-leb 0x80 b h)

-- ---- the bytes of a code point are the same in every beginning of the text that has them

not_end : {X : Type 0} (c e : ℕ) → End ≡ Code c e → X
not_end c e h = absurd (let z : ◌≡◌ {A = ℕ} 0 1 = cc in omega arith)

not-error : {X : Type 0} (k c e : ℕ) → Error k ≡ Code c e → X
not-error k c e h = absurd (let z : ◌≡◌ {A = ℕ} 0 1 = cc in omega arith)

module _ (c e : ℕ) where
  by_code : (P : Type 0) (t : Bool) (x y : Char) → (x ≡ Code c e → P) → (y ≡ Code c e → P) → cond t x y ≡ Code c e → P
  by_code P true x y p q h = p h
  by_code P false x y p q h = q h

  past_reply : (p : DecoderReply) (at : ℕ) (bs : List ℕ) → ((s : State) → next_from s (at + 1) bs ≡ Code c e → at + 1 < e) → found p at (λ s. next_from s (at + 1) bs) ≡ Code c e → at < e
  unfolding found
  past_reply (give (scalar d)) at bs k h = let z : at + 1 ≡ e = cc in omega arith
  past_reply (give error) at bs k h = not-error (at + 1) c e h
  past_reply (continue s) at bs k h = let z = k s h in omega arith

  past : (bs : List ℕ) (s : State) (at : ℕ) → next_from s at bs ≡ Code c e → at < e
  unfolding next_from
  past [] (state code seen needed lower upper) at h = by_code (at < e) (eqb needed 0) End (Error at) (not_end c e) (not-error at c e) h
  past (b ∷ bs) (state code seen needed lower upper) at h =
      by_code (at < e) (eqb needed 0) _ _ (past_reply (leading b) at bs (λ s. past bs s (at + 1)))
      (by_code (at < e) (leb lower b && leb b upper) _ _ (past_reply (following code seen needed b) at bs (λ s. past bs s (at + 1))) (not-error at c e)) h

  same_if : (t : Bool) (x y z w : Char) → (x ≡ Code c e → z ≡ Code c e) → (y ≡ Code c e → w ≡ Code c e) → cond t x y ≡ Code c e → cond t z w ≡ Code c e
  same_if true x y z w p q h = p h
  same_if false x y z w p q h = q h

  same_reply : (p : DecoderReply) (at : ℕ) (bs cs : List ℕ) → ((s : State) → next_from s (at + 1) bs ≡ Code c e → next_from s (at + 1) cs ≡ Code c e)
      → found p at (λ s. next_from s (at + 1) bs) ≡ Code c e → found p at (λ s. next_from s (at + 1) cs) ≡ Code c e
  unfolding found
  same_reply (give (scalar d)) at bs cs k h = h
  same_reply (give error) at bs cs k h = h
  same_reply (continue s) at bs cs k h = k s h

  within_first : (n : ℕ) (bs : List ℕ) (s : State) (at : ℕ) → e ≤ at + n → next_from s at bs ≡ Code c e → next_from s at (take n bs) ≡ Code c e
  unfolding next_from
  within_first zero bs s at l h = absurd (omega (arith, past bs s at h))
  within_first (suc n) [] s at l h = h
  within_first (suc n) (b ∷ bs) (state code seen needed lower upper) at l h =
      same_if (eqb needed 0) _ _ _ _ (same_reply (leading b) at bs (take n bs) (λ s. within_first n bs s (at + 1) (omega arith)))
      (same_if (leb lower b && leb b upper) _ _ _ _ (same_reply (following code seen needed b) at bs (take n bs) (λ s. within_first n bs s (at + 1) (omega arith))) (λ q. q)) h

-- ---- the loop that passes over the well-formed beginning of a text

-- each beginning that has the first `at` bytes is well-formed where what it has after them is
pub record Passed (text : List ℕ) (at : ℕ) : Type 0 where
  pub within : at ≤ length text
  pub cuts : (n : ℕ) → at ≤ n → n ≤ length text → well_formed (take n text) ≡ well_formed (drop at (take n text))

pub passed_start : (text : List ℕ) → Passed text 0
passed_start text = record { within = omega arith; cuts = λ n l m. refl }

module _ (text : List ℕ) (at : ℕ) (p : Passed text at) where
  pub passed-code : (r : Char) → r ≡ next_at text at → (c e : ℕ) → r ≡ Code c e → Passed text e
  passed-code r h c e k =
      let b = next-code text at r h c e k in
      record {
        within = b.within;
        cuts = λ n l m.
            let z : e ≤ at + (n - at) = omega (arith, b.past) in
            formed-again (take n text) at (p.cuts n (omega (arith, b.past)) m) (Code c e)
            (sym (rw (drop-take at n text) (within_first c e (n - at) (drop at text) initial at z (sym h ∙ k)))) c e refl;
      }

  pub passed-less : (r : Char) → r ≡ next_at text at → (c e : ℕ) → r ≡ Code c e → length text - e < length text - at
  passed-less r h c e k = let b = next-code text at r h c e k in omega (arith, b.past, b.within)

  whole : well_formed text ≡ well_formed (drop at text)
  whole = rw (take_all (length text) text (omega arith)) at (p.cuts (length text) p.within (omega arith))

  pub passed_to : ValidTo text at
  unfolding decode_from no_error
  passed_to = record {
    within = p.within;
    begins = p.cuts at (omega arith) p.within ∙ rw (drop_of_length-le (take at text) {i = at} (omega (arith, length-take-le at text p.within)));
  }

  -- it is the whole text only where that is well-formed
  pub passed-error : (r : Char) → r ≡ next_at text at → at < length text → (e : ℕ) → r ≡ Error e → well_formed text ≡ eqb at (length text)
  passed-error r h l e k = sym (formed-not text at whole r h e k) ∙ sym (ne_eqb at (length text) (λ z. omega arith))

  pub passed_none : (r : Char) → r ≡ next_at text at → r ≡ End → well_formed text ≡ eqb at (length text)
  passed_none r h k = sym (formed-none text at whole r h k) ∙ sym (eq-eqb at (length text) (omega (arith, (next-none text at r h k).past, p.within)))

  pub passed-all : length text ≤ at → well_formed text ≡ eqb at (length text)
  passed-all l = sym (formed-end text at whole l) ∙ sym (eq-eqb at (length text) (omega (arith, p.within)))

-- ---- what follows a well-formed text is decoded as if it stood alone

join_if : (t : Bool) (is js ks ls : List Item) (b : Bool) → (no_error ks ≡ true → no_error is ≡ b) → (no_error ls ≡ true → no_error js ≡ b)
    → no_error (cond t ks ls) ≡ true → no_error (cond t is js) ≡ b
join_if true is js ks ls b p q h = p h
join_if false is js ks ls b p q h = q h

join_reply : (p : DecoderReply) (xs ys : List ℕ) (b : Bool) → ((s : State) → no_error (decode_from s xs) ≡ true → no_error (decode_from s (xs ++ ys)) ≡ b)
    → no_error (after_reply p (λ s. decode_from s xs)) ≡ true → no_error (after_reply p (λ s. decode_from s (xs ++ ys))) ≡ b
unfolding after_reply no_error
join_reply (give (scalar c)) xs ys b k h = k initial h
join_reply (give error) xs ys b k h = never h
join_reply (continue s) xs ys b k h = k s h

join-end : (needed code seen lower upper : ℕ) (ys : List ℕ) → no_error (decode_from (state code seen needed lower upper) []) ≡ true
    → no_error (decode_from (state code seen needed lower upper) ys) ≡ well_formed ys
unfolding decode_from no_error
join-end zero code seen lower upper ys h = ap no_error (at_rest code seen lower upper ys)
join-end (suc needed) code seen lower upper ys h = never (rw (eqb-suc-zero needed) at h)

join : (xs ys : List ℕ) (s : State) → no_error (decode_from s xs) ≡ true → no_error (decode_from s (xs ++ ys)) ≡ well_formed ys
unfolding decode_from no_error
join [] ys (state code seen needed lower upper) h = join-end needed code seen lower upper ys h
join (x ∷ xs) ys (state code seen needed lower upper) h =
    join_if (eqb needed 0) _ _ _ _ (well_formed ys) (join_reply (leading x) xs ys (well_formed ys) (λ s. join xs ys s))
    (join_if (leb lower x && leb x upper) _ _ _ _ (well_formed ys)
    (join_reply (following code seen needed x) xs ys (well_formed ys) (λ s. join xs ys s))
    (λ q. never q)) h

-- the pass goes on over a part that is well-formed by itself
pub passed-part : (text : List ℕ) (at n : ℕ) → Passed text at → at + n ≤ length text → well_formed (take n (drop at text)) ≡ true → Passed text (at + n)
passed-part text at n p h f =
    record {
      within = h;
      cuts = λ m l k.
          p.cuts m (omega arith) k
          ∙ ap well_formed (sym (rw (part_of at n m text (omega arith), drop-drop n at (take m text)) at (take-append-drop n (drop at (take m text)))))
          ∙ join (take n (drop at text)) (drop (at + n) (take m text)) initial f;
    }

-- a well-formed beginning grows by what is well-formed after it
pub valid-more : (text : List ℕ) (v e r : ℕ) → ValidTo text v → v ≤ e → e ≤ length text → ValidTo (take (e - v) (drop v text)) r → ValidTo text (v + r)
valid-more text v e r k l m h =
    let n : length (take (e - v) (drop v text)) ≡ e - v = length-take-le (e - v) (drop v text) (omega (arith, length-drop v text)) in
    record {
      within = omega (arith, n, h.within);
      begins =
          ap well_formed (take-add v r text)
          ∙ join (take v text) (take r (drop v text)) initial k.begins
          ∙ rw (take-take r (e - v) (drop v text) (omega (arith, n, h.within))) at h.begins;
    }

-- no bytes are a well-formed beginning, and a stretch
pub valid-none : (text : List ℕ) → ValidTo text 0
unfolding decode_from no_error
valid-none text = record { within = omega arith; begins = refl }

pub stretch_none : (text : List ℕ) → Stretch text 0 0
unfolding decode_from no_error
stretch_none text = record { order = omega arith; within = omega arith; formed = refl }
