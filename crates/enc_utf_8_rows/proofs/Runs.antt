-- What the automaton says of the decoder: where it is in a state other than the error, the decoder is in a state that agrees. Assumes nothing.
use mathlib.Core.Path.{◌≡◌, refl, sym}
use mathlib.Core.Bool.{Bool, true, false, cond, ◌&&◌}
use mathlib.Core.List.{List, [], ◌∷◌}
use Prim.Native.Nat.{ℕ, ◌+◌, ◌/◌, ◌%◌, ◌^◌, ◌≤◌, ◌<◌}
use native.Mathlib.Omega.{arith}
use native.Mathlib.Numerals.{add-one}
use lib.ListN.{length, get_or, drop, drop_of_length-le}
use lib.Seq.{drop-cons}
use lib.Dec.{eqb, leb, ltb}
use borrow.Author.Tests.{eq-eqb, ne_eqb, eqb-true, ltb-true, ltb-false}
use Rattle.enc_utf_8.specs.Utf8.{Item, error, State, state, initial, DecoderReply, continue, lower_of, upper_of, leading, following, after_reply, decode_from, no_error, well_formed}
use Rattle.enc_utf_8_rows.specs.Rows.{after_lead, after_due, row_of, errors, RowFor, own, never}
use Rattle.enc_utf_8_rows.proofs.Fields.{from_start, from-error, from_one, from-two, from-three, from-e0, from-ed, from-f0, from-f4}

-- the automaton's state agrees with the decoder's: so many bytes are due, between the same boundaries
data Agrees : ℕ → State → Type 0 where
  none : {code seen lower upper : ℕ} → Agrees 0 (state code seen 0 lower upper)
  one : {code seen needed : ℕ} → needed ≡ seen + 1 → Agrees 12 (state code seen needed 0x80 0xbf)
  two : {code seen needed : ℕ} → needed ≡ seen + 2 → Agrees 18 (state code seen needed 0x80 0xbf)
  three : {code seen needed : ℕ} → needed ≡ seen + 3 → Agrees 24 (state code seen needed 0x80 0xbf)
  e0 : {code seen needed : ℕ} → needed ≡ seen + 2 → Agrees 30 (state code seen needed 0xa0 0xbf)
  ed : {code seen needed : ℕ} → needed ≡ seen + 2 → Agrees 36 (state code seen needed 0x80 0x9f)
  f0 : {code seen needed : ℕ} → needed ≡ seen + 3 → Agrees 42 (state code seen needed 0x90 0xbf)
  f4 : {code seen needed : ℕ} → needed ≡ seen + 3 → Agrees 48 (state code seen needed 0x80 0x8f)

-- the automaton has met an error, or what is left, decoded from a state that agrees, is without error exactly if the whole is
data Along (whole : Bool) (s : ℕ) (rest : List ℕ) : Type 0 where
  lost : s ≡ 6 → Along whole s rest
  going : (d : State) → Agrees s d → whole ≡ no_error (decode_from d rest) → Along whole s rest

-- ---- the first byte of a code point

module _ (w : Bool) (b : ℕ) (bs : List ℕ) where
  abbrev Then : DecoderReply → Type 0
  Then p = w ≡ no_error (after_reply p (λ s. decode_from s bs))

  along_if : (t : Bool) (p q : DecoderReply) (x y : ℕ) → (t ≡ true → Then p → Along w x bs) → (t ≡ false → Then q → Along w y bs) → Then (cond t p q) → Along w (cond t x y) bs
  along_if true p q x y f g h = f refl h
  along_if false p q x y f g h = g refl h

  -- two more bytes are due
  lead_two : b < 0xf0 → (s t : Bool) → eqb b 0xe0 ≡ s → eqb b 0xed ≡ t → Then (continue (state (b % 16) 0 2 (lower_of b) (upper_of b))) → Along w (cond s 30 (cond t 36 18)) bs
  unfolding after_reply
  lead_two l true t es et h = let z : b ≡ 0xe0 = eqb-true b 0xe0 es in going _ (e0 refl) (rw z at h)
  lead_two l false true es et h = let z : b ≡ 0xed = eqb-true b 0xed et in going _ (ed refl) (rw z at h)
  lead_two l false false es et h =
      going _ (two refl) (rw (es, et, ne_eqb b 0xf0 (λ z. omega arith), ne_eqb b 0xf4 (λ z. omega arith)) at h)

  -- three more
  lead_three : 0xf0 ≤ b → (s t : Bool) → eqb b 0xf0 ≡ s → eqb b 0xf4 ≡ t → Then (continue (state (b % 8) 0 3 (lower_of b) (upper_of b))) → Along w (cond s 42 (cond t 48 24)) bs
  unfolding after_reply
  lead_three l true t es et h = let z : b ≡ 0xf0 = eqb-true b 0xf0 es in going _ (f0 refl) (rw z at h)
  lead_three l false true es et h = let z : b ≡ 0xf4 = eqb-true b 0xf4 et in going _ (f4 refl) (rw z at h)
  lead_three l false false es et h =
      going _ (three refl) (rw (es, et, ne_eqb b 0xe0 (λ z. omega arith), ne_eqb b 0xed (λ z. omega arith)) at h)

  lead_along : Then (leading b) → Along w (after_lead b) bs
  unfolding leading after_lead after_reply no_error
  lead_along =
      along_if (ltb b 0x80) _ _ _ _ (λ t h. going _ none h)
      (λ _. along_if (ltb b 0xc2) _ _ _ _ (λ t h. lost refl)
      (λ _. along_if (ltb b 0xe0) _ _ _ _ (λ t h. going _ (one refl) h)
      (λ _. along_if (ltb b 0xf0) _ _ _ _ (λ t h. lead_two (ltb-true b 0xf0 t) _ _ refl refl h)
      (λ f. along_if (ltb b 0xf5) _ _ _ _ (λ t h. lead_three (ltb-false b 0xf0 f) _ _ refl refl h) (λ _ h. lost refl)))))

  -- ---- a byte that is due

  due_if : (t : Bool) (next : ℕ) (is js : List Item) → (w ≡ no_error is → Along w next bs) → w ≡ no_error (cond t is (error ∷ js)) → Along w (cond t next 6) bs
  due_if true next is js k h = k h
  due_if false next is js k h = lost refl

  module _ (lower upper code seen needed : ℕ) (h : w ≡ no_error (decode_from (state code seen needed lower upper) (b ∷ bs))) where
    due-along : (next : ℕ) → (needed ≡ 0 → ⊥) → (Then (following code seen needed b) → Along w next bs) → Along w (after_due lower upper next b) bs
    unfolding decode_from after_due
    due-along next n k = due_if (leb lower b && leb b upper) next _ _ k (rw (ne_eqb needed 0 n) at h)

    -- it is the last, or one or two more are due
    due-last : needed ≡ seen + 1 → Along w (after_due lower upper 0 b) bs
    unfolding following after_reply no_error
    due-last e = due-along 0 (λ z. omega arith) (λ q. going _ none (rw (eq-eqb (seen + 1) needed (sym e)) at q))

    due-one : needed ≡ seen + 2 → Along w (after_due lower upper 12 b) bs
    unfolding following after_reply
    due-one e = due-along 12 (λ z. omega arith) (λ q. going _ (one (omega arith)) (rw (ne_eqb (seen + 1) needed (λ z. omega arith)) at q))

    due-two : needed ≡ seen + 3 → Along w (after_due lower upper 18 b) bs
    unfolding following after_reply
    due-two e = due-along 18 (λ z. omega arith) (λ q. going _ (two (omega arith)) (rw (ne_eqb (seen + 1) needed (λ z. omega arith)) at q))

  -- ---- any byte

  own-along : (s : ℕ) (d : State) → Agrees s d → w ≡ no_error (decode_from d (b ∷ bs)) → Along w (row_of b / 2 ^ s % 64) bs
  unfolding decode_from
  own-along s d none h = rw (from_start b) (lead_along h)
  own-along s d (one e) h = rw (from_one b) (due-last _ _ _ _ _ h e)
  own-along s d (two e) h = rw (from-two b) (due-one _ _ _ _ _ h e)
  own-along s d (three e) h = rw (from-three b) (due-two _ _ _ _ _ h e)
  own-along s d (e0 e) h = rw (from-e0 b) (due-one _ _ _ _ _ h e)
  own-along s d (ed e) h = rw (from-ed b) (due-one _ _ _ _ _ h e)
  own-along s d (f0 e) h = rw (from-f0 b) (due-two _ _ _ _ _ h e)
  own-along s d (f4 e) h = rw (from-f4 b) (due-two _ _ _ _ _ h e)

  -- from every state the row of errors leads to the error
  error-next : (s : ℕ) (d : State) → Agrees s d → errors / 2 ^ s % 64 ≡ 6
  error-next s d none = refl
  error-next s d (one e) = refl
  error-next s d (two e) = refl
  error-next s d (three e) = refl
  error-next s d (e0 e) = refl
  error-next s d (ed e) = refl
  error-next s d (f0 e) = refl
  error-next s d (f4 e) = refl

  row-along : (s row : ℕ) → Along w s (b ∷ bs) → RowFor b row → Along w (row / 2 ^ s % 64) bs
  row-along s row (lost e) (own r) = lost (rw (r, e) (from-error b))
  row-along s row (lost e) (never r) = lost (rw (r, e) refl)
  row-along s row (going d a h) (own r) = rw r (own-along s d a h)
  row-along s row (going d a h) (never r) = lost (rw r (error-next s d a))

-- ---- the loop of `goes_through`

-- the end: between two code points nothing is due
end-along : (w : Bool) (s : ℕ) → Along w s [] → s ≡ 0 → w ≡ true
unfolding decode_from no_error
end-along w s (lost e) z = absurd (omega arith)
end-along w s (going d none h) z = h
end-along w s (going d (one e) h) z = absurd (omega arith)
end-along w s (going d (two e) h) z = absurd (omega arith)
end-along w s (going d (three e) h) z = absurd (omega arith)
end-along w s (going d (e0 e) h) z = absurd (omega arith)
end-along w s (going d (ed e) h) z = absurd (omega arith)
end-along w s (going d (f0 e) h) z = absurd (omega arith)
end-along w s (going d (f4 e) h) z = absurd (omega arith)

-- the automaton is along at the place i of some bytes
pub record AlongAt (part : List ℕ) (s i : ℕ) : Type 0 where
  along : Along (well_formed part) (s % 64) (drop i part)

module _ (part : List ℕ) where
  pub run-start : AlongAt part 0 0
  run-start = record { along = going initial none refl }

  module _ (s i : ℕ) (a : AlongAt part s i) where
    pub run-again : (row : ℕ) → i < length part → RowFor (get_or part i 0) row → AlongAt part (row / 2 ^ (s % 64)) (i + 1)
    run-again row h r =
        let z : drop i part ≡ get_or part i 0 ∷ drop (i + 1) part = rw (add-one, drop-cons part i 0 h) in
        record { along = row-along (well_formed part) (get_or part i 0) (drop (i + 1) part) (s % 64) row (rw z at a.along) r }

    pub run_end : length part ≤ i → eqb (s % 64) 0 ≡ true → well_formed part ≡ true
    run_end h z = end-along (well_formed part) (s % 64) (rw (drop_of_length-le part h) at a.along) (eqb-true (s % 64) 0 z)
