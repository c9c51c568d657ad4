-- Laws of `Puts`: how bytes are put in several parts, and what that says of a call that prints them. Assumes nothing.
use Rattle.std.specs.Prelude.{Option, Some, None}
use mathlib.Core.Path.{◌≡◌, refl, sym, ap, ◌∙◌}
use mathlib.Core.Bool.{Bool, true, false, cond}
use mathlib.Core.List.{List, [], ◌∷◌, ◌++◌}
use Prim.Native.Nat.{ℕ, ◌+◌, ◌-◌, ◌≤◌, ◌<◌}
use native.Mathlib.Omega.{arith}
use native.Mathlib.Numerals.{add-one}
use lib.ListN.{length, set, take, drop, get_or, replicate, length-append, drop_of_length-le}
use lib.Seq.{drop-cons, take-nil, take_all, take-append-add, take-append-le}
use lib.Dec.{leb}
use borrow.Author.Tests.{leb-true, leb-false, le-leb, lt-leb}
use Rattle.enc_utf_8.specs.Buffer.{splice, fits_in}
use Rattle.enc_utf_8.proofs.Splices.{splice-none, splice-start, length-splice, splice-both, fits_in-then, unfits_in_then, next-full, went, stored_1}
use Rattle.print_figures.specs.Puts.{laid_after, over, Puts, ClearedEnd, Printed}

-- ---- as many as there is room for

-- where all fit, all
fits_all : (xs : List ℕ) (at room : ℕ) → fits_in xs at room ≡ true → take (room - at) xs ≡ xs
unfolding fits_in
fits_all [] at room f = take-nil (room - at)
fits_all (x ∷ xs) at room f = take_all (room - at) (x ∷ xs) (omega (arith, leb-true (at + length (x ∷ xs)) room f))

-- where the first part fits, what the second has room for comes after it
fits_more : (xs ys : List ℕ) (at room : ℕ) → fits_in xs at room ≡ true → take (room - at) (xs ++ ys) ≡ xs ++ take (room - (at + length xs)) ys
unfolding fits_in
fits_more [] ys at room f = let e : at + 0 ≡ at = omega arith in rw e
fits_more (x ∷ xs) ys at room f =
    let e : room - at ≡ length (x ∷ xs) + (room - (at + length (x ∷ xs))) = omega (arith, leb-true (at + length (x ∷ xs)) room f) in
    ap (λ (k : ℕ). take k (x ∷ xs ++ ys)) e ∙ take-append-add (x ∷ xs) ys (room - (at + length (x ∷ xs)))

-- where it does not fit, nothing of the second
unfits_more : (xs ys : List ℕ) (at room : ℕ) → fits_in xs at room ≡ false → take (room - at) (xs ++ ys) ≡ take (room - at) xs
unfolding fits_in
unfits_more [] ys at room f = absurd (let z : ◌≡◌ {A = ℕ} 0 1 = cc in omega arith)
unfits_more (x ∷ xs) ys at room f = take-append-le (room - at) (x ∷ xs) ys (omega (arith, leb-false (at + length (x ∷ xs)) room f))

-- ---- nothing, and one byte

none-by : (p : Option ℕ) (room : ℕ) → p ≡ laid_after p [] room
unfolding laid_after fits_in
none-by (Some at) room = let e : at + 0 ≡ at = omega arith in rw e
none-by None room = refl

none_over : (p : Option ℕ) (out : List ℕ) → out ≡ over p [] out
unfolding over
none_over (Some at) out = rw (take-nil (length out - at)) (sym (splice-none out at))
none_over None out = refl

pub puts_none : {out : List ℕ} {p : Option ℕ} → Puts [] out p p out
puts_none {out} {p} = record { answer = none-by p (length out); buffer = none_over p out }

pub puts_full : {xs out : List ℕ} {p : Option ℕ} → p ≡ None → Puts xs out p None out
unfolding laid_after over
puts_full {xs} {out} {p} e = record { answer = rw e; buffer = rw e }

module _ (b : ℕ) (out : List ℕ) (p : Option ℕ) (at : ℕ) (e : p ≡ Some at) where
  pub byte-over : length out ≤ at → Puts (b ∷ []) out p None out
  unfolding laid_after over fits_in
  byte-over h =
      let z : length out - at ≡ 0 = omega arith in
      record { answer = rw (e, lt-leb (at + 1) (length out) (omega arith)); buffer = rw (e, z) (sym (splice-none out at)) }

  pub byte_put : at < length out → Puts (b ∷ []) out p (Some (at + 1)) (set out at b)
  unfolding laid_after over
  byte_put h =
      let w = went (stored_1 out at b (omega arith)) refl in
      record { answer = rw (e, w.fits); buffer = rw (e, fits_all (b ∷ []) at (length out) w.fits) w.buffer }

-- ---- two parts

module _ (xs ys out out₁ out₂ : List ℕ) (r : Option ℕ) where
  then_by : (at : ℕ) (q : Option ℕ) (f : Bool) → fits_in xs at (length out) ≡ f → q ≡ cond f (Some (at + length xs)) None → out₁ ≡ splice out at (take (length out - at) xs)
      → Puts ys out₁ q r out₂ → Puts (xs ++ ys) out (Some at) r out₂
  unfolding laid_after over
  then_by at q true f e w b =
      let v : out₁ ≡ splice out at xs = w ∙ ap (splice out at) (fits_all xs at (length out) f) in
      let l : length out₁ ≡ length out = ap length v ∙ length-splice out xs at f in
      let k : at + length xs + length ys ≡ at + length (xs ++ ys) = simp length-append (omega arith) in
      let rest = take (length out - (at + length xs)) ys in
      record {
        answer = b.answer ∙ rw (e, l, ← fits_in-then xs ys (length out) at f, k);
        buffer =
            b.buffer
            ∙ ap (λ (p : Option ℕ). over p ys out₁) e
            ∙ ap (λ (n : ℕ). splice out₁ (at + length xs) (take (n - (at + length xs)) ys)) l
            ∙ ap (λ (o : List ℕ). splice o (at + length xs) rest) v
            ∙ splice-both out xs rest at f
            ∙ ap (splice out at) (sym (fits_more xs ys at (length out) f));
      }
  then_by at q false f e w b =
      record {
        answer = b.answer ∙ rw (e, unfits_in_then xs ys (length out) at f);
        buffer = b.buffer ∙ ap (λ (p : Option ℕ). over p ys out₁) e ∙ w ∙ ap (splice out at) (sym (unfits_more xs ys at (length out) f));
      }

  chain_by : (p q : Option ℕ) → Puts xs out p q out₁ → Puts ys out₁ q r out₂ → Puts (xs ++ ys) out p r out₂
  unfolding laid_after over
  chain_by (Some at) q a b = then_by at q (fits_in xs at (length out)) refl a.answer a.buffer b
  chain_by None q a b = record { answer = b.answer ∙ rw a.answer; buffer = b.buffer ∙ ap (λ (p : Option ℕ). over p ys out₁) a.answer ∙ a.buffer }

-- the first, then the second
pub chain : {xs ys out out₁ out₂ : List ℕ} {p q r : Option ℕ} → Puts xs out p q out₁ → Puts ys out₁ q r out₂ → Puts (xs ++ ys) out p r out₂
chain {xs} {ys} {out} {out₁} {out₂} {p} {q} {r} a b = chain_by xs ys out out₁ out₂ r p q a b

-- three in a row
pub chain_3 : {xs ys zs out out₁ out₂ out₃ : List ℕ} {p q r s : Option ℕ} → Puts xs out p q out₁ → Puts ys out₁ q r out₂ → Puts zs out₂ r s out₃ → Puts (xs ++ ys ++ zs) out p s out₃
chain_3 a b c = chain (chain a b) c

-- the same bytes under another name
pub puts_as : {xs ys out out' : List ℕ} {p r : Option ℕ} → xs ≡ ys → Puts ys out p r out' → Puts xs out p r out'
puts_as e h = rw e h

-- ---- a loop: whatever puts `ys` from here on, puts `xs` from the loop's beginning on

pub record Rest (xs out : List ℕ) (p : Option ℕ) (ys out₁ : List ℕ) (p₁ : Option ℕ) : Type 0 where
  pub finish : (r : Option ℕ) (out₂ : List ℕ) → Puts ys out₁ p₁ r out₂ → Puts xs out p r out₂

pub rest_all : {xs ys out : List ℕ} {p : Option ℕ} → xs ≡ ys → Rest xs out p ys out p
rest_all e = record { finish = λ r out₂ h. puts_as e h }

pub rest-next : {xs ys us vs out out₁ out₂ : List ℕ} {p q r : Option ℕ} → Rest xs out p ys out₁ q → ys ≡ us ++ vs → Puts us out₁ q r out₂ → Rest xs out p vs out₂ r
rest-next q e a = record { finish = λ r out₃ h. q.finish r out₃ (puts_as e (chain a h)) }

pub rest_end : {xs ys out out₁ : List ℕ} {p q : Option ℕ} → Rest xs out p ys out₁ q → ys ≡ [] → Puts xs out p q out₁
rest_end {out₁ = out₁} {q = q} h e = h.finish q out₁ (puts_as e puts_none)

-- ---- some bytes as they are

module _ (bytes out₀ : List ℕ) (p₀ : Option ℕ) (i : ℕ) (out : List ℕ) (p : Option ℕ) (inv : Rest bytes out₀ p₀ (drop i bytes) out p) where
  pub bytes-again : {out' : List ℕ} {r : Option ℕ} → i < length bytes → Puts (get_or bytes i 0 ∷ []) out p r out' → Rest bytes out₀ p₀ (drop (i + 1) bytes) out' r
  bytes-again h a = rest-next inv (rw add-one (drop-cons bytes i 0 h)) a

  pub bytes-end : length bytes ≤ i → Puts bytes out₀ p₀ p out
  bytes-end h = rest_end inv (drop_of_length-le bytes h)

-- ---- after the last byte

pub ended-next : {p : Option ℕ} {out : List ℕ} (n : ℕ) → p ≡ Some n → ClearedEnd p out (Some n) out
ended-next n e = record { answer = sym e; on = λ k q. refl; off = λ q. next-full (sym e ∙ q) }

pub ended-full : {p : Option ℕ} {out out' : List ℕ} → p ≡ None → out' ≡ replicate (length out) 0 → ClearedEnd p out None out'
ended-full e h = record { answer = sym e; on = λ k q. next-full (sym q ∙ e); off = λ q. h }

fits-start : (xs : List ℕ) (room : ℕ) → fits_in xs 0 room ≡ leb (length xs) room
unfolding fits_in
fits-start [] room = sym (le-leb 0 room (omega arith))
fits-start (x ∷ xs) room = let e : 0 + length (x ∷ xs) ≡ length (x ∷ xs) = omega arith in rw e

module _ (xs out out₁ out₂ : List ℕ) (q r : Option ℕ) (b : ClearedEnd q out₁ r out₂) where
  whole_by : (f : Bool) → fits_in xs 0 (length out) ≡ f → q ≡ cond f (Some (0 + length xs)) None → out₁ ≡ splice out 0 (take (length out - 0) xs)
      → length out₁ ≡ length out → Printed xs out r out₂
  whole_by true f e w l =
      let k : 0 + length xs ≡ length xs = omega arith in
      let g : leb (length xs) (length out) ≡ true = sym (fits-start xs (length out)) ∙ f in
      record { answer = b.answer ∙ e ∙ rw (g, k); buffer = b.on (0 + length xs) e ∙ w ∙ ap (splice out 0) (fits_all xs 0 (length out) f) ∙ rw g (splice-start out xs) }
  whole_by false f e w l =
      let g : leb (length xs) (length out) ≡ false = sym (fits-start xs (length out)) ∙ f in
      record { answer = b.answer ∙ e ∙ rw g; buffer = b.off e ∙ rw (g, l) }

-- the whole, from the buffer's start on
pub printed : (xs : List ℕ) {out out₁ out₂ : List ℕ} {q r : Option ℕ} → Puts xs out (Some 0) q out₁ → length out₁ ≡ length out → ClearedEnd q out₁ r out₂ → Printed xs out r out₂
unfolding laid_after over
printed xs {out} {out₁} {out₂} {q} {r} a l b = whole_by xs out out₁ out₂ q r b (fits_in xs 0 (length out)) refl a.answer a.buffer l
