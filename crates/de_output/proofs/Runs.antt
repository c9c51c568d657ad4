-- Laws of `Ran`: how a trace runs in two parts. They are the only place that opens `step_of` and `_then_`. Assumes nothing.
use mathlib.Core.Path.{◌≡◌, refl, sym, ap, ◌∙◌}
use mathlib.Core.Bool.{Bool, true, false, cond, ◌&&◌}
use mathlib.Core.List.{List, [], ◌∷◌, ◌++◌, append_assoc, append-nil}
use Prim.Native.Nat.{ℕ, ◌+◌}
use native.Mathlib.Omega.{arith}
use lib.ListN.{length, length-append}
use Rattle.std.proofs.lemmas.Bool.{and_parts, and_right}
use Rattle.enc_utf_8.specs.Buffer.{splice, fits_in}
use Rattle.enc_utf_8.proofs.Splices.{length-splice, splice-none, splice-both, fits-none, fits_in-then, unfits_in_then}
use Rattle.tape.specs.Record.{record_bytes}
use Rattle.de_output.specs.declared.Step.{Step}
use Rattle.de_output.specs.declared.Step.TheVariants.{Next, Stop}
use Rattle.de_output.specs.Trace.{TapeEvent, rec, text, text_record, text_bytes, tape_bytes, Trace, done, stop, events_of, end_of, refuse, ◌then◌, fits, step_of, fitting, Ran, From, Halts}

pub next-stop : {X : Type 0} {n m k b : ℕ} → Next n m ≡ Stop k b → X
next-stop e = absurd (let z : ◌≡◌ {A = ℕ} 0 1 = cc in omega arith)

-- ---- events in two parts

pub text-then : (xs ys : List TapeEvent) → text_bytes (xs ++ ys) ≡ text_bytes xs ++ text_bytes ys
unfolding text_bytes
text-then [] ys = refl
text-then (rec r ∷ xs) ys = text-then xs ys
text-then (text w d t ∷ xs) ys = rw (text-then xs ys) (sym (append_assoc t (text_bytes xs) (text_bytes ys)))

pub tape-then : (from : ℕ) (xs ys : List TapeEvent) → tape_bytes from (xs ++ ys) ≡ tape_bytes from xs ++ tape_bytes (from + length (text_bytes xs)) ys
unfolding tape_bytes text_bytes
tape-then from [] ys = let e : from + 0 ≡ from = omega arith in rw e
tape-then from (rec r ∷ xs) ys = rw (tape-then from xs ys) (sym (append_assoc (record_bytes r) (tape_bytes from xs) (tape_bytes (from + length (text_bytes xs)) ys)))
tape-then from (text w d t ∷ xs) ys =
    let e : from + length t + length (text_bytes xs) ≡ from + length (t ++ text_bytes xs) = simp length-append (omega arith) in
    rw (tape-then (from + length t) xs ys, e) (sym (append_assoc (record_bytes (text_record w d from (length t))) (tape_bytes (from + length t) xs) (tape_bytes (from + length (t ++ text_bytes xs)) ys)))

-- the events fit, buffer by buffer
pub record Fit (es : List TapeEvent) (at from tape_room text_room : ℕ) : Type 0 where
  pub tape : fits_in (tape_bytes from es) at tape_room ≡ true
  pub txt : fits_in (text_bytes es) from text_room ≡ true

fit : (es : List TapeEvent) (at from tape_room text_room : ℕ) → fits es at from tape_room text_room ≡ true → Fit es at from tape_room text_room
unfolding fits
fit es at from tape_room text_room h =
    let a = fits_in (tape_bytes from es) at tape_room in
    let b = fits_in (text_bytes es) from text_room in
    let p = and_parts a b h in
    record { tape = p.0; txt = p.1 }

fits-then : (xs ys : List TapeEvent) (at from tape_room text_room : ℕ) → Fit xs at from tape_room text_room
    → fits (xs ++ ys) at from tape_room text_room ≡ fits ys (at + length (tape_bytes from xs)) (from + length (text_bytes xs)) tape_room text_room
unfolding fits
fits-then xs ys at from tape_room text_room h =
    rw (tape-then from xs ys, text-then xs ys, fits_in-then (tape_bytes from xs) (tape_bytes (from + length (text_bytes xs)) ys) tape_room at h.tape, fits_in-then (text_bytes xs) (text_bytes ys) text_room from h.txt)

unfits_then : (xs ys : List TapeEvent) (at from tape_room text_room : ℕ) → fits xs at from tape_room text_room ≡ false → fits (xs ++ ys) at from tape_room text_room ≡ false
unfolding fits
unfits_then xs ys at from tape_room text_room h =
    by (fits_in (tape_bytes from xs) at tape_room) refl (fits_in (text_bytes xs) from text_room) refl h
  where
    by : (a : Bool) → fits_in (tape_bytes from xs) at tape_room ≡ a → (b : Bool) → fits_in (text_bytes xs) from text_room ≡ b → a && b ≡ false
        → fits_in (tape_bytes from (xs ++ ys)) at tape_room && fits_in (text_bytes (xs ++ ys)) from text_room ≡ false
    by false e b q h = rw (tape-then from xs ys, unfits_in_then (tape_bytes from xs) (tape_bytes (from + length (text_bytes xs)) ys) tape_room at e)
    by true e false q h = rw (text-then xs ys, unfits_in_then (text_bytes xs) (text_bytes ys) text_room from q) (and_right (fits_in (tape_bytes from (xs ++ ys)) at tape_room) false refl)
    by true e true q h = absurd (let z : ◌≡◌ {A = ℕ} 0 1 = cc in omega arith)

-- ---- the events that fit

true-false : {X : Type 0} {b : Bool} → b ≡ true → b ≡ false → X
true-false e f = absurd (let z : ◌≡◌ {A = ℕ} 0 1 = cc in omega arith)

-- what follows the events xs, which fit, is put after them
fitting-then : (xs ys : List TapeEvent) (at from tape_room text_room : ℕ) → fits xs at from tape_room text_room ≡ true
    → fitting (xs ++ ys) at from tape_room text_room ≡ xs ++ fitting ys (at + length (tape_bytes from xs)) (from + length (text_bytes xs)) tape_room text_room
unfolding fitting tape_bytes text_bytes
fitting-then [] ys at from tape_room text_room h = let e : at + 0 ≡ at = omega arith in let f : from + 0 ≡ from = omega arith in rw (e, f)
fitting-then (x ∷ xs) ys at from tape_room text_room h = by (fits (x ∷ []) at from tape_room text_room) refl (λ g. fitting-then xs ys (at + length (tape_bytes from (x ∷ []))) (from + length (text_bytes (x ∷ []))) tape_room text_room g)
  where
    at₁ : ℕ
    at₁ = at + length (tape_bytes from (x ∷ []))

    from₁ : ℕ
    from₁ = from + length (text_bytes (x ∷ []))

    tape-place : at₁ + length (tape_bytes from₁ xs) ≡ at + length (tape_bytes from (x ∷ xs))
    tape-place = rw (tape-then from (x ∷ []) xs) (simp length-append (omega arith))

    text-place : from₁ + length (text_bytes xs) ≡ from + length (text_bytes (x ∷ xs))
    text-place = rw (text-then (x ∷ []) xs) (simp length-append (omega arith))

    by : (b : Bool) → fits (x ∷ []) at from tape_room text_room ≡ b
        → (fits xs at₁ from₁ tape_room text_room ≡ true → fitting (xs ++ ys) at₁ from₁ tape_room text_room ≡ xs ++ fitting ys (at₁ + length (tape_bytes from₁ xs)) (from₁ + length (text_bytes xs)) tape_room text_room)
        → fitting (x ∷ (xs ++ ys)) at from tape_room text_room ≡ x ∷ (xs ++ fitting ys (at + length (tape_bytes from (x ∷ xs))) (from + length (text_bytes (x ∷ xs))) tape_room text_room)
    by true e more =
        let g : fits xs at₁ from₁ tape_room text_room ≡ true = sym (fits-then (x ∷ []) xs at from tape_room text_room (fit _ _ _ _ _ e)) ∙ h in
        rw (e, more g, tape-place, text-place)
    by false e more = true-false h (unfits_then (x ∷ []) xs at from tape_room text_room e)

-- events that fit are all put
pub fitting-all : (xs : List TapeEvent) (at from tape_room text_room : ℕ) → fits xs at from tape_room text_room ≡ true → fitting xs at from tape_room text_room ≡ xs
unfolding fitting
fitting-all xs at from tape_room text_room h = ap (λ (l : List TapeEvent). fitting l at from tape_room text_room) (sym (append-nil xs)) ∙ fitting-then xs [] at from tape_room text_room h ∙ append-nil xs

none-fit : (at from tape_room text_room : ℕ) → fits [] at from tape_room text_room ≡ true
unfolding fits tape_bytes text_bytes
none-fit at from tape_room text_room = rw (fits-none at tape_room, fits-none from text_room)

-- after events that do not all fit nothing more is put
fitting-over : (xs ys : List TapeEvent) (at from tape_room text_room : ℕ) → fits xs at from tape_room text_room ≡ false → fitting (xs ++ ys) at from tape_room text_room ≡ fitting xs at from tape_room text_room
unfolding fitting
fitting-over [] ys at from tape_room text_room h = true-false (none-fit at from tape_room text_room) h
fitting-over (x ∷ xs) ys at from tape_room text_room h = by (fits (x ∷ []) at from tape_room text_room) refl (λ g. fitting-over xs ys (at + length (tape_bytes from (x ∷ []))) (from + length (text_bytes (x ∷ []))) tape_room text_room g)
  where
    at₁ : ℕ
    at₁ = at + length (tape_bytes from (x ∷ []))

    from₁ : ℕ
    from₁ = from + length (text_bytes (x ∷ []))

    by : (b : Bool) → fits (x ∷ []) at from tape_room text_room ≡ b → (fits xs at₁ from₁ tape_room text_room ≡ false → fitting (xs ++ ys) at₁ from₁ tape_room text_room ≡ fitting xs at₁ from₁ tape_room text_room)
        → fitting (x ∷ (xs ++ ys)) at from tape_room text_room ≡ fitting (x ∷ xs) at from tape_room text_room
    by true e more =
        let g : fits xs at₁ from₁ tape_room text_room ≡ false = sym (fits-then (x ∷ []) xs at from tape_room text_room (fit _ _ _ _ _ e)) ∙ h in
        rw (e, more g)
    by false e more = rw e

-- ---- what an answer tells

-- the trace was not refused and fits
pub record Went (t : Trace) (tape txt : List ℕ) (at from n m : ℕ) (tape' txt' : List ℕ) : Type 0 where
  pub is : t ≡ done (events_of t)
  pub all : fits (events_of t) at from (length tape) (length txt) ≡ true
  pub fit : Fit (events_of t) at from (length tape) (length txt)
  pub to : n ≡ at + length (tape_bytes from (events_of t))
  pub upto : m ≡ from + length (text_bytes (events_of t))
  pub wrote : tape' ≡ splice tape at (tape_bytes from (events_of t))
  pub told : txt' ≡ splice txt from (text_bytes (events_of t))

went-by : (t : Trace) (b : Bool) {tape tape' txt txt' : List ℕ} {at from n m : ℕ} → fits (events_of t) at from (length tape) (length txt) ≡ b
    → Next n m ≡ cond b (end_of t at from) (Stop 15 0)
    → tape' ≡ splice tape at (tape_bytes from (fitting (events_of t) at from (length tape) (length txt)))
    → txt' ≡ splice txt from (text_bytes (fitting (events_of t) at from (length tape) (length txt)))
    → Went t tape txt at from n m tape' txt'
unfolding events_of end_of
went-by (done es) true {tape} {txt = txt} {at = at} {from} e a w v =
    let q = fitting-all es at from (length tape) (length txt) e in
    record { is = refl; all = e; fit = fit _ _ _ _ _ e; to = cc; upto = cc; wrote = rw q at w; told = rw q at v }
went-by (done es) false e a w v = next-stop a
went-by (stop es k b) true e a w v = next-stop a
went-by (stop es k b) false e a w v = next-stop a

pub went : {t : Trace} {tape tape' txt txt' : List ℕ} {at from n m : ℕ} → Ran t tape txt at from (Next n m) tape' txt' → Went t tape txt at from n m tape' txt'
unfolding step_of
went {t} {tape} {tape'} {txt} {txt'} {at} {from} {n} {m} r =
    went-by t (fits (events_of t) at from (length tape) (length txt)) refl r.answer r.wrote r.told

pub same-tape : {t : Trace} {tape tape' txt txt' : List ℕ} {at from n m : ℕ} → Ran t tape txt at from (Next n m) tape' txt' → length tape' ≡ length tape
same-tape {t} {tape} {at = at} {from} r = ap length (went r).wrote ∙ length-splice tape (tape_bytes from (events_of t)) at (went r).fit.tape

pub same_text : {t : Trace} {tape tape' txt txt' : List ℕ} {at from n m : ℕ} → Ran t tape txt at from (Next n m) tape' txt' → length txt' ≡ length txt
same_text {t} {txt = txt} {from = from} r = ap length (went r).told ∙ length-splice txt (text_bytes (events_of t)) from (went r).fit.txt

-- ---- a refusal

pub refused : {tape txt : List ℕ} {at from : ℕ} (n b : ℕ) → Ran (refuse n b) tape txt at from (Stop n b) tape txt
unfolding step_of events_of end_of fitting tape_bytes text_bytes
refused {tape} {txt} {at} {from} n b = record { answer = rw (none-fit at from (length tape) (length txt)); wrote = sym (splice-none tape at); told = sym (splice-none txt from) }

-- ---- two traces

step_then : (xs : List TapeEvent) (u : Trace) (tape_room text_room at from : ℕ) → Fit xs at from tape_room text_room
    → step_of (done xs then u) tape_room text_room at from ≡ step_of u tape_room text_room (at + length (tape_bytes from xs)) (from + length (text_bytes xs))
unfolding step_of events_of end_of ◌then◌
step_then xs (done ys) tape_room text_room at from h =
    let e : at + length (tape_bytes from (xs ++ ys)) ≡ at + length (tape_bytes from xs) + length (tape_bytes (from + length (text_bytes xs)) ys) = rw (tape-then from xs ys) (simp length-append (omega arith)) in
    let f : from + length (text_bytes (xs ++ ys)) ≡ from + length (text_bytes xs) + length (text_bytes ys) = rw (text-then xs ys) (simp length-append (omega arith)) in
    rw (fits-then xs ys at from tape_room text_room h, e, f)
step_then xs (stop ys n b) tape_room text_room at from h = rw (fits-then xs ys at from tape_room text_room h)

events-then : (xs : List TapeEvent) (u : Trace) → events_of (done xs then u) ≡ xs ++ events_of u
unfolding events_of ◌then◌
events-then xs (done ys) = refl
events-then xs (stop ys n b) = refl

next-done : (xs : List TapeEvent) (u : Trace) {tape tape₁ tape₂ txt txt₁ txt₂ : List ℕ} {at at₁ from from₁ : ℕ} {r : Step} → fits xs at from (length tape) (length txt) ≡ true
    → at₁ ≡ at + length (tape_bytes from xs) → from₁ ≡ from + length (text_bytes xs) → tape₁ ≡ splice tape at (tape_bytes from xs) → txt₁ ≡ splice txt from (text_bytes xs)
    → Ran u tape₁ txt₁ at₁ from₁ r tape₂ txt₂ → Ran (done xs then u) tape txt at from r tape₂ txt₂
next-done xs u {tape} {tape₁} {tape₂} {txt} {txt₁} {txt₂} {at} {at₁} {from} {from₁} {r} g e f w v b =
    let h : Fit xs at from (length tape) (length txt) = fit _ _ _ _ _ g in
    let lt : length (splice tape at (tape_bytes from xs)) ≡ length tape = length-splice tape (tape_bytes from xs) at h.tape in
    let lx : length (splice txt from (text_bytes xs)) ≡ length txt = length-splice txt (text_bytes xs) from h.txt in
    let rest = fitting (events_of u) (at + length (tape_bytes from xs)) (from + length (text_bytes xs)) (length tape) (length txt) in
    record {
      answer = b.answer ∙ rw (e, f, w, v, lt, lx) (sym (step_then xs u (length tape) (length txt) at from h));
      wrote = b.wrote ∙ rw (e, f, w, v, lt, lx, splice-both tape (tape_bytes from xs) (tape_bytes (from + length (text_bytes xs)) rest) at h.tape, events-then xs u, fitting-then xs (events_of u) at from (length tape) (length txt) g, tape-then from xs rest);
      told = b.told ∙ rw (e, f, w, v, lt, lx, splice-both txt (text_bytes xs) (text_bytes rest) from h.txt, events-then xs u, fitting-then xs (events_of u) at from (length tape) (length txt) g, text-then xs rest);
    }

-- the first ran to its end: the rest is the second's
pub then_next : {t u : Trace} {tape tape₁ tape₂ txt txt₁ txt₂ : List ℕ} {at at₁ from from₁ : ℕ} {r : Step} → Ran t tape txt at from (Next at₁ from₁) tape₁ txt₁
    → Ran u tape₁ txt₁ at₁ from₁ r tape₂ txt₂ → Ran (t then u) tape txt at from r tape₂ txt₂
then_next {t} {u} a b =
    let w = went a in
    rw w.is (next-done (events_of t) u w.all w.to w.upto w.wrote w.told b)

stop-by : (t u : Trace) (b : Bool) (tape_room text_room at from n c : ℕ) → fits (events_of t) at from tape_room text_room ≡ b → Stop n c ≡ cond b (end_of t at from) (Stop 15 0)
    → Stop n c ≡ step_of (t then u) tape_room text_room at from
unfolding events_of end_of ◌then◌ step_of
stop-by (done xs) u true tape_room text_room at from n c e a = next-stop (sym a)
stop-by (done xs) (done ys) false tape_room text_room at from n c e a = a ∙ rw (unfits_then xs ys at from tape_room text_room e)
stop-by (done xs) (stop ys k d) false tape_room text_room at from n c e a = a ∙ rw (unfits_then xs ys at from tape_room text_room e)
stop-by (stop xs k d) u b tape_room text_room at from n c e a = a ∙ rw e

-- nothing of the second is put then
stop-events : (t u : Trace) (b : Bool) (tape_room text_room at from n c : ℕ) → fits (events_of t) at from tape_room text_room ≡ b → Stop n c ≡ cond b (end_of t at from) (Stop 15 0)
    → fitting (events_of (t then u)) at from tape_room text_room ≡ fitting (events_of t) at from tape_room text_room
unfolding events_of end_of ◌then◌
stop-events (done xs) u true tape_room text_room at from n c e a = next-stop (sym a)
stop-events (done xs) (done ys) false tape_room text_room at from n c e a = fitting-over xs ys at from tape_room text_room e
stop-events (done xs) (stop ys k d) false tape_room text_room at from n c e a = fitting-over xs ys at from tape_room text_room e
stop-events (stop xs k d) u b tape_room text_room at from n c e a = refl

-- the first was refused, or did not fit: so is the whole
pub then-stop : (u : Trace) {t : Trace} {tape tape₁ txt txt₁ : List ℕ} {at from n c : ℕ} → Ran t tape txt at from (Stop n c) tape₁ txt₁ → Ran (t then u) tape txt at from (Stop n c) tape₁ txt₁
unfolding step_of
then-stop u {t} {tape} {txt = txt} {at = at} {from} {n} {c} r =
    let q = stop-events t u (fits (events_of t) at from (length tape) (length txt)) (length tape) (length txt) at from n c refl r.answer in
    record {
      answer = stop-by t u (fits (events_of t) at from (length tape) (length txt)) (length tape) (length txt) at from n c refl r.answer;
      wrote = r.wrote ∙ rw q;
      told = r.told ∙ rw q;
    }

-- ---- after a step

pub from_next : {t : Trace} {tape tape' txt txt' : List ℕ} {s r : Step} (at from : ℕ) → s ≡ Next at from → Ran t tape txt at from r tape' txt' → From t tape txt s r tape' txt'
from_next {t} {tape} {tape'} {txt} {txt'} {s} {r} at from e h = record {
  on = λ k j q. let z : k ≡ at = cc in let y : j ≡ from = cc in rw (z, y) h;
  off = λ n b q. next-stop (sym e ∙ q);
  off-tape = λ n b q. next-stop (sym e ∙ q);
  off-text = λ n b q. next-stop (sym e ∙ q);
}

-- a step that is a refusal stays it, whatever was to run
pub from-held : {t : Trace} {tape txt : List ℕ} {s : Step} (n b : ℕ) → s ≡ Stop n b → From t tape txt s s tape txt
from-held n b e = record { on = λ k j q. next-stop (sym q ∙ e); off = λ k c q. q; off-tape = λ k c q. refl; off-text = λ k c q. refl }

-- the first, then the second
on-by : {t u : Trace} {tape tape₁ tape₂ txt txt₁ txt₂ : List ℕ} {at from : ℕ} (r : Step) {r' : Step} → Ran t tape txt at from r tape₁ txt₁ → From u tape₁ txt₁ r r' tape₂ txt₂
    → Ran (t then u) tape txt at from r' tape₂ txt₂
on-by (Next n m) a b = then_next a (b.on n m refl)
on-by (Stop n c) {r'} a b =
    let e : r' ≡ Stop n c = b.off n c refl in
    rw (e, b.off-tape n c refl, b.off-text n c refl) (then-stop _ a)

pub chain : {t u : Trace} {tape tape₁ tape₂ txt txt₁ txt₂ : List ℕ} {s r r' : Step} → From t tape txt s r tape₁ txt₁ → From u tape₁ txt₁ r r' tape₂ txt₂ → From (t then u) tape txt s r' tape₂ txt₂
chain {r = r} a b = record {
  on = λ at from e. on-by r (a.on at from e) b;
  off = λ n c e. b.off n c (a.off n c e);
  off-tape = λ n c e. b.off-tape n c (a.off n c e) ∙ a.off-tape n c e;
  off-text = λ n c e. b.off-text n c (a.off n c e) ∙ a.off-text n c e;
}

-- the same trace under another name
pub from_as : {t t' : Trace} {tape tape' txt txt' : List ℕ} {s r : Step} → t ≡ t' → From t' tape txt s r tape' txt' → From t tape txt s r tape' txt'
from_as e h = rw e h

-- a refusal is the trace of one
pub halted : {tape txt : List ℕ} {s r : Step} {n b : ℕ} → Halts s n b r → From (refuse n b) tape txt s r tape txt
halted {tape} {txt} {s} {r} {n} {b} h = record {
  on = λ at from e. let q : r ≡ Stop n b = h.on at from e in rw q (refused n b);
  off = h.off;
  off-tape = λ k c q. refl;
  off-text = λ k c q. refl;
}

-- ---- a loop: whatever runs `u` from here on, runs `t` from the loop's beginning on

pub record Rest (t : Trace) (tape txt : List ℕ) (s : Step) (u : Trace) (tape₁ txt₁ : List ℕ) (s₁ : Step) : Type 0 where
  pub finish : (r : Step) (tape₂ txt₂ : List ℕ) → From u tape₁ txt₁ s₁ r tape₂ txt₂ → From t tape txt s r tape₂ txt₂

pub rest_all : {t u : Trace} {tape txt : List ℕ} {s : Step} → t ≡ u → Rest t tape txt s u tape txt s
rest_all e = record { finish = λ r tape₂ txt₂ x. from_as e x }

pub rest-next : {t u v w : Trace} {tape tape₁ tape₂ txt txt₁ txt₂ : List ℕ} {s s₁ r : Step} → Rest t tape txt s w tape₁ txt₁ s₁ → w ≡ u then v → From u tape₁ txt₁ s₁ r tape₂ txt₂ → Rest t tape txt s v tape₂ txt₂ r
rest-next q e a = record { finish = λ r' tape₃ txt₃ x. q.finish r' tape₃ txt₃ (from_as e (chain a x)) }
