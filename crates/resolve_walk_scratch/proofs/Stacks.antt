-- The stack and the bits lie apart. Assumes nothing.
use mathlib.Core.Path.{◌≡◌, refl, sym, ap, ◌∙◌}
use mathlib.Core.Bool.{true, false}
use mathlib.Core.List.{List, [], ◌∷◌, ◌++◌}
use Prim.Native.Nat.{ℕ, zero, suc, ◌+◌, ◌*◌, ◌-◌, ◌/◌, ◌%◌, ◌≤◌, ◌<◌}
use native.Mathlib.Omega.{arith}
use native.Mathlib.Numerals.{add-one}
use lib.ListN.{length, get_or, set, length-append}
use lib.Seq.{get_or-set_same, get_or-set_other}
use lib.Dec.{eqb}
use borrow.Author.Tests.{lt-ltb, le-ltb, eq-eqb, ne_eqb}
use Rattle.type_book.specs.Book.{is_type, fields_of}
use Rattle.type_category.specs.declared.type_category.AdsTypeCategory.{AdsTypeCategory}
use Rattle.type_book_check.specs.Check.{ValidBook}
use Rattle.resolve_walk_scratch.specs.declared.ScratchParts.{ScratchParts}
use Rattle.resolve_walk_scratch.specs.declared.ScratchParts.TheVariants.{Element, Fields, Nothing}
use Rattle.resolve_walk_scratch.specs.Parts.{parts_kind, blocks_after, parts_in}
use Rattle.resolve_walk_scratch.specs.Scratch.{stack_entry, stack_of, marked_in, is_run, taken_at, taken_from, pushed_to, pushed_on, Took, Pushed, BlockMarked, MarkedAndPushed}
use Rattle.resolve_walk_scratch.proofs.Places.{fields-below}

pub stack_set : (sc : List ℕ) (i x d : ℕ) → d ≤ i → stack_of (set sc i x) d ≡ stack_of sc d
unfolding stack_of
stack_set sc i x zero h = refl
stack_set sc i x (suc d) h =
    let n : d ≡ i → ⊥ = λ e. omega arith in
    rw (get_or-set_other sc i d x 0 n, stack_set sc i x d (omega arith))

pub marks-set : (sc : List ℕ) (i x u : ℕ) → i < 4096 → marked_in (set sc i x) u ≡ marked_in sc u
unfolding marked_in
marks-set sc i x u h =
    let n : 4096 + u / 32 ≡ i → ⊥ = λ e. omega arith in
    rw (get_or-set_other sc i (4096 + u / 32) x 0 n)

stack-suc : (sc : List ℕ) (depth t k : ℕ) → 0 < depth → get_or sc (depth - 1) 0 / 65536 ≡ t → get_or sc (depth - 1) 0 % 65536 ≡ k → stack_of sc depth ≡ stack_entry t k ++ stack_of sc (depth - 1)
unfolding stack_of
stack-suc sc depth t k h et ek =
    let q : depth ≡ suc (depth - 1) = omega arith in
    ap (stack_of sc) q ∙ rw (et, ek)

-- ---- take

module _ (sc : List ℕ) (depth e : ℕ) (p : 0 < depth) (l : depth ≤ 4096) (z : 6144 ≤ length sc) (ee : e ≡ get_or sc (depth - 1) 0) where
  -- the entry stands for one block, b, and is taken off
  last-at : is_run e ≡ false → (b : ℕ) → b ≡ e / 65536 + e % 65536 → record { block = b; depth = depth - 1 } ≡ taken_at sc depth
  unfolding taken_at
  last-at h b eb = rw (← ee, h, eb)

  last-from : is_run e ≡ false → sc ≡ taken_from sc depth
  unfolding taken_from
  last-from h = rw (← ee, h)

  -- it stands for more, and is left
  more-at : is_run e ≡ true → record { block = e / 65536 + e % 65536; depth = depth } ≡ taken_at sc depth
  unfolding taken_at
  more-at h = rw (← ee, h)

  more-from : is_run e ≡ true → set sc (depth - 1) (e - 1) ≡ taken_from sc depth
  unfolding taken_from
  more-from h = rw (← ee, h)

  pub took-own : e % 65536 ≡ 0 → Took sc depth (record { block = e / 65536; depth = depth - 1 }) sc
  unfolding stack_entry
  took-own h =
      let n : is_run e ≡ false = le-ltb 1 (e % 65536) (omega arith) in
      record {
        top = stack-suc sc depth (e / 65536) 0 p (rw (← ee)) (rw (← ee) h);
        marks = λ u. refl;
        less = omega arith;
        taken = last-at n (e / 65536) (omega arith);
        numbers = last-from n;
      }

  pub took-last : e % 65536 ≡ 1 → Took sc depth (record { block = e / 65536 + 1; depth = depth - 1 }) sc
  unfolding stack_entry blocks_after
  took-last h =
      let n : is_run e ≡ false = le-ltb 1 (e % 65536) (omega arith) in
      record {
        top = stack-suc sc depth (e / 65536) 1 p (rw (← ee)) (rw (← ee) h);
        marks = λ u. refl;
        less = omega arith;
        taken = last-at n (e / 65536 + 1) (omega arith);
        numbers = last-from n;
      }

  pub took_more : (e % 65536 ≡ 0 → ⊥) → (e % 65536 ≡ 1 → ⊥) → Took sc depth (record { block = e / 65536 + e % 65536; depth = depth }) (set sc (depth - 1) (e - 1))
  unfolding stack_entry blocks_after
  took_more h0 h1 =
      let d : ℕ = depth - 1 in
      let j : ℕ = e % 65536 - 2 in
      let kj : e % 65536 ≡ suc (suc j) = omega arith in
      let n : is_run e ≡ true = lt-ltb 1 (e % 65536) (omega arith) in
      let s = get_or-set_same sc (depth - 1) (e - 1) 0 (omega arith) in
      let et : (e - 1) / 65536 ≡ e / 65536 = omega arith in
      let ek : (e - 1) % 65536 ≡ suc j = omega arith in
      record {
        top =
            stack-suc sc depth (e / 65536) (suc (suc j)) p (rw (← ee)) (rw (← ee) kj)
            ∙ ap (λ (n : ℕ). (e / 65536 + n) ∷ (stack_entry (e / 65536) (suc j) ++ stack_of sc (depth - 1))) (sym kj)
            ∙ ap (λ (r : List ℕ). (e / 65536 + e % 65536) ∷ (stack_entry (e / 65536) (suc j) ++ r)) (sym (stack_set sc (depth - 1) (e - 1) (depth - 1) (omega arith)))
            ∙ ap (λ (r : List ℕ). (e / 65536 + e % 65536) ∷ r) (sym (stack-suc (set sc (depth - 1) (e - 1)) depth (e / 65536) (suc j) p (rw s et) (rw s ek)));
        marks = λ u. marks-set sc (depth - 1) (e - 1) u (omega arith);
        less = omega arith;
        taken = more-at n;
        numbers = more-from n;
      }

-- ---- push

after-few : (t k : ℕ) → length (blocks_after t k) ≡ k
unfolding blocks_after
after-few t zero = refl
after-few t (suc k) = ap suc (after-few t k)

module _ (book : List ℕ) (sc : List ℕ) (depth t : ℕ) (l : depth < 4096) (z : 6144 ≤ length sc) (c : AdsTypeCategory) where
  abbrev parts : List ℕ
  parts = parts_in book t (parts_kind c)

  laid : (n : ℕ) → n < 65536 → stack_entry t n ≡ parts → length parts ≤ 65535 → depth + 1 ≡ pushed_to book depth t (parts_kind c)
      → set sc depth (t * 65536 + n) ≡ pushed_on book sc depth t (parts_kind c) → Pushed book c sc depth t (depth + 1) (set sc depth (t * 65536 + n))
  unfolding stack_of
  laid n h e f ep es =
      let s = get_or-set_same sc depth (t * 65536 + n) 0 (omega arith) in
      let a : (t * 65536 + n) / 65536 ≡ t = omega arith in
      let b : (t * 65536 + n) % 65536 ≡ n = omega arith in
      let q : stack_of (set sc depth (t * 65536 + n)) (depth + 1) ≡ parts ++ stack_of sc depth =
      ap (stack_of (set sc depth (t * 65536 + n))) (add-one depth)
      ∙ rw (s, stack_set sc depth (t * 65536 + n) depth (omega arith), a, b, e) in
      record {
        top = q;
        marks = λ u. marks-set sc depth (t * 65536 + n) u l;
        more = omega arith;
        few = rw (q, length-append) (omega arith);
        place = ep;
        numbers = es;
      }

  kept : [] ≡ parts → depth ≡ pushed_to book depth t (parts_kind c) → sc ≡ pushed_on book sc depth t (parts_kind c) → Pushed book c sc depth t depth sc
  kept e ep es = record { top = rw (← e); marks = λ u. refl; more = omega arith; few = omega arith; place = ep; numbers = es }

  module _ (k : ScratchParts) (ek : k ≡ parts_kind c) where
    kind-is : (x : ScratchParts) → k ≡ x → parts_kind c ≡ x
    kind-is x h = sym ek ∙ h

    pub push-element : k ≡ Element → Pushed book c sc depth t (depth + 1) (set sc depth (t * 65536))
    unfolding parts_in stack_entry pushed_to pushed_on
    push-element h =
        let q : t * 65536 + 0 ≡ t * 65536 = omega arith in
        let p = kind-is Element h in
        rw q at (laid 0 (omega arith) (rw p) (rw p (omega arith)) (rw p) (rw (p, q)))

    pub push-nothing : k ≡ Nothing → Pushed book c sc depth t depth sc
    unfolding parts_in pushed_to pushed_on
    push-nothing h = let p = kind-is Nothing h in kept (rw p) (rw p) (rw p)

    module _ (h : k ≡ Fields) (n : ℕ) (en : n ≡ fields_of book t) where
      fields : parts ≡ blocks_after t n
      unfolding parts_in
      fields = rw (kind-is Fields h, ← en)

      pub push-none : n ≡ 0 → Pushed book c sc depth t depth sc
      unfolding blocks_after pushed_to pushed_on
      push-none e =
          let p = kind-is Fields h in
          let z : eqb n 0 ≡ true = eq-eqb n 0 e in
          kept (sym (fields ∙ ap (blocks_after t) e)) (rw (p, ← en, z)) (rw (p, ← en, z))

      pub push-fields : ValidBook book → is_type book t ≡ true → (n ≡ 0 → ⊥) → Pushed book c sc depth t (depth + 1) (set sc depth (t * 65536 + n))
      unfolding stack_entry pushed_to pushed_on
      push-fields v y e =
          let q : n ≡ suc (n - 1) = omega arith in
          let b : n < 65536 = fields-below book t v y n en in
          let p = kind-is Fields h in
          let z : eqb n 0 ≡ false = ne_eqb n 0 e in
          laid n b (ap (stack_entry t) q ∙ ap (blocks_after t) (sym q) ∙ sym fields) (rw (fields, after-few) (omega arith)) (rw (p, ← en, z)) (rw (p, ← en, z))

-- ---- expand

pub grow : (book sc : List ℕ) (depth t u : ℕ) (c : AdsTypeCategory) → depth < 4096 → {sc₁ : List ℕ} → BlockMarked sc t sc₁ → {r : ℕ} {sc₂ : List ℕ}
    → Pushed book c sc₁ depth u r sc₂ → MarkedAndPushed book c sc depth t u r sc₂
grow book sc depth t u c l m p =
    let s = m.stack depth (omega arith) in
    record {
      top = rw (← s) p.top;
      marks = λ u. p.marks u ∙ m.marks u;
      more = p.more;
      few = rw (← s) p.few;
      place = p.place;
      numbers = rw (← m.numbers) p.numbers;
    }
