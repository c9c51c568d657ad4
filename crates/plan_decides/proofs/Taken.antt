-- Which blocks a sweep from block 0 of a valid book takes: each that names what a type of the book is made of. Assumes nothing.
use mathlib.Core.Path.{◌≡◌, refl, sym, ap, ◌∙◌}
use mathlib.Core.Bool.{Bool, true, false, cond}
use mathlib.Core.List.Memᴰ
use mathlib.Core.List.{List, ◌++◌, Memᴰ}
use mathlib.Core.Logic.{⊎_elim}
use Prim.Native.Nat.{ℕ, zero, suc, ◌+◌, ◌-◌, ◌≤◌, ◌<◌}
use native.Mathlib.Omega.{arith}
use Rattle.type_book.specs.Book.{blocks, is_type, fields_of}
use Rattle.type_book.proofs.Blocks.{same_byte}
use Rattle.type_category.specs.declared.type_category.AdsTypeCategory.{AdsTypeCategory}
use Rattle.type_category.specs.Category.{category_of}
use Rattle.type_book_check.specs.Check.{ValidBook}
use Rattle.type_book_check.proofs.Valid.{valid-type}
use Rattle.type_cache.proofs.Definitions.{SameType, same-sym, same-type}
use Rattle.type_cache.proofs.Joins.{rest-other, join-old, join_kept}
use Rattle.resolvers.specs.Resolve.{goes_on, is_followed}
use Rattle.resolvers.proofs.Chains.{followed_alias}
use Rattle.resolve_walk_scratch.specs.declared.ScratchParts.{ScratchParts}
use Rattle.resolve_walk_scratch.specs.declared.ScratchParts.TheVariants as parts
use Rattle.resolve_walk_scratch.specs.Parts.{parts_kind, blocks_after, parts_in, parts_of}
use Rattle.plan_adds.specs.declared.Due.{Due}
use Rattle.plan_adds.specs.declared.Due.TheVariants.{Names, Rest}
use Rattle.plan_adds.specs.Adds.{due_parts, due_type, due_of}

-- how many fields are due after a block
abbrev pub rest_of : Due → ℕ
rest_of (Names d) = d
rest_of (Rest d) = d

-- how many fields are due at block i, where a sweep began at block 0
unfoldable pub due_at : List ℕ → ℕ → ℕ → ℕ
due_at book width zero = 0
due_at book width (suc i) = rest_of (due_of book width i (due_at book width i))

-- such a sweep takes the type name of block b
pub record Taken (book : List ℕ) (width b : ℕ) : Type 0 where
  pub due : ℕ
  pub names : due_of book width b (due_at book width b) ≡ Names due

true-apart : {X : Type 0} → true ≡ false → X
true-apart e = let z : ◌≡◌ {A = ℕ} 0 1 = cc in absurd (omega arith)

kind-apart : {X : Type 0} → parts.Nothing ≡ parts.Fields → X
kind-apart e = let z : ◌≡◌ {A = ℕ} 0 1 = cc in absurd (omega arith)

rest-parts : (book : List ℕ) (i : ℕ) (k : ScratchParts) → rest_of (due_parts book i k) ≤ fields_of book i
unfolding due_parts
rest-parts book i parts.Element = omega arith
rest-parts book i parts.Fields = omega arith
rest-parts book i parts.Nothing = omega arith

rest-few : (book : List ℕ) (i : ℕ) (c : AdsTypeCategory) → rest_of (due_type book i c) ≤ fields_of book i
unfolding due_type
rest-few book i c = by (goes_on false c) refl
  where
    by : (g : Bool) → goes_on false c ≡ g → rest_of (due_type book i c) ≤ fields_of book i
    by true e = rw e (omega arith)
    by false e = rw e (rest-parts book i (parts_kind c))

due-names : (book : List ℕ) (width i d : ℕ) → due_of book width i (suc d) ≡ Names d
unfolding due_of
due-names book width i d = refl

due-typed : (book : List ℕ) (width i : ℕ) → is_type book i ≡ true → due_of book width i 0 ≡ due_type book i (category_of book width i)
unfolding due_of
due-typed book width i e = rw e

due-other : (book : List ℕ) (width i : ℕ) → is_type book i ≡ false → due_of book width i 0 ≡ Rest 0
unfolding due_of
due-other book width i e = rw e

pub next-due : (book : List ℕ) (width i d : ℕ) → due_at book width i ≡ d → due_at book width (suc i) ≡ rest_of (due_of book width i d)
unfolding due_at
next-due book width i d e = ap (λ (x : ℕ). rest_of (due_of book width i x)) e

pub first-due : (book : List ℕ) (width : ℕ) → due_at book width 0 ≡ 0
unfolding due_at
first-due book width = refl

-- fields are due within a type only
record Pending (book : List ℕ) (width i : ℕ) : Type 0 where
  type : ℕ
  typed : is_type book type ≡ true
  before : type < i
  within : i + due_at book width i ≤ type + 1 + fields_of book type

module _ (book : List ℕ) (width : ℕ) where
  pending-step : (i : ℕ) → (0 < due_at book width i → Pending book width i) → 0 < due_at book width (suc i) → Pending book width (suc i)
  pending-step i ih l = by (due_at book width i) refl
    where
      typed_then : is_type book i ≡ true → due_at book width i ≡ 0 → Pending book width (suc i)
      typed_then t e =
          let q : due_at book width (suc i) ≡ rest_of (due_type book i (category_of book width i)) = next-due book width i 0 e ∙ ap rest_of (due-typed book width i t) in
          record { type = i; typed = t; before = omega arith; within = omega (arith, q, rest-few book i (category_of book width i)) }

      other-then : is_type book i ≡ false → due_at book width i ≡ 0 → Pending book width (suc i)
      other-then t e =
          let q : due_at book width (suc i) ≡ 0 = next-due book width i 0 e ∙ ap rest_of (due-other book width i t) in
          absurd (omega (arith, q, l))

      zero-then : due_at book width i ≡ 0 → (t : Bool) → is_type book i ≡ t → Pending book width (suc i)
      zero-then e true h = typed_then h e
      zero-then e false h = other-then h e

      by : (d : ℕ) → due_at book width i ≡ d → Pending book width (suc i)
      by zero e = zero-then e (is_type book i) refl
      by (suc d) e =
          let p : Pending book width i = ih (omega (arith, e)) in
          let q : due_at book width (suc i) ≡ d = next-due book width i (suc d) e ∙ ap rest_of (due-names book width i d) in
          record { type = p.type; typed = p.typed; before = omega (arith, p.before); within = omega (arith, p.within, e, q) }

  pending : (i : ℕ) → 0 < due_at book width i → Pending book width i
  pending zero l = absurd (omega (arith, l, first-due book width))
  pending (suc i) l = pending-step i (pending i) l

module _ (book : List ℕ) (width : ℕ) (v : ValidBook book) where
  -- none is due at a type block
  type-due : (t : ℕ) → is_type book t ≡ true → due_at book width t ≡ 0
  type-due t y = by (due_at book width t) refl
    where
      by : (d : ℕ) → due_at book width t ≡ d → due_at book width t ≡ 0
      by zero e = e
      by (suc d) e =
          let p : Pending book width t = pending book width t (omega (arith, e)) in
          let j : ℕ = t - (p.type + 1) in
          let q : p.type + 1 + j ≡ t = omega (arith, p.before) in
          let f : is_type book (p.type + 1 + j) ≡ false =
          rest-other book p.type j (valid-type book v p.type p.typed) (omega (arith, p.within, p.before, e)) in
          true-apart (sym y ∙ rw q at f)

  module _ (t : ℕ) (y : is_type book t ≡ true) where
    at-type : due_of book width t (due_at book width t) ≡ due_type book t (category_of book width t)
    at-type = ap (due_of book width t) (type-due t y) ∙ due-typed book width t y

    pub alias-taken : is_followed false book width t ≡ true → Taken book width t
    unfolding due_type is_followed
    alias-taken e = record { due = 0; names = at-type ∙ rw e }

    element-taken : parts_kind (category_of book width t) ≡ parts.Element → Taken book width t
    unfolding due_type due_parts
    element-taken e = record { due = 0; names = at-type ∙ by (goes_on false (category_of book width t)) refl }
      where
        by : (g : Bool) → goes_on false (category_of book width t) ≡ g → due_type book t (category_of book width t) ≡ Names 0
        by true h = rw h
        by false h = rw (h, e)

    module _ (e : parts_kind (category_of book width t) ≡ parts.Fields) where
      no-alias : (g : Bool) → is_followed false book width t ≡ g → g ≡ false
      no-alias true h = kind-apart (ap parts_kind (sym (followed_alias book width t h)) ∙ e)
      no-alias false h = refl

      fields-due : due_at book width (suc t) ≡ fields_of book t
      unfolding due_type due_parts is_followed
      fields-due =
          let h : goes_on false (category_of book width t) ≡ false = no-alias (is_followed false book width t) refl in
          let q : due_type book t (category_of book width t) ≡ Rest (fields_of book t) = rw (h, e) in
          next-due book width t 0 (type-due t y) ∙ ap rest_of (due-typed book width t y ∙ q)

      field-due : (m : ℕ) → m ≤ fields_of book t → due_at book width (suc (t + m)) ≡ fields_of book t - m
      field-due zero l =
          let q : t + 0 ≡ t = omega arith in
          let o : fields_of book t - 0 ≡ fields_of book t = omega arith in
          rw (q, o) fields-due
      field-due (suc m) l =
          let ih : due_at book width (suc (t + m)) ≡ fields_of book t - m = field-due m (omega arith) in
          let q : t + suc m ≡ suc (t + m) = omega arith in
          let o : fields_of book t - m ≡ suc (fields_of book t - suc m) = omega arith in
          rw q (next-due book width (suc (t + m)) (suc (fields_of book t - suc m)) (ih ∙ o) ∙ ap rest_of (due-names book width (suc (t + m)) (fields_of book t - suc m)))

      field-taken : (b : ℕ) → t < b → b ≤ t + fields_of book t → Taken book width b
      field-taken b l h =
          let m : ℕ = b - (t + 1) in
          let q : suc (t + m) ≡ b = omega arith in
          let o : fields_of book t - m ≡ suc (fields_of book t - suc m) = omega arith in
          let d : due_at book width b ≡ suc (fields_of book t - suc m) = rw q at (field-due m (omega arith)) ∙ o in
          record { due = fields_of book t - suc m; names = ap (due_of book width b) d ∙ due-names book width b (fields_of book t - suc m) }

    in_after : (k b : ℕ) → Memᴰ b (blocks_after t k) → (t < b) × (b ≤ t + k)
    unfolding blocks_after
    in_after zero b m = absurd (Memᴰ.not-nil m)
    in_after (suc k) b m =
        ⊎_elim (λ e. (omega (arith, e), omega (arith, e))) (λ n. let r = in_after k b n in (r.0, omega (arith, r.1))) (Memᴰ.cases_cons m)

    pub parts-taken : (b : ℕ) → Memᴰ b (parts_of book width t) → Taken book width b
    unfolding parts_of parts_in
    parts-taken b m = by (parts_kind (category_of book width t)) refl m
      where
        by : (k : ScratchParts) → parts_kind (category_of book width t) ≡ k → Memᴰ b (parts_in book t k) → Taken book width b
        by parts.Element e m = let q : b ≡ t = Memᴰ.eq_of_singleton m in rw q (element-taken e)
        by parts.Fields e m = let r = in_after (fields_of book t) b m in field-taken e b r.0 r.1
        by parts.Nothing e m = absurd (Memᴰ.not-nil m)

parts_same : (a b : List ℕ) (i : ℕ) → fields_of a i ≡ fields_of b i → (k : ScratchParts) → due_parts a i k ≡ due_parts b i k
unfolding due_parts
parts_same a b i e parts.Element = refl
parts_same a b i e parts.Fields = ap Rest e
parts_same a b i e parts.Nothing = refl

type-same : (a b : List ℕ) (i : ℕ) → fields_of a i ≡ fields_of b i → (c : AdsTypeCategory) → due_type a i c ≡ due_type b i c
unfolding due_type
type-same a b i e c = ap (λ (x : Due). cond (goes_on false c) (Names 0) x) (parts_same a b i e (parts_kind c))

-- what is due at a block stays so as the book grows
pub same_kind : (book more : List ℕ) → ValidBook book → (i : ℕ) → i < blocks book → is_type (book ++ more) i ≡ is_type book i
same_kind book more v i l = rw (same_byte (book ++ more) book i i (join-old book more v i l) 0 (omega arith))

module _ (book more : List ℕ) (width : ℕ) (v : ValidBook book) (i : ℕ) (l : i < blocks book) where
  pub due-stays : (due : ℕ) → due_of (book ++ more) width i due ≡ due_of book width i due
  due-stays (suc d) = due-names (book ++ more) width i d ∙ sym (due-names book width i d)
  due-stays zero = by (is_type book i) refl
    where
      typed : is_type book i ≡ true → due_of (book ++ more) width i 0 ≡ due_of book width i 0
      typed h =
          let s : SameType book i (book ++ more) i = same-type book (book ++ more) i i v h (same-sym _ _ i i (join_kept book more v i h)) in
          due-typed (book ++ more) width i (same_kind book more v i l ∙ h)
          ∙ rw (← s.category width) (type-same (book ++ more) book i (sym s.fields) (category_of book width i))
          ∙ sym (due-typed book width i h)

      by : (t : Bool) → is_type book i ≡ t → due_of (book ++ more) width i 0 ≡ due_of book width i 0
      by true h = typed h
      by false h = due-other (book ++ more) width i (same_kind book more v i l ∙ h) ∙ sym (due-other book width i h)
