-- Which blocks name a type that their own type is made of; and adding it. Assumes nothing.
use mathlib.Core.Path.{◌≡◌, refl, sym, ap, ◌∙◌}
use mathlib.Core.Bool.{Bool, true, false}
use mathlib.Core.List.{List}
use Prim.Native.Nat.{ℕ, zero, suc, ◌-◌, ◌≤◌, ◌<◌}
use native.Mathlib.Omega.{arith}
use lib.ListN.{take}
use Rattle.type_book.specs.Book.{is_type, fields_of}
use Rattle.type_category.specs.declared.type_category.AdsTypeCategory.{AdsTypeCategory}
use Rattle.type_category.specs.Category.{category_of}
use Rattle.resolvers.specs.Resolve.{goes_on}
use Rattle.resolve_walk_scratch.specs.declared.ScratchParts.{ScratchParts}
use Rattle.resolve_walk_scratch.specs.declared.ScratchParts.TheVariants as parts
use Rattle.resolve_walk_scratch.specs.Parts.{parts_kind}
use Rattle.closure.specs.Calls.{Ours}
use Rattle.std.specs.Prelude.{Result, Ok, Err}
use Rattle.std.specs.Result.{result_unwrap_or}
use Rattle.plan_adds.specs.declared.Unfetched.{Unfetched}
use Rattle.plan_adds.specs.declared.Unfetched.TheVariants as unfetched
use Rattle.plan_adds.specs.declared.Due.{Due}
use Rattle.plan_adds.specs.declared.Due.TheVariants.{Names, Rest}
use Rattle.plan_adds.specs.declared.Swept.{Swept}
use Rattle.plan_adds.specs.Adds.{ours, passing, due_parts, due_type, due_of, sweep_by}
use Rattle.plan_adds.specs.State.{Ready, fetched_length, fetched_said, FetchedIs, SweptIs}
use Rattle.plan_adds.proofs.Fetches.{kept-all}

module _ (book : List ℕ) (i : ℕ) (category : AdsTypeCategory) (t : Bool) (e : t ≡ goes_on false category) where
  pub due-alias : t ≡ true → Names 0 ≡ due_type book i category
  unfolding due_type
  due-alias h = rw (← e, h)

  module _ (h : t ≡ false) (k : ScratchParts) (ek : k ≡ parts_kind category) where
    onward : due_type book i category ≡ due_parts book i k
    unfolding due_type
    onward = rw (← e, h, ← ek)

    pub due-element : k ≡ parts.Element → Names 0 ≡ due_type book i category
    unfolding due_parts
    due-element g = sym (onward ∙ rw g)

    pub due-fields : k ≡ parts.Fields → (n : ℕ) → n ≡ fields_of book i → Rest n ≡ due_type book i category
    unfolding due_parts
    due-fields g n en = sym (onward ∙ rw (g, en))

    pub due-nothing : k ≡ parts.Nothing → Rest 0 ≡ due_type book i category
    unfolding due_parts
    due-nothing g = sym (onward ∙ rw g)

pub due-field : (book : List ℕ) (width i due : ℕ) → 0 < due → Names (due - 1) ≡ due_of book width i due
unfolding due_of
due-field book width i zero h = absurd (omega arith)
due-field book width i (suc due) h = let q : suc due - 1 ≡ due = omega arith in ap Names q

module _ (book : List ℕ) (width i due : ℕ) (z : due ≤ 0) (t : Bool) (e : t ≡ is_type book i) where
  none : due ≡ 0
  none = omega arith

  pub due_of_type : t ≡ true → (category : AdsTypeCategory) → category ≡ category_of book width i → (r : Due) → r ≡ due_type book i category → r ≡ due_of book width i due
  unfolding due_of
  due_of_type h category ec r er = er ∙ rw (none, ← e, h, ← ec)

  pub due-other : t ≡ false → Rest 0 ≡ due_of book width i due
  unfolding due_of
  due-other h = rw (none, ← e, h)

-- ---- one block that is swept
abbrev swept : ℕ → ℕ → Swept
swept len due = record { len = len; due = due }

module _ (c : List ℕ) (width i due : ℕ) (buffer : List ℕ) (len : ℕ) (d : Due) (ed : d ≡ due_of (take len buffer) width i due) (k : ℕ) where
  pub block-rest : d ≡ Rest k → (known : List ℕ) → Ready c buffer len known → SweptIs c width i due buffer len (swept len k) buffer known
  unfolding sweep_by
  block-rest h known o = record { is = λ go. rw (← ed, h); ready = o; kept = kept-all buffer len }

  module _ (h : d ≡ Names k) (f : Result ℕ Unfetched) (after known : List ℕ) (o : FetchedIs c i buffer len f after known) where
    named : (go : ℕ → Ours → Ours) → sweep_by go c i (ours buffer len) (due_of (take len buffer) width i due) ≡ go k (passing (fetched_said i len f after))
    unfolding sweep_by
    named go = rw (← ed, h, o.is)

    passed : (f : Result ℕ Unfetched) → passing (fetched_said i len f after) ≡ ours after (fetched_length len f)
    unfolding fetched_said passing
    passed (Ok l) = refl
    passed (Err unfetched.NotFound) = refl
    passed (Err unfetched.Full) = refl

    kept_length : (f : Result ℕ Unfetched) → result_unwrap_or f len ≡ fetched_length len f
    kept_length (Ok l) = refl
    kept_length (Err e) = refl

    -- a type that is not added leaves the length as it was
    pub block-named : (l : ℕ) → l ≡ result_unwrap_or f len → SweptIs c width i due buffer len (swept l k) after known
    block-named l e = let q : l ≡ fetched_length len f = e ∙ kept_length f in record { is = λ go. sym (named go ∙ rw (passed f, ← q)); ready = rw q o.ready; kept = rw q o.kept }
