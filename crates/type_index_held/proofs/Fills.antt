-- The ways out of the two functions. Assumes nothing.
use mathlib.Core.Path.{◌≡◌, refl, sym, ap, ◌∙◌}
use mathlib.Core.Bool.{Bool, true, false, not, ◌&&◌, and-true, and-false}
use mathlib.Core.List.{List}
use Prim.Native.Nat.{ℕ, suc, ◌+◌, ◌-◌, ◌≤◌, ◌<◌}
use native.Mathlib.Omega.{arith}
use lib.ListN.{length, set, replicate, length-replicate}
use lib.Seq.{set_out}
use borrow.Author.Tests.{lt-ltb, le-ltb, not-true, not-false}
use Rattle.type_book.specs.Book.{is_type, name_of}
use Rattle.type_provider.specs.Find.{searched}
use Rattle.type_index.specs.declared.Trust.TheVariants as trust
use Rattle.type_index.specs.Index.{free_of, entered, entered_from, names_index}
use Rattle.type_index_held.specs.Held.{finds_slot, fit_from, all_fit, HeldNext, FilledIs}

and_assoc : (a b c : Bool) → (a && b) && c ≡ a && (b && c)
and_assoc true b c = refl
and_assoc false b c = refl

-- ---- one block more
module _ (book index : List ℕ) (n : ℕ) (all : Bool) (t : Bool) (et : t ≡ is_type book n) where
  pub enters_other : not t ≡ true → HeldNext book index n all all index
  unfolding finds_slot entered
  enters_other h =
      let f : is_type book n ≡ false = sym et ∙ not-true t h in
      record { answer = sym (rw f (and-true all)); numbers = sym (rw f) }

  module _ (h : not t ≡ false) (name : List ℕ) (en : name ≡ name_of book n) (at : ℕ) (ea : at ≡ free_of book index name) where
    kind : is_type book n ≡ true
    kind = sym et ∙ not-false t h

    place : free_of book index (name_of book n) ≡ at
    place = sym (rw (← en) ea)

    pub enters_not : length index ≤ at → HeldNext book index n all false index
    unfolding finds_slot entered
    enters_not l = record { answer = sym (rw (kind, place, le-ltb at (length index) l) (and-false all)); numbers = sym (rw (kind, place) (set_out index at (n + 1) l)) }

    pub enters_in : at < length index → HeldNext book index n all all (set index at (n + 1))
    unfolding finds_slot entered
    enters_in l = record { answer = sym (rw (kind, place, lt-ltb at (length index) l) (and-true all)); numbers = sym (rw (kind, place)) }

-- ---- all blocks

-- what is left to enter gives the whole index, and what is said of all types
pub record Filling (book : List ℕ) (len n i : ℕ) (index : List ℕ) (all : Bool) : Type 0 where
  pub names : entered_from book index i (n - i) ≡ names_index book len
  pub fit : all && fit_from book index i (n - i) ≡ all_fit book len

module _ (book before start : List ℕ) (es : start ≡ replicate (length before) 0) (n : ℕ) where
  long : length start ≡ length before
  long = ap length es ∙ length-replicate (length before) 0

  pub filling_start : n ≡ searched book → Filling book (length start) n 0 start true
  unfolding names_index all_fit
  filling_start en =
      let q : n - 0 ≡ searched book = omega arith in
      record {
        names = ap (λ (xs : List ℕ). entered_from book xs 0 (n - 0)) es ∙ rw (q, long);
        fit = ap (λ (xs : List ℕ). fit_from book xs 0 (n - 0)) es ∙ rw (q, long);
      }

  module _ (i : ℕ) (index : List ℕ) (all : Bool) (inv : Filling book (length start) n i index all) (l : n ≤ i) where
    none_left : n - i ≡ 0
    none_left = omega arith

    numbers : index ≡ names_index book (length before)
    unfolding entered_from
    numbers = rw (← long) (ap (entered_from book index i) (sym none_left) ∙ inv.names)

    told : all ≡ all_fit book (length before)
    unfolding fit_from
    told = rw (← long) (sym (and-true all) ∙ ap (λ (k : ℕ). all && fit_from book index i k) (sym none_left) ∙ inv.fit)

    pub fill-all : all ≡ true → FilledIs book (length before) trust.Held index
    fill-all h = record { answer = sym (rw (← told, h)); numbers = numbers }

    pub fill-some : all ≡ false → FilledIs book (length before) trust.Foreign index
    fill-some h = record { answer = sym (rw (← told, h)); numbers = numbers }

module _ (book : List ℕ) (len n i : ℕ) (index : List ℕ) (all : Bool) (inv : Filling book len n i index all) where
  pub filling_again : i < n → (r : Bool) (index' : List ℕ) → HeldNext book index i all r index' → Filling book len n (i + 1) index' r
  unfolding entered_from fit_from
  filling_again l r index' e =
      let q : n - i ≡ suc (n - (i + 1)) = omega arith in
      record {
        names = rw e.numbers (ap (entered_from book index i) (sym q) ∙ inv.names);
        fit = rw (e.answer, e.numbers) (and_assoc all (finds_slot book index i) _ ∙ ap (λ (k : ℕ). all && fit_from book index i k) (sym q) ∙ inv.fit);
      }
