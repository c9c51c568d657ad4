-- `missing_types`: what its functions owe at each exit. Assumes nothing.
use mathlib.Core.Path.{◌≡◌, sym, ◌∙◌}
use mathlib.Core.Bool.{Bool, true, false, not, ◌&&◌}
use mathlib.Core.List.{List}
use Prim.Native.Nat.{ℕ}
use lib.ListN.{length, take, replicate}
use borrow.Author.Tests.{not-true, not-false, eq-eqb, ne_eqb}
use Rattle.type_book_check.specs.declared.RootCheck.{RootCheck}
use Rattle.type_book_check.specs.declared.RootCheck.TheVariants as checked
use Rattle.type_book_check.specs.Check.{check_root}
use Rattle.type_book_check.proofs.Roots.{at-refused, at_block}
use Rattle.type_index.specs.declared.Trust.{Trust}
use Rattle.type_index.specs.Index.{index_fits}
use Rattle.type_index.specs.Trust.{trust_then, Trusted}
use Rattle.type_index.proofs.Trusts.{then-trusted}
use Rattle.resolve_walk.specs.Scratch.{scratch_fits, list_fits}
use Rattle.resolve_walk.proofs.Zeros.{zeros-again}
use Rattle.resolve_missing_types.specs.declared.Missing.{Missing}
use Rattle.resolve_missing_types.specs.declared.Missing.TheVariants as missing
use Rattle.resolve_missing_types.specs.Calls.{missing_fits, missing_answer, missing_call, missing_list, WalkedTo, MissingIn, MissingIs}
use Rattle.resolve_missing_types.specs.State.{Learned}
use Rattle.resolve_missing_types.proofs.Numbers.{missing_says}

-- ---- a book that was checked: the scratch is cleared before the walk and after it

pub missing_done : (book : List ℕ) (width t : ℕ) (sc sc₁ : List ℕ) → sc₁ ≡ replicate (length sc) 0 → (sc₂ : List ℕ) → length sc₂ ≡ length sc₁ → {sc₃ : List ℕ} → sc₃ ≡ replicate (length sc₂) 0
    → {list list' : List ℕ} {r : Missing} → WalkedTo book width t list r list' → MissingIn true book width t sc list r sc₃ list'
missing_done book width t sc sc₁ z sc₂ e y w = record { answer = missing_says _ _ w.answer; scratch = zeros-again sc sc₁ z sc₂ e y; blocks = w.blocks }

-- ---- what is known of the index

module _ (book index : List ℕ) (t : Trust) (k : Trusted book index t) (before n : ℕ) where
  pub learn_same : before ≡ n → Learned book index t before n t
  learn_same e = record { is = sym (rw (eq-eqb before n e)); trusted = k }

  pub learn_held : (before ≡ n → ⊥) → (r : Trust) → r ≡ trust_then book index t → Learned book index t before n r
  learn_held ne r e = record { is = e ∙ sym (rw (ne_eqb before n ne)); trusted = then-trusted book index t r e k }

-- ---- 6

module _ (book : List ℕ) (width t : ℕ) (index sc list : List ℕ) where
  short : missing_fits index sc list ≡ false → MissingIn (missing_fits index sc list) book width t sc list (missing.Refused 6) sc list
  unfolding missing_answer missing_list
  short h = record { answer = missing_says _ _ (rw h); scratch = rw h; blocks = rw h }

  module _ (i : Bool) (ei : i ≡ index_fits index) where
    pub missing_index : not i ≡ true → MissingIn (missing_fits index sc list) book width t sc list (missing.Refused 6) sc list
    missing_index h = short (rw (sym ei ∙ not-true i h))

    module _ (b : not i ≡ false) (g : Bool) (e : g ≡ scratch_fits sc) where
      pub missing_scratch : not g ≡ true → MissingIn (missing_fits index sc list) book width t sc list (missing.Refused 6) sc list
      missing_scratch h = short (rw (sym ei ∙ not-false i b, sym e ∙ not-true g h))

      module _ (s : not g ≡ false) (k : Bool) (q : k ≡ list_fits list) where
        pub missing_list_lem : not k ≡ true → MissingIn (missing_fits index sc list) book width t sc list (missing.Refused 6) sc list
        missing_list_lem h = short (rw (sym ei ∙ not-false i b, sym e ∙ not-false g s, sym q ∙ not-true k h))

        pub missing_fits_lem : not k ≡ false → {sc' list' : List ℕ} {r : Missing} → MissingIn true book width t sc list r sc' list'
            → MissingIn (missing_fits index sc list) book width t sc list r sc' list'
        missing_fits_lem h m = rw (sym ei ∙ not-false i b, sym e ∙ not-false g s, sym q ∙ not-false k h) m

-- ---- 1 to 5

module _ (buffer : List ℕ) (len root : ℕ) (k : RootCheck) (e : k ≡ check_root buffer len root) (index : List ℕ) (width : ℕ) (sc list : List ℕ) where
  pub missing_refused : (n : ℕ) → k ≡ checked.Refused n → MissingIs buffer len index width root sc list (missing.Refused n) sc list
  unfolding missing_call
  missing_refused n h = record { answer = missing_says _ _ (at-refused _ _ k e n h); scratch = at-refused (λ n. sc) _ k e n h; blocks = at-refused (λ n. list) _ k e n h }

  pub missing_root : (t : ℕ) → k ≡ checked.Root t → {sc' list' : List ℕ} {r : Missing}
      → MissingIn (missing_fits index sc list) (take len buffer) width t sc list r sc' list'
      → MissingIs buffer len index width root sc list r sc' list'
  unfolding missing_call
  missing_root t h q =
      record { answer = q.answer ∙ missing_says _ _ (at_block _ _ k e t h); scratch = q.scratch ∙ at_block _ _ k e t h; blocks = q.blocks ∙ at_block _ _ k e t h }
