-- `requires_read_modify_write`: what its functions owe at each exit. Assumes nothing.
use mathlib.Core.Path.{◌≡◌, sym, ◌∙◌}
use mathlib.Core.Bool.{Bool, true, false, not, ◌&&◌}
use mathlib.Core.List.{List}
use Prim.Native.Nat.{ℕ}
use lib.ListN.{length, take, replicate}
use borrow.Author.Tests.{not-true, not-false}
use Rattle.type_book_check.specs.declared.RootCheck.{RootCheck}
use Rattle.type_book_check.specs.declared.RootCheck.TheVariants as checked
use Rattle.type_book_check.specs.Check.{check_root}
use Rattle.type_book_check.proofs.Roots.{at-refused, at_block}
use Rattle.type_index.specs.Index.{index_fits}
use Rattle.resolve_walk.specs.Scratch.{scratch_fits}
use Rattle.resolve_walk.proofs.Zeros.{zeros-again}
use Rattle.resolve_read_modify_write.specs.declared.Rmw.{Rmw}
use Rattle.resolve_read_modify_write.specs.declared.Rmw.TheVariants as rmw
use Rattle.resolve_read_modify_write.specs.Calls.{rmw_fits, rmw_answer, rmw_call, RmwIn, RmwIs}
use Rattle.resolve_read_modify_write.proofs.Numbers.{rmw_says}

-- ---- a book that was checked: the scratch is cleared before the walk and after it

pub rmw_done : (book : List ℕ) (width t : ℕ) (sc sc₁ : List ℕ) → sc₁ ≡ replicate (length sc) 0 → (sc₂ : List ℕ) → length sc₂ ≡ length sc₁ → {sc₃ : List ℕ} → sc₃ ≡ replicate (length sc₂) 0
    → {r : Rmw} → r ≡ rmw_answer true book width t → RmwIn true book width t sc r sc₃
rmw_done book width t sc sc₁ z sc₂ e y w = record { answer = rmw_says _ _ w; scratch = zeros-again sc sc₁ z sc₂ e y }

-- ---- 6

module _ (book : List ℕ) (width t : ℕ) (index sc : List ℕ) where
  short : rmw_fits index sc ≡ false → RmwIn (rmw_fits index sc) book width t sc (rmw.Refused 6) sc
  unfolding rmw_answer
  short h = record { answer = rmw_says _ _ (rw h); scratch = rw h }

  module _ (i : Bool) (ei : i ≡ index_fits index) where
    pub rmw_index : not i ≡ true → RmwIn (rmw_fits index sc) book width t sc (rmw.Refused 6) sc
    rmw_index h = short (rw (sym ei ∙ not-true i h))

    module _ (b : not i ≡ false) (g : Bool) (e : g ≡ scratch_fits sc) where
      pub rmw_scratch : not g ≡ true → RmwIn (rmw_fits index sc) book width t sc (rmw.Refused 6) sc
      rmw_scratch h = short (rw (sym ei ∙ not-false i b, sym e ∙ not-true g h))

      pub rmw_fits_lem : not g ≡ false → {sc' : List ℕ} {r : Rmw} → RmwIn true book width t sc r sc' → RmwIn (rmw_fits index sc) book width t sc r sc'
      rmw_fits_lem h q = rw (sym ei ∙ not-false i b, sym e ∙ not-false g h) q

-- ---- 1 to 5

module _ (buffer : List ℕ) (len root : ℕ) (k : RootCheck) (e : k ≡ check_root buffer len root) (index : List ℕ) (width : ℕ) (sc : List ℕ) where
  pub rmw_refused : (n : ℕ) → k ≡ checked.Refused n → RmwIs buffer len index width root sc (rmw.Refused n) sc
  unfolding rmw_call
  rmw_refused n h = record { answer = rmw_says _ _ (at-refused _ _ k e n h); scratch = at-refused (λ n. sc) _ k e n h }

  pub rmw_root : (t : ℕ) → k ≡ checked.Root t → {sc' : List ℕ} {r : Rmw} → RmwIn (rmw_fits index sc) (take len buffer) width t sc r sc'
      → RmwIs buffer len index width root sc r sc'
  unfolding rmw_call
  rmw_root t h q = record { answer = q.answer ∙ rmw_says _ _ (at_block _ _ k e t h); scratch = q.scratch ∙ at_block _ _ k e t h }
