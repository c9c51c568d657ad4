-- `requires_read_modify_write` for a root however it is given: what its functions owe at each exit. Assumes nothing.
use mathlib.Core.Path.{◌≡◌, refl, sym, ◌∙◌}
use mathlib.Core.Bool.{Bool, true, false, not}
use mathlib.Core.List.{List}
use Prim.Native.Nat.{ℕ}
use lib.ListN.{length, take, replicate}
use borrow.Author.Tests.{not-true, not-false}
use Rattle.type_index.specs.Index.{index_fits}
use Rattle.type_book_check.specs.Check.{check_root}
use Rattle.type_book_check.specs.Given.{Given, number, lacking_root, check_given}
use Rattle.type_book_check.specs.declared.GivenRoot.{GivenRoot}
use Rattle.type_book_check.specs.declared.GivenRoot.TheVariants as given
use Rattle.type_book_check.proofs.Givens.{given-at-refused, given-at-lacking, given-at-block, at-number}
use Rattle.resolve_walk.specs.Scratch.{scratch_fits}
use Rattle.resolve_read_modify_write.specs.declared.Rmw.{Rmw}
use Rattle.resolve_read_modify_write.specs.declared.Rmw.TheVariants as rmw
use Rattle.resolve_read_modify_write.specs.Calls.{rmw_fits, rmw_answer, rmw_call, RmwIn, RmwIs}
use Rattle.resolve_read_modify_write.specs.Given.{lacking_rmw, RmwLackingIn, given_rmw, GivenRmwIs}
use Rattle.resolve_read_modify_write.proofs.Numbers.{rmw_says}

-- ---- a name that the book lacks

module _ (index sc : List ℕ) where
  short : rmw_fits index sc ≡ false → RmwLackingIn (rmw_fits index sc) sc (rmw.Refused 6) sc
  unfolding lacking_rmw
  short h = record { answer = rmw_says _ _ (rw h); scratch = rw h }

  module _ (i : Bool) (ei : i ≡ index_fits index) where
    pub lacking-index : not i ≡ true → RmwLackingIn (rmw_fits index sc) sc (rmw.Refused 6) sc
    lacking-index h = short (rw (sym ei ∙ not-true i h))

    module _ (b : not i ≡ false) (g : Bool) (e : g ≡ scratch_fits sc) where
      pub lacking-scratch : not g ≡ true → RmwLackingIn (rmw_fits index sc) sc (rmw.Refused 6) sc
      lacking-scratch h = short (rw (sym ei ∙ not-false i b, sym e ∙ not-true g h))

      pub lacking-fits : not g ≡ false → {sc' : List ℕ} → sc' ≡ replicate (length sc) 0 → RmwLackingIn (rmw_fits index sc) sc (rmw.NotFound lacking_root) sc'
      unfolding lacking_rmw
      lacking-fits h z = rw (sym ei ∙ not-false i b, sym e ∙ not-false g h) (record { answer = refl; scratch = z })

-- ---- 1 to 5, 23

module _ (buffer : List ℕ) (len : ℕ) (root : Given) (k : GivenRoot) (e : k ≡ check_given buffer len root) (index : List ℕ) (width : ℕ) (sc : List ℕ) where
  pub given_rmw_refused : (n : ℕ) → k ≡ given.Refused n → GivenRmwIs buffer len index width root sc (rmw.Refused n) sc
  unfolding given_rmw
  given_rmw_refused n h =
      record { answer = rmw_says _ _ (given-at-refused _ _ _ k e n h); scratch = given-at-refused (λ n. sc) _ _ k e n h }

  pub given_rmw_lacking : k ≡ given.Lacking → {sc' : List ℕ} {r : Rmw} → RmwLackingIn (rmw_fits index sc) sc r sc' → GivenRmwIs buffer len index width root sc r sc'
  unfolding given_rmw
  given_rmw_lacking h q =
      record { answer = q.answer ∙ rmw_says _ _ (given-at-lacking _ _ _ k e h); scratch = q.scratch ∙ given-at-lacking _ _ _ k e h }

  pub given_rmw_block : (t : ℕ) → k ≡ given.Block t → {sc' : List ℕ} {r : Rmw} → RmwIn (rmw_fits index sc) (take len buffer) width t sc r sc'
      → GivenRmwIs buffer len index width root sc r sc'
  unfolding given_rmw
  given_rmw_block t h q =
      record { answer = q.answer ∙ rmw_says _ _ (given-at-block _ _ _ k e t h); scratch = q.scratch ∙ given-at-block _ _ _ k e t h }

-- the call by a number is the instance: what it promises is what is promised of a root that is given by that number
pub rmw_by-number : (buffer : List ℕ) (len : ℕ) (index : List ℕ) (width n : ℕ) (sc : List ℕ) (r : Rmw) (sc' : List ℕ)
    → GivenRmwIs buffer len index width (number n) sc r sc' → RmwIs buffer len index width n sc r sc'
unfolding given_rmw rmw_call
rmw_by-number buffer len index width n sc r sc' q =
    record { answer = q.answer ∙ rmw_says _ _ (at-number _ _ _ buffer len n); scratch = q.scratch ∙ at-number _ _ _ buffer len n }
