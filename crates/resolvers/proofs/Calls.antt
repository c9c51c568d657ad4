-- The calls, after 1 to 5: one law for each way out. Assumes nothing.
use mathlib.Core.Path.{◌≡◌, sym, ◌∙◌}
use mathlib.Core.Bool.{Bool, true}
use mathlib.Core.List.{List}
use Prim.Native.Nat.{ℕ, ◌≤◌}
use lib.ListN.{length, take}
use lib.Seq.{length-take-le}
use Rattle.type_book.specs.Book.{is_type}
use Rattle.type_book_check.specs.declared.RootCheck.{RootCheck}
use Rattle.type_book_check.specs.declared.RootCheck.TheVariants as checked
use Rattle.type_book_check.specs.Check.{ValidBook, check_root}
use Rattle.type_book_check.proofs.Valid.{root-valid}
use Rattle.type_book_check.proofs.Roots.{at-refused, at_block}
use Rattle.type_book_check.specs.Given.{Given, number, lacking_root, check_given}
use Rattle.type_book_check.specs.declared.GivenRoot.{GivenRoot}
use Rattle.type_book_check.specs.declared.GivenRoot.TheVariants as given
use Rattle.type_book_check.proofs.Givens.{given-at-refused, given-at-lacking, given-at-block, at-number}
use Rattle.resolvers.specs.declared.Resolved.{Resolved}
use Rattle.resolvers.specs.declared.Resolved.TheVariants as resolved
use Rattle.resolvers.specs.declared.Resolution.{Resolution}
use Rattle.resolvers.specs.declared.Resolution.TheVariants.{Block, NotFound, Refused}
use Rattle.resolvers.specs.Resolve.{resolved_numbers, resolve_type, ResolvedIs}
use Rattle.resolvers.specs.Calls.{resolution, root_resolution, given_resolution}
use Rattle.resolvers.proofs.Numbers.{resolved-is}

-- ---- what a chain comes to, as a call answers it

module _ {book : List ℕ} (whole r : Resolved) (q : ResolvedIs book whole r) where
  pub resolution-base : (u : ℕ) → r ≡ resolved.Base u → Block u ≡ resolution whole
  unfolding resolution
  resolution-base u h = rw (← resolved-is r whole q.is, h)

  pub resolution-lacks : (c : ℕ) → r ≡ resolved.NotFound c → NotFound c ≡ resolution whole
  unfolding resolution
  resolution-lacks c h = rw (← resolved-is r whole q.is, h)

  pub resolution-endless : r ≡ resolved.TooLong → Refused 8 ≡ resolution whole
  unfolding resolution resolved_numbers
  resolution-endless h = rw (← resolved-is r whole q.is, h)

-- ---- the root

-- a book that passed 1 to 5 lies in its buffer
pub root-fits : (buffer : List ℕ) (len root t : ℕ) → check_root buffer len root ≡ checked.Root t → len ≤ length buffer
root-fits buffer len root t h = (root-valid buffer len root t h).fits

module _ (buffer : List ℕ) (len root : ℕ) (k : RootCheck) (e : k ≡ check_root buffer len root) where
  module _ (t : ℕ) (h : k ≡ checked.Root t) where
    pub root-room : len ≤ length buffer
    root-room = root-fits buffer len root t (sym e ∙ h)

    pub root-cut : len ≡ length (take len buffer)
    root-cut = sym (length-take-le len buffer root-room)

    pub root-book : ValidBook (take len buffer)
    root-book = (root-valid buffer len root t (sym e ∙ h)).valid

    pub root-type : is_type (take len buffer) t ≡ true
    root-type = (root-valid buffer len root t (sym e ∙ h)).kind

  module _ (references : Bool) (width : ℕ) where
    pub call_refused : (n : ℕ) → k ≡ checked.Refused n → Refused n ≡ root_resolution references buffer len width root
    unfolding root_resolution
    call_refused n h = at-refused Refused (λ t. resolution (resolve_type references (take len buffer) width t)) k e n h

    pub call_root : (t : ℕ) → k ≡ checked.Root t → (r : Resolution) → r ≡ resolution (resolve_type references (take len buffer) width t)
        → r ≡ root_resolution references buffer len width root
    unfolding root_resolution
    call_root t h r q = q ∙ at_block Refused (λ t. resolution (resolve_type references (take len buffer) width t)) k e t h

-- ---- the root however it is given

module _ (buffer : List ℕ) (len : ℕ) (root : Given) (k : GivenRoot) (e : k ≡ check_given buffer len root) (references : Bool) (width : ℕ) where
  pub given_call_refused : (n : ℕ) → k ≡ given.Refused n → Refused n ≡ given_resolution references buffer len width root
  unfolding given_resolution
  given_call_refused n h =
      given-at-refused Refused (NotFound lacking_root) (λ t. resolution (resolve_type references (take len buffer) width t)) k e n h

  pub given_call_lacking : k ≡ given.Lacking → NotFound lacking_root ≡ given_resolution references buffer len width root
  unfolding given_resolution
  given_call_lacking h =
      given-at-lacking Refused (NotFound lacking_root) (λ t. resolution (resolve_type references (take len buffer) width t)) k e h

  pub given_call_block : (t : ℕ) → k ≡ given.Block t → (r : Resolution) → r ≡ resolution (resolve_type references (take len buffer) width t)
      → r ≡ given_resolution references buffer len width root
  unfolding given_resolution
  given_call_block t h r q =
      q ∙ given-at-block Refused (NotFound lacking_root) (λ t. resolution (resolve_type references (take len buffer) width t)) k e t h

-- the call by a number is the instance
pub resolution-by-number : (references : Bool) (buffer : List ℕ) (len width n : ℕ)
    → given_resolution references buffer len width (number n) ≡ root_resolution references buffer len width n
unfolding given_resolution root_resolution
resolution-by-number references buffer len width n =
    at-number Refused (NotFound lacking_root) (λ t. resolution (resolve_type references (take len buffer) width t)) buffer len n
