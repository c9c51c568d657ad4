-- `missing_types` for a root however it is given: what its functions owe at each exit. Assumes nothing.
use mathlib.Core.Path.{◌≡◌, refl, sym, ◌∙◌}
use mathlib.Core.Bool.{Bool, true, false, not}
use mathlib.Core.List.{List, [], ◌∷◌}
use Prim.Native.Nat.{ℕ, ◌<◌}
use native.Mathlib.Omega.{arith}
use lib.ListN.{length, take, drop, set, replicate}
use borrow.Author.Tests.{not-true, not-false, leb-true}
use Rattle.type_index.specs.Index.{index_fits}
use Rattle.type_book_check.specs.Check.{check_root}
use Rattle.type_book_check.specs.Given.{Given, number, lacking_root, check_given}
use Rattle.type_book_check.specs.declared.GivenRoot.{GivenRoot}
use Rattle.type_book_check.specs.declared.GivenRoot.TheVariants as given
use Rattle.type_book_check.proofs.Givens.{given-at-refused, given-at-lacking, given-at-block, at-number}
use Rattle.resolve_walk.specs.Scratch.{scratch_fits, list_fits}
use Rattle.resolve_missing_types.specs.declared.Missing.{Missing}
use Rattle.resolve_missing_types.specs.declared.Missing.TheVariants as missing
use Rattle.resolve_missing_types.specs.Calls.{missing_fits, missing_answer, missing_call, missing_list, MissingIn, MissingIs}
use Rattle.resolve_missing_types.specs.State.{OneMore}
use Rattle.resolve_missing_types.specs.Given.{lacking_answer, lacking_list, MissingLackingIn, given_missing, GivenMissingIs}
use Rattle.resolve_missing_types.proofs.Numbers.{missing_says}

-- ---- a name that the book lacks

-- the first number of a list that has one
set_first : (list : List ℕ) (x : ℕ) → 0 < length list → set list 0 x ≡ x ∷ drop 1 list
set_first [] x l = absurd (omega arith)
set_first (y ∷ ys) x l = refl

-- a list that is long enough has a number
pub lacking-room : (g : Bool) → not g ≡ false → (list : List ℕ) → g ≡ list_fits list → 0 < length list
lacking-room g h list e = let p = leb-true 4096 (length list) (sym e ∙ not-false g h) in omega arith

module _ (index sc list : List ℕ) where
  short : missing_fits index sc list ≡ false → MissingLackingIn (missing_fits index sc list) sc list (missing.Refused 6) sc list
  unfolding lacking_answer lacking_list
  short h = record { answer = missing_says _ _ (rw h); scratch = rw h; blocks = rw h }

  module _ (i : Bool) (ei : i ≡ index_fits index) where
    pub lacking-index : not i ≡ true → MissingLackingIn (missing_fits index sc list) sc list (missing.Refused 6) sc list
    lacking-index h = short (rw (sym ei ∙ not-true i h))

    module _ (b : not i ≡ false) (g : Bool) (e : g ≡ scratch_fits sc) where
      pub lacking-scratch : not g ≡ true → MissingLackingIn (missing_fits index sc list) sc list (missing.Refused 6) sc list
      lacking-scratch h = short (rw (sym ei ∙ not-false i b, sym e ∙ not-true g h))

      module _ (s : not g ≡ false) (k : Bool) (q : k ≡ list_fits list) where
        pub lacking-list : not k ≡ true → MissingLackingIn (missing_fits index sc list) sc list (missing.Refused 6) sc list
        lacking-list h = short (rw (sym ei ∙ not-false i b, sym e ∙ not-false g s, sym q ∙ not-true k h))

        pub lacking-fits : not k ≡ false → {sc' : List ℕ} → sc' ≡ replicate (length sc) 0 → (n : ℕ) {list' : List ℕ} → OneMore list 0 lacking_root n list'
            → MissingLackingIn (missing_fits index sc list) sc list (missing.Listed n true 1) sc' list'
        unfolding lacking_answer lacking_list
        lacking-fits h z n o =
            rw (sym ei ∙ not-false i b, sym e ∙ not-false g s, sym q ∙ not-false k h, o.count)
            (record { answer = refl; scratch = z; blocks = o.blocks ∙ set_first list lacking_root (lacking-room k h list q) })

-- ---- 1 to 5, 23

module _ (buffer : List ℕ) (len : ℕ) (root : Given) (k : GivenRoot) (e : k ≡ check_given buffer len root) (index : List ℕ) (width : ℕ) (sc list : List ℕ) where
  pub given_missing_refused : (n : ℕ) → k ≡ given.Refused n → GivenMissingIs buffer len index width root sc list (missing.Refused n) sc list
  unfolding given_missing
  given_missing_refused n h =
      record {
        answer = missing_says _ _ (given-at-refused _ _ _ k e n h);
        scratch = given-at-refused (λ n. sc) _ _ k e n h;
        blocks = given-at-refused (λ n. list) _ _ k e n h;
      }

  pub given_missing_lacking : k ≡ given.Lacking → {sc' list' : List ℕ} {r : Missing} → MissingLackingIn (missing_fits index sc list) sc list r sc' list'
      → GivenMissingIs buffer len index width root sc list r sc' list'
  unfolding given_missing
  given_missing_lacking h q =
      record {
        answer = q.answer ∙ missing_says _ _ (given-at-lacking _ _ _ k e h);
        scratch = q.scratch ∙ given-at-lacking _ _ _ k e h;
        blocks = q.blocks ∙ given-at-lacking _ _ _ k e h;
      }

  pub given_missing_block : (t : ℕ) → k ≡ given.Block t → {sc' list' : List ℕ} {r : Missing}
      → MissingIn (missing_fits index sc list) (take len buffer) width t sc list r sc' list'
      → GivenMissingIs buffer len index width root sc list r sc' list'
  unfolding given_missing
  given_missing_block t h q =
      record {
        answer = q.answer ∙ missing_says _ _ (given-at-block _ _ _ k e t h);
        scratch = q.scratch ∙ given-at-block _ _ _ k e t h;
        blocks = q.blocks ∙ given-at-block _ _ _ k e t h;
      }

-- the call by a number is the instance: what it promises is what is promised of a root that is given by that number
pub missing_by-number : (buffer : List ℕ) (len : ℕ) (index : List ℕ) (width n : ℕ) (sc list : List ℕ) (r : Missing) (sc' list' : List ℕ)
    → GivenMissingIs buffer len index width (number n) sc list r sc' list' → MissingIs buffer len index width n sc list r sc' list'
unfolding given_missing missing_call
missing_by-number buffer len index width n sc list r sc' list' q =
    record {
      answer = q.answer ∙ missing_says _ _ (at-number _ _ _ buffer len n);
      scratch = q.scratch ∙ at-number _ _ _ buffer len n;
      blocks = q.blocks ∙ at-number _ _ _ buffer len n;
    }
