-- `requires_read_modify_write` for a root however it is given (change request 5). Assumes nothing.
use Rattle.std.specs.Prelude.{◌≡◌, Bool, true, false, cond, List, ℕ, take}
use Rattle.enc_number.specs.Refusals as refusal
use Rattle.type_book_check.specs.Given.{Given, lacking_root, check_given, at_given}
use Rattle.resolve_walk.specs.Scratch.{zeroed}
use Rattle.resolve_read_modify_write.specs.declared.Rmw.{Rmw}
use Rattle.resolve_read_modify_write.specs.declared.Rmw.TheVariants as rmw
use Rattle.resolve_read_modify_write.specs.Calls.{rmw_numbers, rmw_fits, rmw_answer}

-- of a name that a valid book lacks: 7 with the number that stands for it, after 6
unfoldable pub lacking_rmw : Bool → Rmw
lacking_rmw true = rmw.NotFound lacking_root
lacking_rmw false = rmw.Refused refusal.too_few_lent

-- what is answered for a name that a valid book lacks, and what the scratch holds then
pub record RmwLackingIn (fits : Bool) (sc : List ℕ) (r : Rmw) (sc' : List ℕ) : Type 0 where
  pub answer : rmw_numbers r ≡ rmw_numbers (lacking_rmw fits)
  pub scratch : sc' ≡ cond fits (zeroed sc) sc

-- the answer for a book in a buffer and a root: 1 to 5, or 23, first; `rmw_call` is its instance for a number
unfoldable pub given_rmw : List ℕ → ℕ → List ℕ → ℕ → Given → List ℕ → Rmw
given_rmw buffer len index width root sc =
    at_given rmw.Refused (lacking_rmw (rmw_fits index sc)) (λ t. rmw_answer (rmw_fits index sc) (take len buffer) width t) (check_given buffer len root)

-- the same for a book in a buffer and a root: 1 to 6 and 23 leave the scratch as it was. `RmwIs` is its instance for a number
pub record GivenRmwIs (buffer : List ℕ) (len : ℕ) (index : List ℕ) (width : ℕ) (root : Given) (sc : List ℕ) (r : Rmw) (sc' : List ℕ) : Type 0 where
  pub answer : rmw_numbers r ≡ rmw_numbers (given_rmw buffer len index width root sc)
  pub scratch : sc' ≡ at_given (λ n. sc) (cond (rmw_fits index sc) (zeroed sc) sc) (λ t. cond (rmw_fits index sc) (zeroed sc) sc) (check_given buffer len root)
