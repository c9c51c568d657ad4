-- `missing_types` for a root however it is given: a name that the book lacks is the one that is missing (change request 5). Assumes nothing.
use Rattle.std.specs.Prelude.{◌≡◌, Bool, true, false, cond, List, ◌∷◌, ℕ, take, drop}
use Rattle.enc_number.specs.Refusals as refusal
use Rattle.type_book_check.specs.Given.{Given, lacking_root, check_given, at_given}
use Rattle.resolve_walk.specs.Scratch.{zeroed}
use Rattle.resolve_missing_types.specs.declared.Missing.{Missing}
use Rattle.resolve_missing_types.specs.declared.Missing.TheVariants as missing
use Rattle.resolve_missing_types.specs.Calls.{missing_numbers, missing_fits, missing_answer, missing_list}

-- of a name that a valid book lacks: the single number that stands for it, whole, one name met; 6 where what is lent doesn't fit
unfoldable pub lacking_answer : Bool → Missing
lacking_answer true = missing.Listed 1 true 1
lacking_answer false = missing.Refused refusal.too_few_lent

-- that number, and after it the list as it was
unfoldable pub lacking_list : Bool → List ℕ → List ℕ
lacking_list true list = lacking_root ∷ drop 1 list
lacking_list false list = list

-- what is answered for a name that a valid book lacks, and what scratch and list hold then
pub record MissingLackingIn (fits : Bool) (sc list : List ℕ) (r : Missing) (sc' list' : List ℕ) : Type 0 where
  pub answer : missing_numbers r ≡ missing_numbers (lacking_answer fits)
  pub scratch : sc' ≡ cond fits (zeroed sc) sc
  pub blocks : list' ≡ lacking_list fits list

-- the answer for a book in a buffer and a root: 1 to 5, or 23, first; `missing_call` is its instance for a number
unfoldable pub given_missing : List ℕ → ℕ → List ℕ → ℕ → Given → List ℕ → List ℕ → Missing
given_missing buffer len index width root sc list =
    at_given missing.Refused (lacking_answer (missing_fits index sc list)) (λ t. missing_answer (missing_fits index sc list) (take len buffer) width t)
    (check_given buffer len root)

-- the same for a book in a buffer and a root: 1 to 6 and 23 leave scratch and list as they were. `MissingIs` is its instance for a number
pub record GivenMissingIs (buffer : List ℕ) (len : ℕ) (index : List ℕ) (width : ℕ) (root : Given) (sc list : List ℕ) (r : Missing) (sc' list' : List ℕ) : Type 0 where
  pub answer : missing_numbers r ≡ missing_numbers (given_missing buffer len index width root sc list)
  pub scratch : sc' ≡ at_given (λ n. sc) (cond (missing_fits index sc list) (zeroed sc) sc) (λ t. cond (missing_fits index sc list) (zeroed sc) sc) (check_given buffer len root)
  pub blocks : list' ≡ at_given (λ n. list) (lacking_list (missing_fits index sc list) list) (λ t. missing_list (missing_fits index sc list) (take len buffer) width t list) (check_given buffer len root)
