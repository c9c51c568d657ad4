-- `missing_types`, over a book that fills the first `len` bytes of a buffer: refusals 1 to 5, then 6, else what is read in the walk.
-- Assumes nothing.
use Rattle.std.specs.Prelude.{◌≡◌, Bool, true, false, cond, ◌&&◌, List, [], ◌∷◌, ◌++◌, ℕ, length, take, drop}
use Rattle.enc_number.specs.Answer.{truth_number}
use Rattle.enc_number.specs.Refusals as refusal
use Rattle.type_index.specs.Index.{index_fits}
use Rattle.type_book_check.specs.Check.{check_root, at_root}
use Rattle.resolve_walk.specs.Walk.{walk_of}
use Rattle.resolve_walk.specs.Reads.{count, listed, whole}
use Rattle.resolve_walk.specs.Scratch.{scratch_fits, list_fits, zeroed}
use Rattle.resolve_missing_types.specs.declared.Missing.{Missing}
use Rattle.resolve_missing_types.specs.declared.Missing.TheVariants as missing

-- document 01's number and values of what `missing_types` answers: 0 and how many blocks are listed, the mark "whole" as 1 or 0 and how many
-- distinct names were met, or the refusal
unfoldable pub missing_numbers : Missing → List ℕ
missing_numbers (missing.Listed n whole count) = 0 ∷ n ∷ truth_number whole ∷ count ∷ []
missing_numbers (missing.Refused n) = n ∷ []

-- 6: index, scratch and list are long enough
abbrev pub missing_fits : List ℕ → List ℕ → List ℕ → Bool
missing_fits index sc list = index_fits index && (scratch_fits sc && list_fits list)

-- how many blocks are listed, the mark "whole", and the number of distinct names met
unfoldable pub missing_answer : Bool → List ℕ → ℕ → ℕ → Missing
missing_answer true book width t =
    missing.Listed (length (listed (walk_of book width t))) (whole (walk_of book width t)) (count (walk_of book width t))
missing_answer false book width t = missing.Refused refusal.too_few_lent

-- the blocks listed, and after them the list as it was
unfoldable pub missing_list : Bool → List ℕ → ℕ → ℕ → List ℕ → List ℕ
missing_list true book width t list = listed (walk_of book width t) ++ drop (length (listed (walk_of book width t))) list
missing_list false book width t list = list

-- what the walk of type block t answers, and what the list holds then
pub record WalkedTo (book : List ℕ) (width t : ℕ) (list : List ℕ) (r : Missing) (list' : List ℕ) : Type 0 where
  pub answer : r ≡ missing_answer true book width t
  pub blocks : list' ≡ missing_list true book width t list

-- what is answered, and what scratch and list hold then, for type block t of a valid book
pub record MissingIn (fits : Bool) (book : List ℕ) (width t : ℕ) (sc list : List ℕ) (r : Missing) (sc' list' : List ℕ) : Type 0 where
  pub answer : missing_numbers r ≡ missing_numbers (missing_answer fits book width t)
  pub scratch : sc' ≡ cond fits (zeroed sc) sc
  pub blocks : list' ≡ missing_list fits book width t list

-- the answer for a book in a buffer and a root: 1 to 5 first. Of the index only its length counts, whatever it holds
unfoldable pub missing_call : List ℕ → ℕ → List ℕ → ℕ → ℕ → List ℕ → List ℕ → Missing
missing_call buffer len index width root sc list =
    at_root missing.Refused (λ t. missing_answer (missing_fits index sc list) (take len buffer) width t) (check_root buffer len root)

-- the same for a book in a buffer and a root: 1 to 6 leave scratch and list as they were
pub record MissingIs (buffer : List ℕ) (len : ℕ) (index : List ℕ) (width root : ℕ) (sc list : List ℕ) (r : Missing) (sc' list' : List ℕ) : Type 0 where
  pub answer : missing_numbers r ≡ missing_numbers (missing_call buffer len index width root sc list)
  pub scratch : sc' ≡ at_root (λ n. sc) (λ t. cond (missing_fits index sc list) (zeroed sc) sc) (check_root buffer len root)
  pub blocks : list' ≡ at_root (λ n. list) (λ t. missing_list (missing_fits index sc list) (take len buffer) width t list) (check_root buffer len root)
