-- `requires_read_modify_write`, over a book that fills the first `len` bytes of a buffer: refusals 1 to 5, then 6, then those of the walk.
-- Assumes nothing.
use Rattle.std.specs.Prelude.{◌≡◌, Bool, true, false, cond, ◌&&◌, List, [], ◌∷◌, ℕ, take}
use Rattle.enc_number.specs.Answer.{truth_number}
use Rattle.enc_number.specs.Refusals as refusal
use Rattle.type_index.specs.Index.{index_fits}
use Rattle.type_book_check.specs.Check.{check_root, at_root}
use Rattle.resolve_walk.specs.Walk.{walk_of}
use Rattle.resolve_walk.specs.Scratch.{scratch_fits, zeroed}
use Rattle.resolve_read_modify_write.specs.declared.Rmw.{Rmw}
use Rattle.resolve_read_modify_write.specs.declared.Rmw.TheVariants as rmw
use Rattle.resolve_read_modify_write.specs.Reads.{rmw_of}

-- document 01's number and value of an answer: 0 and 1 for yes or 0 for no, 7 and the block whose type name is not found, or another refusal
unfoldable pub rmw_numbers : Rmw → List ℕ
rmw_numbers rmw.Yes = 0 ∷ truth_number true ∷ []
rmw_numbers rmw.No = 0 ∷ truth_number false ∷ []
rmw_numbers (rmw.NotFound b) = refusal.not_found ∷ b ∷ []
rmw_numbers (rmw.Refused n) = n ∷ []

-- 6: index and scratch are long enough
abbrev pub rmw_fits : List ℕ → List ℕ → Bool
rmw_fits index sc = index_fits index && scratch_fits sc

-- the answer for type block t of a valid book, where what is lent fits or not
unfoldable pub rmw_answer : Bool → List ℕ → ℕ → ℕ → Rmw
rmw_answer true book width t = rmw_of book width (walk_of book width t)
rmw_answer false book width t = rmw.Refused refusal.too_few_lent

-- what is answered, and what the scratch holds then, for type block t of a valid book
pub record RmwIn (fits : Bool) (book : List ℕ) (width t : ℕ) (sc : List ℕ) (r : Rmw) (sc' : List ℕ) : Type 0 where
  pub answer : rmw_numbers r ≡ rmw_numbers (rmw_answer fits book width t)
  pub scratch : sc' ≡ cond fits (zeroed sc) sc

-- the answer for a book in a buffer and a root: 1 to 5 first. Of the index only its length counts, whatever it holds
unfoldable pub rmw_call : List ℕ → ℕ → List ℕ → ℕ → ℕ → List ℕ → Rmw
rmw_call buffer len index width root sc =
    at_root rmw.Refused (λ t. rmw_answer (rmw_fits index sc) (take len buffer) width t) (check_root buffer len root)

-- the same for a book in a buffer and a root: 1 to 6 leave the scratch as it was
pub record RmwIs (buffer : List ℕ) (len : ℕ) (index : List ℕ) (width root : ℕ) (sc : List ℕ) (r : Rmw) (sc' : List ℕ) : Type 0 where
  pub answer : rmw_numbers r ≡ rmw_numbers (rmw_call buffer len index width root sc)
  pub scratch : sc' ≡ at_root (λ n. sc) (λ t. cond (rmw_fits index sc) (zeroed sc) sc) (check_root buffer len root)
