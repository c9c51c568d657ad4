-- The two calls, over a book that fills the first `len` bytes of a buffer: refusals 1 to 5, or 23, first, then 7 and 8. Assumes nothing.
use Rattle.std.specs.Prelude.{Bool, true, false, List, [], ◌∷◌, ℕ, take}
use Rattle.enc_number.specs.Answer.{refusal_of}
use Rattle.enc_number.specs.Refusals as refusal
use Rattle.type_book_check.specs.Check.{check_root, at_root}
use Rattle.type_book_check.specs.Given.{Given, lacking_root, check_given, at_given}
use Rattle.resolvers.specs.declared.Resolved.{Resolved}
use Rattle.resolvers.specs.declared.Resolved.TheVariants as resolved
use Rattle.resolvers.specs.declared.Resolution.{Resolution}
use Rattle.resolvers.specs.declared.Resolution.TheVariants.{Block, NotFound, Refused}
use Rattle.resolvers.specs.Resolve.{resolved_numbers, resolve_type}

-- document 01's number and value of an answer: 0 and the block, 7 and the block whose type name is not found, or another refusal
unfoldable pub resolution_numbers : Resolution → List ℕ
resolution_numbers (Block b) = 0 ∷ b ∷ []
resolution_numbers (NotFound b) = refusal.not_found ∷ b ∷ []
resolution_numbers (Refused n) = n ∷ []

-- ---- resolve_alias, resolve_indirection

-- what a chain comes to, as a call answers it: the block, 7 with its block, or 8
unfoldable pub resolution : Resolved → Resolution
resolution (resolved.Base u) = Block u
resolution (resolved.NotFound c) = NotFound c
resolution resolved.TooLong = Refused (refusal_of (resolved_numbers resolved.TooLong))

-- the root with aliases resolved, and references too where they are followed: 1 to 5 first, then 7 or 8
unfoldable pub root_resolution : Bool → List ℕ → ℕ → ℕ → ℕ → Resolution
root_resolution references buffer len width root =
    at_root Refused (λ t. resolution (resolve_type references (take len buffer) width t)) (check_root buffer len root)

-- the same for a root however it is given: a name that the book lacks is 7 with the number of a lacking root. `root_resolution` is its instance for a
-- number
unfoldable pub given_resolution : Bool → List ℕ → ℕ → ℕ → Given → Resolution
given_resolution references buffer len width root =
    at_given Refused (NotFound lacking_root) (λ t. resolution (resolve_type references (take len buffer) width t)) (check_given buffer len root)

-- the root, with aliases resolved
abbrev pub root_alias : List ℕ → ℕ → ℕ → ℕ → Resolution
root_alias = root_resolution false

-- the root, with aliases and references resolved
abbrev pub root_indirection : List ℕ → ℕ → ℕ → ℕ → Resolution
root_indirection = root_resolution true
