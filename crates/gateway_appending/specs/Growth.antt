-- Appending to a book that was checked once, by an index of its names, which goes on as the index of the longer book. Assumes nothing.
use Rattle.std.specs.Prelude.{◌≡◌, Bool, true, false, cond, List, [], ◌∷◌, ℕ, take, eqb}
use Rattle.type_book.specs.Book.{blocks}
use Rattle.type_index.specs.declared.Trust.{Trust}
use Rattle.type_index.specs.declared.Trust.TheVariants as trust
use Rattle.type_index.specs.Trust.{Trusted}
use Rattle.type_index_grow.specs.Grow.{takes, with_last}
use Rattle.type_book_check.specs.declared.BookCheck.TheVariants.{Valid}
use Rattle.type_book_check.specs.Check.{check_book}
use Rattle.type_cache.specs.declared.Appended.{Appended}
use Rattle.type_cache.specs.declared.Appended.TheVariants as appended
use Rattle.type_cache.specs.Append.{AppendIs}
use Rattle.plan_type_adds.specs.Knows.{length_then}
use Rattle.gateway_appending.specs.declared.Growth.{Growth}
use Rattle.gateway_appending.specs.declared.Growth.TheVariants.{Entered, Loose, Refused}

-- document 01's number and values of the answer: 0, the new length, and 1 where the index leads to every type of the longer book; or the refusal
unfoldable pub growth_numbers : Growth → List ℕ
growth_numbers (Entered n) = 0 ∷ n ∷ 1 ∷ []
growth_numbers (Loose n) = 0 ∷ n ∷ 0 ∷ []
growth_numbers (Refused n) = n ∷ []

-- what a caller says of its index: 1 that it leads to every type of the book
unfoldable pub trust_of : ℕ → Trust
trust_of held = cond (eqb held 1) trust.Held trust.Foreign

-- the answer without what it says of the index: that of `append`
unfoldable pub appended_of : Growth → Appended
appended_of (Entered n) = appended.Done n
appended_of (Loose n) = appended.Done n
appended_of (Refused n) = appended.Refused n

-- the length of the book that is left
abbrev pub length_of : ℕ → Growth → ℕ
length_of len r = length_then len (appended_of r)

-- what is known of the index then: a refusal changes nothing
unfoldable pub trust_after : Trust → Growth → Trust
trust_after t (Entered n) = trust.Held
trust_after t (Loose n) = trust.Foreign
trust_after t (Refused n) = t

-- an index that leads to every type of the book goes on where it takes the new one, block n of the longer book
unfoldable pub stays_trusted : Trust → List ℕ → List ℕ → ℕ → Bool
stays_trusted trust.Held longer index n = takes longer index n
stays_trusted trust.Unknown longer index n = false
stays_trusted trust.Foreign longer index n = false

-- whether it goes on, and every number of it then
pub record GoesIs (t : Trust) (longer index : List ℕ) (n : ℕ) (r : Bool) (index' : List ℕ) : Type 0 where
  pub answer : r ≡ stays_trusted t longer index n
  pub numbers : index' ≡ cond (stays_trusted t longer index n) (with_last longer index n) index

-- the index goes on or is as before, as the answer says; a refusal leaves it as before
unfoldable pub IndexIs : Trust → List ℕ → List ℕ → ℕ → Growth → List ℕ → Type 0
IndexIs t longer index n (Entered l) index' = GoesIs t longer index n true index'
IndexIs t longer index n (Loose l) index' = GoesIs t longer index n false index'
IndexIs t longer index n (Refused k) index' = index' ≡ index

-- answer and buffer are those of `append`; the book that is left is valid, the new type is in the index where that goes on, and what the answer
-- says of the index is so
pub record AppendedBy (buffer : List ℕ) (len : ℕ) (addition index : List ℕ) (t : Trust) (r : Growth) (after index' : List ℕ) : Type 0 where
  pub appends : AppendIs buffer len addition (appended_of r) after
  pub valid : check_book after (length_of len r) ≡ Valid
  pub numbers : IndexIs t (take (length_of len r) after) index (blocks (take len buffer)) r index'
  pub trusted : Trusted (take (length_of len r) after) index' (trust_after t r)
