-- `build_index`, over a book that fills the first `len` bytes of a buffer: refusals 1 to 4, then 6, else the index of the book's types.
-- Assumes nothing.
use Rattle.std.specs.Prelude.{◌≡◌, cond, List, [], ◌∷◌, ℕ, length, take, eqb}
use Rattle.enc_number.specs.Answer.{refusal_of}
use Rattle.enc_number.specs.Refusals as refusal
use Rattle.type_book_check.specs.Check.{check_book, book_numbers}
use Rattle.type_index.specs.Index.{index_fits, names_index}
use Rattle.type_index_build.specs.declared.Built.{Built}
use Rattle.type_index_build.specs.declared.Built.TheVariants as built

-- document 01's number of what `build_index` answers: 0, or the refusal
unfoldable pub built_numbers : Built → List ℕ
built_numbers built.Done = 0 ∷ []
built_numbers (built.Refused n) = n ∷ []

-- the answer for a valid book: 6 where the index has fewer than 16,384 numbers
unfoldable pub built_in : List ℕ → Built
built_in index = cond (index_fits index) built.Done (built.Refused refusal.too_few_lent)

-- the answer: 1 to 4 of the book first
unfoldable pub build_call : List ℕ → ℕ → List ℕ → Built
build_call buffer len index =
    let refusal = refusal_of (book_numbers (check_book buffer len)) in
    cond (eqb refusal 0) (built_in index) (built.Refused refusal)

-- every number of the index then, by the answer: the names of the book's types in all of it, or what it held
unfoldable pub built_index : Built → List ℕ → List ℕ → List ℕ
built_index built.Done book index = names_index book (length index)
built_index (built.Refused n) book index = index

-- what is answered for a valid book, and what the index holds then
pub record BuiltIn (book index : List ℕ) (r : Built) (index' : List ℕ) : Type 0 where
  pub answer : r ≡ built_in index
  pub numbers : index' ≡ built_index (built_in index) book index

-- the same for a book in a buffer
pub record BuiltIs (buffer : List ℕ) (len : ℕ) (index : List ℕ) (r : Built) (index' : List ℕ) : Type 0 where
  pub answer : built_numbers r ≡ built_numbers (build_call buffer len index)
  pub numbers : index' ≡ built_index (build_call buffer len index) (take len buffer) index
