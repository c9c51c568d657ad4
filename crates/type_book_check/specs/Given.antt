-- A root as a call is given it, by its block's number or by its name, and what it stands for in a book (change request 5; refusals 5 and 23).
-- Assumes nothing.
use Rattle.std.specs.Prelude.{Bool, cond, ◌&&◌, List, [], ◌∷◌, ℕ, length, take, eqb, leb, Option, Some, None}
use Rattle.enc_number.specs.Answer.{refusal_of}
use Rattle.enc_number.specs.Refusals as refusal
use Rattle.type_provider.specs.Find.{find}
use Rattle.type_block_form.specs.Form.{every, is_printable}
use Rattle.type_book_check.specs.Check.{check_book, book_numbers, root_of}
use Rattle.type_book_check.specs.declared.RootCheck.{RootCheck}
use Rattle.type_book_check.specs.declared.RootCheck.TheVariants as checked
use Rattle.type_book_check.specs.declared.GivenRoot.{GivenRoot}
use Rattle.type_book_check.specs.declared.GivenRoot.TheVariants.{Block, Lacking, Refused}

-- a root is given by the number of its block, or by its name
pub data Given : Type 0 where
  number : ℕ → Given
  name : List ℕ → Given

-- the number that stands for a root's name which the book lacks; as a block's number it is 5
abbrev pub lacking_root : ℕ
lacking_root = 4294967295

-- the paper's number and value of what a root stands for: 0 and its block, 7 and the number of a lacking root, or another refusal
unfoldable pub given_numbers : GivenRoot → List ℕ
given_numbers (Block n) = 0 ∷ n ∷ []
given_numbers Lacking = refusal.not_found ∷ lacking_root ∷ []
given_numbers (Refused n) = n ∷ []

-- 23 otherwise: a root's name has 0 to 200 bytes, each 20h to 7Eh
unfoldable pub is_root_name : List ℕ → Bool
is_root_name bytes = leb (length bytes) 200 && every is_printable bytes

-- a root given by number is a block or refused, and never lacking
unfoldable pub numbered_root : RootCheck → GivenRoot
numbered_root (checked.Root n) = Block n
numbered_root (checked.Refused n) = Refused n

-- a root given by name is the block that the look-up finds, or lacking
unfoldable pub found_root : Option ℕ → GivenRoot
found_root (Some n) = Block n
found_root None = Lacking

-- what a root stands for in a valid book: 5 for a number that is no type block's, 23 in its place for a name that is not of the form
unfoldable pub given_root : List ℕ → Given → GivenRoot
given_root book (number n) = numbered_root (root_of book n)
given_root book (name bytes) = cond (is_root_name bytes) (found_root (find book bytes)) (Refused refusal.wrong_root_name)

-- what a root stands for in the book that fills the first `len` bytes of a buffer: 1 to 4 before 5 or 23
unfoldable pub check_given : List ℕ → ℕ → Given → GivenRoot
check_given buffer len root =
    cond (eqb (refusal_of (book_numbers (check_book buffer len))) 0)
    (given_root (take len buffer) root)
    (Refused (refusal_of (book_numbers (check_book buffer len))))

-- what a call answers to a root: its refusal for 1 to 5 and 23, what it says of a lacking name, or what is said of the root block
unfoldable pub at_given : {A : Type 0} → (ℕ → A) → A → (ℕ → A) → GivenRoot → A
at_given refuse lacking go (Block t) = go t
at_given refuse lacking go Lacking = lacking
at_given refuse lacking go (Refused n) = refuse n
