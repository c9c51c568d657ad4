-- How a walk's stack and its visited blocks stand in numbers: the stack in scratch 0 to 4,095, a bit for each block visited in 4,096 to
-- 6,143, one for each hash of a name that the book lacks in 6,144 to 8,191; and what is done to them. No call of document 01 names this in its contract. Assumes nothing.
use Rattle.std.specs.Prelude.{◌≡◌, Bool, false, cond, ◌||◌, ◌&&◌, not, List, [], ◌∷◌, ◌++◌, ℕ, zero, suc, ◌+◌, ◌*◌, ◌-◌, ◌/◌, ◌%◌, ◌^◌, ◌≤◌, ◌<◌, length, get_or, set, eqb, ltb}
use Rattle.std.specs.Int.Bits.{bit_or}
use Rattle.type_book.specs.Book.{is_type, dimensions_of, fields_of, type_name_of, same_name}
use Rattle.type_marks.specs.Marks.{hash_of}
use Rattle.type_category.specs.declared.type_category.AdsTypeCategory.{AdsTypeCategory}
use Rattle.resolve_walk_scratch.specs.declared.ScratchParts.{ScratchParts}
use Rattle.resolve_walk_scratch.specs.declared.ScratchParts.TheVariants.{Element, Fields, Nothing}
use Rattle.resolve_walk_scratch.specs.declared.Taken.{Taken}
use Rattle.resolve_walk_scratch.specs.Parts.{blocks_after, parts_kind, parts_in}

-- ---- what the numbers stand for

-- an entry t * 65536 + k: the k blocks after t, the last one first; with k = 0, t itself
unfoldable pub stack_entry : ℕ → ℕ → List ℕ
stack_entry t zero = t ∷ []
stack_entry t (suc k) = blocks_after t (suc k)

-- the blocks on the stack of so many entries, the top one first
unfoldable pub stack_of : List ℕ → ℕ → List ℕ
stack_of sc zero = []
stack_of sc (suc d) = stack_entry (get_or sc d 0 / 65536) (get_or sc d 0 % 65536) ++ stack_of sc d

-- the bit of block t is set
unfoldable pub marked_in : List ℕ → ℕ → Bool
marked_in sc t = eqb (get_or sc (4096 + t / 32) 0 / 2 ^ (t % 32) % 2) 1

-- block b names a type as a field or as an array; an alias, which has no dimensions, does not
unfoldable pub is_part : List ℕ → ℕ → Bool
is_part book b = not (is_type book b) || ltb 0 (dimensions_of book b)

-- a listed block names it as a part
unfoldable pub names_it : List ℕ → ℕ → List ℕ → Bool
names_it book b x = same_name (type_name_of book b) x && is_part book b

-- one of the listed blocks names it as a part
unfoldable pub has_ref : List ℕ → List ℕ → List ℕ → Bool
has_ref book [] x = false
has_ref book (b ∷ bs) x = names_it book b x || has_ref book bs x

-- the bit of a name that the book lacks, by its hash: it stands after those of the 65,536 blocks
unfoldable pub lacking_bit : List ℕ → ℕ
lacking_bit name = 65536 + hash_of name % 65536

-- a name that the book lacks was visited: its bit is set, and a listed block names it as a part
unfoldable pub was_listed : List ℕ → List ℕ → List ℕ → List ℕ → Bool
was_listed book sc ls x = marked_in sc (lacking_bit x) && has_ref book ls x

-- bit t stands in the scratch
pub record BitIn (sc : List ℕ) (t : ℕ) : Type 0 where
  pub low : t < 131072
  pub room : 4096 + t / 32 < length sc

-- ---- the numbers after a call

-- the scratch with the bit of block t set
unfoldable pub marked_on : List ℕ → ℕ → List ℕ
marked_on sc t = set sc (4096 + t / 32) (bit_or (get_or sc (4096 + t / 32) 0) (2 ^ (t % 32)))

-- the top entry of a stack of so many
abbrev pub top_entry : List ℕ → ℕ → ℕ
top_entry sc depth = get_or sc (depth - 1) 0

-- an entry stands for more than one block
abbrev pub is_run : ℕ → Bool
is_run e = ltb 1 (e % 65536)

-- the block that is taken off the top entry, and the entries left: the top one is left while it stands for more blocks
unfoldable pub taken_at : List ℕ → ℕ → Taken
taken_at sc depth =
    record {
      block = top_entry sc depth / 65536 + top_entry sc depth % 65536;
      depth = cond (is_run (top_entry sc depth)) depth (depth - 1);
    }

-- the scratch then: a top entry that is left stands for one block less
unfoldable pub taken_from : List ℕ → ℕ → List ℕ
taken_from sc depth = cond (is_run (top_entry sc depth)) (set sc (depth - 1) (top_entry sc depth - 1)) sc

-- the entries on the stack once the parts of type block t are laid on, by their kind: one more, where it has parts
unfoldable pub pushed_to : List ℕ → ℕ → ℕ → ScratchParts → ℕ
pushed_to book depth t Element = depth + 1
pushed_to book depth t Fields = cond (eqb (fields_of book t) 0) depth (depth + 1)
pushed_to book depth t Nothing = depth

-- the scratch then: the new entry stands for block t itself, or for the blocks of its fields
unfoldable pub pushed_on : List ℕ → List ℕ → ℕ → ℕ → ScratchParts → List ℕ
pushed_on book sc depth t Element = set sc depth (t * 65536)
pushed_on book sc depth t Fields = cond (eqb (fields_of book t) 0) sc (set sc depth (t * 65536 + fields_of book t))
pushed_on book sc depth t Nothing = sc

-- ---- what the calls promise

-- the top block is taken off; the answer and every number of the scratch are fixed
pub record Took (sc : List ℕ) (depth : ℕ) (r : Taken) (sc' : List ℕ) : Type 0 where
  pub top : stack_of sc depth ≡ r.block ∷ stack_of sc' r.depth
  pub marks : (u : ℕ) → marked_in sc' u ≡ marked_in sc u
  pub less : r.depth ≤ depth
  pub taken : r ≡ taken_at sc depth
  pub numbers : sc' ≡ taken_from sc depth

-- the parts of type t, of category c, are laid on; the answer and every number of the scratch are fixed
pub record Pushed (book : List ℕ) (c : AdsTypeCategory) (sc : List ℕ) (depth t r : ℕ) (sc' : List ℕ) : Type 0 where
  pub top : stack_of sc' r ≡ parts_in book t (parts_kind c) ++ stack_of sc depth
  pub marks : (u : ℕ) → marked_in sc' u ≡ marked_in sc u
  pub more : r ≤ depth + 1
  pub few : length (stack_of sc' r) < 65536 + length (stack_of sc depth)
  pub place : r ≡ pushed_to book depth t (parts_kind c)
  pub numbers : sc' ≡ pushed_on book sc depth t (parts_kind c)

-- the bit of block t is set now, and no other bit and no entry changed; every number of the scratch is fixed
pub record BlockMarked (sc : List ℕ) (t : ℕ) (sc' : List ℕ) : Type 0 where
  pub stack : (d : ℕ) → d ≤ 4096 → stack_of sc' d ≡ stack_of sc d
  pub marks : (u : ℕ) → marked_in sc' u ≡ eqb t u || marked_in sc u
  pub numbers : sc' ≡ marked_on sc t

-- type block t is marked, and the parts of type u, of category c, are laid on; the answer and every number of the scratch are fixed
pub record MarkedAndPushed (book : List ℕ) (c : AdsTypeCategory) (sc : List ℕ) (depth t u r : ℕ) (sc' : List ℕ) : Type 0 where
  pub top : stack_of sc' r ≡ parts_in book u (parts_kind c) ++ stack_of sc depth
  pub marks : (u : ℕ) → marked_in sc' u ≡ eqb t u || marked_in sc u
  pub more : r ≤ depth + 1
  pub few : length (stack_of sc' r) < 65536 + length (stack_of sc depth)
  pub place : r ≡ pushed_to book depth u (parts_kind c)
  pub numbers : sc' ≡ pushed_on book (marked_on sc t) depth u (parts_kind c)
