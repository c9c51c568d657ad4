-- An index of the names of a book's types: where a name is tried in it, what the look-up by it answers, and what a new one holds. A number of
-- an index says nothing if it is 0, and else stands for the block whose number is one less. Assumes nothing.
use Rattle.std.specs.Prelude.{◌≡◌, Bool, cond, ◌&&◌, List, ℕ, zero, suc, ◌+◌, ◌-◌, ◌*◌, ◌/◌, min, length, get_or, set, replicate, eqb, ltb, leb, Option, Some, None}
use Rattle.type_book.specs.Book.{is_type, name_of, type_name_of, is_named}
use Rattle.type_marks.specs.Marks.{hash_of}
use Rattle.type_provider.specs.Find.{searched, find, found_numbers, NamedBlock, UniqueNames}

-- 6: the index has at least 16,384 numbers
abbrev pub index_fits : List ℕ → Bool
index_fits index = leb 16384 (length index)

-- ---- where a name is tried

-- how many of the len numbers of an index are slots for names: all, but one for each block of the book where it has three for each; those past
-- the slots are the blocks' hints
unfoldable pub slots_of : List ℕ → ℕ → ℕ
slots_of book len = cond (ltb (len / 3) (searched book)) len (len - searched book)

-- the name's place among n slots: its hash of 32 bits in the proportion of n to 2^32
unfoldable pub slot_for : List ℕ → ℕ → ℕ
slot_for name n = hash_of name * min n 4294967295 / 4294967296

-- the slot after another: the last of n is followed by the first
unfoldable pub next_of : ℕ → ℕ → ℕ
next_of n at = cond (ltb (at + 1) n) (at + 1) 0

-- the type block that a number of the index stands for, if it is one of that name
unfoldable pub led_to : List ℕ → List ℕ → ℕ → Option ℕ
led_to book name zero = None
led_to book name (suc n) = cond (ltb n (searched book) && is_named book name n) (Some n) None

-- the first that is found
unfoldable pub first_found : Option ℕ → Option ℕ → Option ℕ
first_found (Some n) f = Some n
first_found None f = f

-- ---- the look-up

-- the type block of that name among k slots from slot `at` on; an empty slot ends the search
unfoldable pub probe_from : List ℕ → List ℕ → List ℕ → ℕ → ℕ → ℕ → Option ℕ
probe_from book index name n at zero = None
probe_from book index name n at (suc k) =
    cond (eqb (get_or index at 0) 0) None (first_found (led_to book name (get_or index at 0)) (probe_from book index name n (next_of n at) k))

-- the type block of that name to which the index leads: 64 slots from the name's place on are tried
unfoldable pub probe_of : List ℕ → List ℕ → List ℕ → Option ℕ
probe_of book index name = probe_from book index name (slots_of book (length index)) (slot_for name (slots_of book (length index))) 64

-- what the look-up by an index answers, whatever the index holds
pub record FoundBy (book name : List ℕ) (r : Option ℕ) : Type 0 where
  pub at : (n : ℕ) → found_numbers r ≡ found_numbers (Some n) → NamedBlock book name n
  pub nothing : found_numbers r ≡ found_numbers None → found_numbers (find book name) ≡ found_numbers None
  pub unique : UniqueNames book → found_numbers r ≡ found_numbers (find book name)

-- ---- what a new index holds

-- the first empty slot among k slots from slot `at` on, or the index's length
unfoldable pub free_from : List ℕ → ℕ → ℕ → ℕ → ℕ
free_from index n at zero = length index
free_from index n at (suc k) = cond (eqb (get_or index at 0) 0) at (free_from index n (next_of n at) k)

-- the first empty slot of the 64 from the name's place on, or the index's length
unfoldable pub free_of : List ℕ → List ℕ → List ℕ → ℕ
free_of book index name = free_from index (slots_of book (length index)) (slot_for name (slots_of book (length index))) 64

-- the index with block n in it, if it is a type block; one for which no slot is free is left out
unfoldable pub entered : List ℕ → List ℕ → ℕ → List ℕ
entered book index n = cond (is_type book n) (set index (free_of book index (name_of book n)) (n + 1)) index

-- the index with the k blocks from block n on in it, in their order
unfoldable pub entered_from : List ℕ → List ℕ → ℕ → ℕ → List ℕ
entered_from book index n zero = index
entered_from book index n (suc k) = entered_from book (entered book index n) (n + 1) k

-- an index of len numbers of the book's types; what is no type's slot is 0
unfoldable pub names_index : List ℕ → ℕ → List ℕ
names_index book len = entered_from book (replicate len 0) 0 (searched book)

-- ---- hints

-- the hint for a block, by the type to which the index leads by the block's type name
unfoldable pub hint_for : Option ℕ → ℕ
hint_for (Some t) = t + 1
hint_for None = 0

-- the index with k hints, for the blocks from block b on, past its slots
unfoldable pub hints_from : List ℕ → List ℕ → ℕ → ℕ → List ℕ
hints_from book index b zero = index
hints_from book index b (suc k) =
    hints_from book (set index (slots_of book (length index) + b) (hint_for (probe_of book index (type_name_of book b)))) (b + 1) k

-- the index with a hint for each block, where it is long enough for them
unfoldable pub hinted_index : List ℕ → List ℕ → List ℕ
hinted_index book index = hints_from book index 0 (length index - slots_of book (length index))
