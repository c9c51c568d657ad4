-- The adds of a plan: what an ask listed, and what types of our book are made of. c is the controller's book throughout. Assumes nothing.
use Rattle.std.specs.Prelude.{false, cond, List, [], ◌∷◌, ℕ, zero, suc, ◌+◌, ◌-◌, eqb, ltb, Option, Some, None}
use Rattle.enc_number.specs.Refusals as refusal
use Rattle.type_book.specs.Book.{blocks, is_type, fields_of, type_name_of}
use Rattle.type_provider.specs.Find.{find}
use Rattle.type_category.specs.declared.type_category.AdsTypeCategory.{AdsTypeCategory}
use Rattle.type_category.specs.Category.{category_of}
use Rattle.type_cache.specs.Append.{append_refusal}
use Rattle.type_cache.specs.Same.{definition_of}
use Rattle.resolvers.specs.Resolve.{goes_on}
use Rattle.resolve_walk_scratch.specs.declared.ScratchParts.{ScratchParts}
use Rattle.resolve_walk_scratch.specs.declared.ScratchParts.TheVariants as parts
use Rattle.resolve_walk_scratch.specs.Parts.{parts_kind}
use Rattle.closure.specs.Calls.{Ours, book_of, add, next}
use Rattle.plan_adds.specs.declared.Due.{Due}
use Rattle.plan_adds.specs.declared.Due.TheVariants.{Names, Rest}

-- our buffer, and the length of our book in it
abbrev pub ours : List ℕ → ℕ → Ours
ours buffer len = record { buffer = buffer; len = len }

-- ---- adding

-- our buffer after some adds: they go on, or the controller's book lacks the name of block b, or a definition has no room
pub data Adding : Type 0 where
  on : Ours → Adding
  lacks : ℕ → Ours → Adding
  room : Ours → Adding

-- what is done next, unless the adding ended
unfoldable pub then_on : Adding → (Ours → Adding) → Adding
then_on (on s) go = go s
then_on (lacks b s) go = lacks b s
then_on (room s) go = room s

-- the controller's type block n is appended; what our book knows stays as it is (4), only 15 ends the adding
unfoldable pub append_of : List ℕ → ℕ → Ours → Adding
append_of c n s = cond (eqb (append_refusal s.buffer s.len (definition_of c n)) refusal.no_room) (room s) (on (next c (add n) s))

-- by what the look-up of block b's type name in the controller's book found
unfoldable pub fetch_by : List ℕ → ℕ → Ours → Option ℕ → Adding
fetch_by c b s (Some n) = append_of c n s
fetch_by c b s None = lacks b s

-- the type that block b of our book names is added from the controller's book
abbrev pub fetch_of : List ℕ → ℕ → Ours → Adding
fetch_of c b s = fetch_by c b s (find c (type_name_of (book_of s) b))

-- the types of a list of blocks are added, in order
unfoldable pub add_listed : List ℕ → List ℕ → Ours → Adding
add_listed c [] s = on s
add_listed c (b ∷ bs) s = then_on (fetch_of c b s) (add_listed c bs)

-- ---- sweeping blocks: what their types are made of is added too, so that few asks are needed

-- a name that the controller's book lacks, or without room for its definition, is passed over: if it is needed, the next ask lists it
unfoldable pub passing : Adding → Ours
passing (on s) = s
passing (lacks b s) = s
passing (room s) = s

-- a type block by the kind of its parts: an array's own block names its element type; the fields of a struct are due after it
unfoldable pub due_parts : List ℕ → ℕ → ScratchParts → Due
due_parts book i parts.Element = Names 0
due_parts book i parts.Fields = Rest (fields_of book i)
due_parts book i parts.Nothing = Rest 0

-- a type block by its category: an alias names its target
unfoldable pub due_type : List ℕ → ℕ → AdsTypeCategory → Due
due_type book i category = cond (goes_on false category) (Names 0) (due_parts book i (parts_kind category))

-- whether block i names a type that its own type is made of, where `due` fields are due, and how many fields are due after it
unfoldable pub due_of : List ℕ → ℕ → ℕ → ℕ → Due
due_of book width i zero = cond (is_type book i) (due_type book i (category_of book width i)) (Rest 0)
due_of book width i (suc due) = Names due

-- the type that block i names is added, if it names one, and `go` says what is done next
unfoldable pub sweep_by : (ℕ → Ours → Ours) → List ℕ → ℕ → Ours → Due → Ours
sweep_by go c i s (Names due) = go due (passing (fetch_of c i s))
sweep_by go c i s (Rest due) = go due s

-- at most k blocks from block i on are swept, the last of those that are added meanwhile included
unfoldable pub sweep_from : List ℕ → ℕ → ℕ → ℕ → ℕ → Ours → Ours
sweep_from c width zero i due s = s
sweep_from c width (suc k) i due s =
    cond (ltb i (blocks (book_of s))) (sweep_by (sweep_from c width k (i + 1)) c i s (due_of (book_of s) width i due)) s

-- the blocks from block i on, of at most 65,536
abbrev pub sweep : List ℕ → ℕ → ℕ → Ours → Ours
sweep c width i s = sweep_from c width (65536 - i) i 0 s

-- the listed types are added, and then what the types from block i on are made of
unfoldable pub add_all : List ℕ → ℕ → ℕ → List ℕ → Ours → Adding
add_all c width i bs s = then_on (add_listed c bs s) (λ z. on (sweep c width i z))
