-- The walk of the types that a type is made of (document 01, "resolvers.rs"), last in, first out. It knows of no answer and no buffer.
-- Assumes nothing.
use Rattle.std.specs.Prelude.{Bool, false, cond, ◌||◌, List, [], ◌∷◌, ◌++◌, ℕ, zero, suc, Option}
use Rattle.type_book.specs.Book.{name_of, type_name_of, same_name}
use Rattle.type_provider.specs.Find.{find}
use Rattle.resolvers.specs.declared.Resolved.{Resolved}
use Rattle.resolvers.specs.declared.Resolved.TheVariants.{Base, NotFound, TooLong}
use Rattle.resolvers.specs.Resolve.{chain_onward, resolve_alias}
use Rattle.resolve_walk_scratch.specs.Parts.{parts_of}

-- what a name that block b names comes to, by what the look-up of that name found: a type with its aliases resolved, or 7 or 8
abbrev pub comes_to : List ℕ → ℕ → ℕ → Option ℕ → Resolved
comes_to book width b f = chain_onward (resolve_alias book width) b f

-- ---- the walk

-- the names met, in order: the block that names it, the name, what it comes to. The end: no name is left, or one too many came
pub data Walk : Type 0 where
  over : Walk
  full : ℕ → List ℕ → Walk
  met : ℕ → List ℕ → Resolved → Walk → Walk

-- the name was visited
unfoldable pub has : List (List ℕ) → List ℕ → Bool
has [] x = false
has (y ∷ ys) x = same_name y x || has ys x

-- the stack from its first name that was not visited on
unfoldable pub skip : List ℕ → List (List ℕ) → List ℕ → List ℕ
skip book v [] = []
skip book v (b ∷ s) = cond (has v (type_name_of book b)) (skip book v s) (b ∷ s)

-- what is taken next after a name
unfoldable pub push : List ℕ → ℕ → Resolved → List ℕ → List ℕ
push book width (Base t) s = parts_of book width t ++ s
push book width (NotFound b) s = s
push book width TooLong s = s

-- the rest of a walk, by the names visited and the stack
abbrev pub Go : Type 0
Go = List (List ℕ) → List ℕ → Walk

-- block b names x, which is new: it is met, and the walk goes on
unfoldable pub meet : Go → List ℕ → ℕ → List (List ℕ) → List ℕ → ℕ → List ℕ → Walk
meet go book width v s b x = met b x (comes_to book width b (find book x)) (go (x ∷ v) (push book width (comes_to book width b (find book x)) s))

-- the first name on the stack, which is new, is met; or none is left
unfoldable pub turn : Go → List ℕ → ℕ → List (List ℕ) → List ℕ → Walk
turn go book width v [] = over
turn go book width v (b ∷ s) = meet go book width v s b (type_name_of book b)

-- the first name on the stack, which is new, is one too many; or none is left
unfoldable pub last : List ℕ → List ℕ → Walk
last book [] = over
last book (b ∷ s) = full b (type_name_of book b)

-- `left` names may still be met
unfoldable pub walk : List ℕ → ℕ → ℕ → Go
walk book width zero v s = last book (skip book v s)
walk book width (suc left) v s = turn (walk book width left) book width v (skip book v s)

-- 4,096 names at most, from a name on, for which a block stands that is listed or refused with where the book lacks the name
abbrev pub walk_from : List ℕ → ℕ → List ℕ → ℕ → Walk
walk_from book width name block = meet (walk book width 4095) book width [] [] block name

-- the root's own name first, for which the root block stands
unfoldable pub walk_of : List ℕ → ℕ → ℕ → Walk
walk_of book width root = walk_from book width (name_of book root) root
