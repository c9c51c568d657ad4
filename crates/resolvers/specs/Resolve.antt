-- Chains of aliases and references, by look-ups in a type book (document 01, "resolvers.rs"; refusals 7 and 8). Assumes nothing.
use Rattle.std.specs.Prelude.{◌≡◌, Bool, true, false, cond, List, [], ◌∷◌, ℕ, zero, suc, Option, Some, None}
use Rattle.enc_number.specs.Refusals as refusal
use Rattle.type_book.specs.Book.{is_type, type_name_of}
use Rattle.type_provider.specs.Find.{find}
use Rattle.type_category.specs.declared.type_category.AdsTypeCategory.{AdsTypeCategory}
use Rattle.type_category.specs.declared.type_category.AdsTypeCategory.TheVariants as category
use Rattle.type_category.specs.Category.{category_of}
use Rattle.resolvers.specs.declared.Resolved.{Resolved}
use Rattle.resolvers.specs.declared.Resolved.TheVariants.{Base, NotFound, TooLong}

-- document 01's number and value of what a chain comes to: 0 and the block, 7 and the block whose type name is not found, or 8
unfoldable pub resolved_numbers : Resolved → List ℕ
resolved_numbers (Base u) = 0 ∷ u ∷ []
resolved_numbers (NotFound c) = refusal.not_found ∷ c ∷ []
resolved_numbers TooLong = refusal.chain_too_long ∷ []

-- ---- chains

-- a chain goes on from an alias, and from a reference where references are followed too
abbrev pub goes_on : Bool → AdsTypeCategory → Bool
goes_on references category.Alias = true
goes_on references category.Reference = references
goes_on references category.None = false
goes_on references category.Primitive = false
goes_on references category.Enum = false
goes_on references category.Array = false
goes_on references category.Struct = false
goes_on references category.FunctionBlock = false
goes_on references category.Program = false
goes_on references category.Function = false
goes_on references category.SubRange = false
goes_on references category.String = false
goes_on references category.Bitset = false
goes_on references category.Pointer = false
goes_on references category.Union = false
goes_on references category.Interface = false

-- a chain goes on from block n
unfoldable pub is_followed : Bool → List ℕ → ℕ → ℕ → Bool
is_followed references book width n = goes_on references (category_of book width n)

-- on to the block that the type name of block b was found at, or 7 with block b
unfoldable pub chain_onward : (ℕ → Resolved) → ℕ → Option ℕ → Resolved
chain_onward go b (Some u) = go u
chain_onward go b None = NotFound b

-- the block at which the chain from block t ends, in at most k look-ups, where `goes` says from which blocks it goes on
unfoldable pub follow : (ℕ → Bool) → List ℕ → ℕ → ℕ → Resolved
follow goes book zero t = TooLong
follow goes book (suc k) t = cond (goes t) (chain_onward (follow goes book k) t (find book (type_name_of book t))) (Base t)

-- 32 look-ups are made before 8
abbrev pub resolve_type : Bool → List ℕ → ℕ → ℕ → Resolved
resolve_type references book width t = follow (is_followed references book width) book 32 t

-- type block t, with aliases resolved
abbrev pub resolve_alias : List ℕ → ℕ → ℕ → Resolved
resolve_alias book width t = resolve_type false book width t

-- type block t, with aliases and references resolved
abbrev pub resolve_indirection : List ℕ → ℕ → ℕ → Resolved
resolve_indirection book width t = resolve_type true book width t

-- the type that block b names, as a field or as an array, with aliases resolved
unfoldable pub look_up : List ℕ → ℕ → ℕ → Resolved
look_up book width b = chain_onward (resolve_alias book width) b (find book (type_name_of book b))

-- an answer, which is a type block where it is a block
pub record ResolvedIs (book : List ℕ) (answer r : Resolved) : Type 0 where
  pub is : resolved_numbers r ≡ resolved_numbers answer
  pub typed : (u : ℕ) → r ≡ Base u → is_type book u ≡ true

-- what block b's type name comes to, which is a type block where it is a block
pub record LookedUp (book : List ℕ) (width b : ℕ) (r : Resolved) : Type 0 where
  pub is : resolved_numbers r ≡ resolved_numbers (look_up book width b)
  pub typed : (u : ℕ) → r ≡ Base u → is_type book u ≡ true
