-- Demand 3 with the root by its name (change request 5: "The asks and adds of demand 3 may now begin from nothing, and their bound counts the root's
-- name too"): one claim about every list of asks and adds, begun on our book, which may lack the root, as the book of no bytes does. While it lacks
-- the name, the claim is said here; once it has it, it is that of demand 3 for the block. Assumes nothing.
use Rattle.std.specs.Prelude.{◌≡◌, true, false, ℕ, ◌+◌, ◌≤◌, length, drop, Option, Some, None}
use mathlib.Core.List.{List, [], ◌∷◌, Memᴰ}
use Rattle.enc_number.specs.Answer.{refusal_of}
use Rattle.type_book.specs.Book.{type_name_of}
use Rattle.type_provider.specs.Find.{find}
use Rattle.type_book_check.specs.declared.BookCheck.TheVariants.{Valid}
use Rattle.type_book_check.specs.Check.{check_book, ValidBook}
use Rattle.type_book_check.specs.Given.{lacking_root, check_given}
use Rattle.type_book_check.specs.Given as given
use Rattle.type_book_check.specs.declared.GivenRoot.TheVariants.{Block}
use Rattle.type_cache.specs.declared.Appended.{Appended}
use Rattle.type_cache.specs.Append.{AppendIs}
use Rattle.type_cache.specs.Same.{definition_of}
use Rattle.resolvers.specs.Resolve.{is_followed}
use Rattle.resolvers.specs.Hops.{Hops}
use Rattle.resolve_walk.specs.Reads.{listed}
use Rattle.resolve_walk.specs.Reached.{Reached, Needed, Distinct}
use Rattle.resolve_missing_types.specs.declared.Missing.{Missing}
use Rattle.resolve_missing_types.specs.declared.Missing.TheVariants.{Listed}
use Rattle.resolve_missing_types.specs.Calls.{missing_numbers}
use Rattle.resolve_missing_types.specs.Given.{GivenMissingIs}
use Rattle.resolve_missing_types.specs.Needs.{Lacking, Defined}
use Rattle.closure_books.specs.Books.{Covers}
use Rattle.closure.specs.Calls.{Ours, book_of, Call, ask, add, bytes, next, after_calls, Each, walk_at}
use Rattle.closure.specs.Demand.{Lent, AskIs, AddIs, BytesIs, AddedNext, any, Closed}

-- ---- the premises

-- those of demand 3, of the controller's book c, "one pointer width", the root's name, our buffer s at first, and the list of calls; but ours need not
-- hold the root
pub record NamedPremises (c : List ℕ) (width : ℕ) (name : List ℕ) (s : Ours) (is : List Call) : Type 0 where
  pub calls : Each c (Lent c) s is
  pub theirs-valid : ValidBook c
  pub ours-valid : check_book s.buffer s.len ≡ Valid
  pub room : length c ≤ length s.buffer
  pub defines : (x : List ℕ) → Needed c width name x → Defined c x
  pub covers : Covers (book_of s) c
  pub few : (xs : List (List ℕ)) → Distinct xs → ((x : List ℕ) → Memᴰ x xs → Reached c width name x) → length xs ≤ 4096
  pub short : (x : List ℕ) (t u : ℕ) → Reached c width name x → find c x ≡ Some t → Hops (is_followed false c width) c 32 t u → ⊥

-- ---- the claim, call by call

-- an ask while our book lacks the root's name
pub record LackingAskIs (c : List ℕ) (width : ℕ) (name : List ℕ) (s : Ours) (ls : List ℕ) (r : Missing) (ls' : List ℕ) : Type 0 where
  pub unrefused : refusal_of (missing_numbers r) ≡ 0
  -- "the missing list holds the single number 4,294,967,295, which stands for that name (whole, count 1)"
  pub answer : missing_numbers r ≡ missing_numbers (Listed 1 true 1)
  pub blocks : ls' ≡ lacking_root ∷ drop 1 ls
  -- what it stands for is needed and lacking
  pub needed : Needed c width name name
  pub lacking : Lacking (book_of s) name

-- an ask: by whether our book has the root's name, and at which block
abbrev pub NamedAskIs : List ℕ → ℕ → List ℕ → Ours → List ℕ → Missing → List ℕ → Option ℕ → Type 0
NamedAskIs c width name s ls r ls' (Some t) = AskIs c width t name s ls r ls'
NamedAskIs c width name s ls r ls' None = LackingAskIs c width name s ls r ls'

-- one call of the list, by the contract of what it calls
abbrev pub NamedCallIs : List ℕ → ℕ → List ℕ → Ours → Call → List Call → Type 0
NamedCallIs c width name s (ask ix sc ls) is =
    (r : Missing) (sc' ls' : List ℕ) → GivenMissingIs s.buffer s.len ix width (given.name name) sc ls r sc' ls'
    → NamedAskIs c width name s ls r ls' (find (book_of s) name)
NamedCallIs c width name s (add n) is =
    (r : Appended) (buffer : List ℕ) → AppendIs s.buffer s.len (definition_of c n) r buffer → AddIs c s n r buffer
NamedCallIs c width name s (bytes more) is =
    (r : Appended) (buffer : List ℕ) → AppendIs s.buffer s.len more r buffer → BytesIs c s more r buffer

-- ---- the bound on the asks

-- "If each listed name is added before the next ask": by whether our book has the root's name
abbrev pub FetchedBy : List ℕ → ℕ → List ℕ → Ours → List Call → Option ℕ → Type 0
FetchedBy c width name s is (Some t) = (b : ℕ) → Memᴰ b (listed (walk_at width t s)) → AddedNext c (type_name_of (book_of s) b) is
FetchedBy c width name s is None = AddedNext c name is

-- what this asks of each call: of an ask that each name which it lists is added before the next one; of an add nothing
abbrev pub NamedFetched : List ℕ → ℕ → List ℕ → Ours → Call → List Call → Type 0
NamedFetched c width name s (ask ix sc ls) is = FetchedBy c width name s is (find (book_of s) name)
NamedFetched c width name s (add n) is = Unit {0}
NamedFetched c width name s (bytes more) is = Unit {0}

-- 1 for an ask that lists any
abbrev pub any_by : ℕ → Ours → Option ℕ → ℕ
any_by width s (Some t) = any (listed (walk_at width t s))
any_by width s None = 1

-- how many "asks list any"
unfoldable pub named_listing : List ℕ → ℕ → List ℕ → List Call → Ours → ℕ
named_listing c width name [] s = 0
named_listing c width name (ask ix sc ls ∷ is) s = any_by width s (find (book_of s) name) + named_listing c width name is s
named_listing c width name (add n ∷ is) s = named_listing c width name is (next c (add n) s)
named_listing c width name (bytes more ∷ is) s = named_listing c width name is (next c (bytes more) s)

-- "at most as many asks list any as needed names were lacking at first", the root's own among them where it was
pub record NamedBound (c : List ℕ) (width : ℕ) (name : List ℕ) (s : Ours) (is : List Call) : Type 0 where
  pub names : List (List ℕ)
  pub distinct : Distinct names
  pub needed : (x : List ℕ) → Memᴰ x names → Needed c width name x
  pub lacking : (x : List ℕ) → Memᴰ x names → Lacking (book_of s) x
  pub many : length names ≡ named_listing c width name is s

-- ---- after an ask that lists none

-- an ask of the list lists none: our book has the root's name there
pub data NamedNone (c : List ℕ) (width : ℕ) (name : List ℕ) : Ours → List Call → Type 0 where
  here : {s : Ours} {ix sc ls : List ℕ} {is : List Call} {t : ℕ} → find (book_of s) name ≡ Some t → listed (walk_at width t s) ≡ []
      → NamedNone c width name s (ask ix sc ls ∷ is)
  later : {s : Ours} {i : Call} {is : List Call} → NamedNone c width name (next c i s) is → NamedNone c width name s (i ∷ is)

-- our book has the root's name: every call by the name is the call by that block, of which what demand 3 claims holds
pub record NamedClosed (c : List ℕ) (width : ℕ) (name : List ℕ) (s : Ours) : Type 0 where
  pub at : ℕ
  pub found : find (book_of s) name ≡ Some at
  pub given : check_given s.buffer s.len (given.name name) ≡ Block at
  pub closed : Closed c width at name s

-- ---- demand 3 from nothing

-- what is claimed of a list of calls
pub record NamedClaim (c : List ℕ) (width : ℕ) (name : List ℕ) (s : Ours) (is : List Call) : Type 0 where
  pub calls : Each c (NamedCallIs c width name) s is
  pub bound : Each c (NamedFetched c width name) s is → NamedBound c width name s is
  pub closed : NamedNone c width name s is → NamedClosed c width name (after_calls c is s)

-- "The asks and adds of demand 3 may now begin from nothing"
unfoldable pub FromNothing : Type 0
FromNothing = (c : List ℕ) (width : ℕ) (name : List ℕ) (s : Ours) (is : List Call) → NamedPremises c width name s is → NamedClaim c width name s is
