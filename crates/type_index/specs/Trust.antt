-- When an index's "not there" is the book's: it leads to each type block of the book by the block's own name. Assumes nothing.
use Rattle.std.specs.Prelude.{◌≡◌, Bool, true, cond, not, ◌&&◌, ◌||◌, List, ℕ, zero, suc, ◌+◌, Option, None}
use Rattle.type_book.specs.Book.{is_type, name_of}
use Rattle.type_provider.specs.Find.{searched, find, is_found}
use Rattle.type_index.specs.declared.Trust.{Trust}
use Rattle.type_index.specs.declared.Trust.TheVariants as trust
use Rattle.type_index.specs.Index.{probe_of}

-- block n is no type block, or the index leads somewhere by its name
unfoldable pub leads : List ℕ → List ℕ → ℕ → Bool
leads book index n = not (is_type book n) || is_found (probe_of book index (name_of book n))

-- so it is with the k blocks from block n on
unfoldable pub leads_from : List ℕ → List ℕ → ℕ → ℕ → Bool
leads_from book index n zero = true
leads_from book index n (suc k) = leads book index n && leads_from book index (n + 1) k

-- the index leads to every type block of the book
unfoldable pub holds_all : List ℕ → List ℕ → Bool
holds_all book index = leads_from book index 0 (searched book)

-- what is known of the index once it was held against the book
unfoldable pub trust_then : List ℕ → List ℕ → Trust → Trust
trust_then book index trust.Held = trust.Held
trust_then book index trust.Foreign = trust.Foreign
trust_then book index trust.Unknown = cond (holds_all book index) trust.Held trust.Foreign

-- the look-up of a name to which the index does not lead
unfoldable pub not_led : List ℕ → Trust → List ℕ → Option ℕ
not_led book trust.Held name = None
not_led book trust.Unknown name = find book name
not_led book trust.Foreign name = find book name

-- what is known of the index holds: one that is believed leads to every type block of the book
pub record Trusted (book index : List ℕ) (t : Trust) : Type 0 where
  pub held : t ≡ trust.Held → holds_all book index ≡ true
