-- A number of hops along a chain. Assumes nothing.
use Rattle.std.specs.Prelude.{◌≡◌, Bool, true, List, ℕ, suc, Some}
use Rattle.type_book.specs.Book.{type_name_of}
use Rattle.type_provider.specs.Find.{find}

-- k hops lead from block t to block u: each goes on from a block, by its type name, to the block that it finds
pub data Hops (goes : ℕ → Bool) (book : List ℕ) : ℕ → ℕ → ℕ → Type 0 where
  none : {t : ℕ} → Hops goes book 0 t t
  hop : {k t n u : ℕ} → goes t ≡ true → find book (type_name_of book t) ≡ Some n → Hops goes book k n u → Hops goes book (suc k) t u
