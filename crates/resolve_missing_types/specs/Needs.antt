-- What a list of missing types says of the names that are needed (document 01's terms *lacking* and *needed*). Assumes nothing.
use Rattle.std.specs.Prelude.{◌≡◌, ℕ, Some, None}
use mathlib.Core.List.{List, Memᴰ}
use Rattle.type_book.specs.Book.{type_name_of}
use Rattle.type_provider.specs.Find.{find}
use Rattle.resolve_walk.specs.Reached.{Needed}

-- document 01's term: a name is lacking while our book doesn't define it
abbrev pub Lacking : List ℕ → List ℕ → Type 0
Lacking ours x = find ours x ≡ None

-- block c of our book stands for its type name, which is lacking there and is needed in the book `theirs`; a walk over one book takes both in it
pub record Unresolved (ours theirs : List ℕ) (width : ℕ) (root : List ℕ) (c : ℕ) : Type 0 where
  pub lacking : Lacking ours (type_name_of ours c)
  pub needed : Needed theirs width root (type_name_of ours c)

-- a block of the list names x
pub record Listing (book ls x : List ℕ) : Type 0 where
  pub block : ℕ
  pub member : Memᴰ block ls
  pub names_it_lem : type_name_of book block ≡ x

-- the name x is found
pub record Defined (book x : List ℕ) : Type 0 where
  pub at : ℕ
  pub found : find book x ≡ Some at
