-- What the parts of the call promise each other. No contract of a public function cites this. Assumes nothing.
use Rattle.std.specs.Prelude.{◌≡◌, true, List, ℕ, take}
use Rattle.type_book.specs.Book.{blocks, is_type}
use Rattle.type_provider.specs.Find.{find}
use Rattle.type_book_check.specs.declared.BookCheck.TheVariants.{Valid}
use Rattle.type_book_check.specs.Check.{check_book}
use Rattle.type_book_check.specs.Given.{lacking_root}
use Rattle.resolve_walk.specs.Scratch.{zeroed}
use Rattle.plan_adds.specs.declared.Added.{Added}
use Rattle.plan_adds.specs.declared.Added.TheVariants as added
use Rattle.plan_adds.specs.Adds.{ours, fetch_by}
use Rattle.plan_adds.specs.State.{added_length, added_said}
use Rattle.plan_save.specs.declared.Plan.{Plan}

-- the promise of adding the root: what is said of it, that our book is valid then, and that the first block after the old ones is the root's
pub record RootAdded (c name buffer : List ℕ) (len : ℕ) (r : Added) (after : List ℕ) : Type 0 where
  pub is : added_said r after ≡ fetch_by c lacking_root (ours buffer len) (find c name)
  pub valid : check_book after (added_length r) ≡ Valid
  pub holds : (l : ℕ) → r ≡ added.More l → is_type (take l after) (blocks (take len buffer)) ≡ true

-- the promise of an answer without rounds: it is the one that was given, and scratch and index are zero
pub record EndedIs (p : Plan) (sc hints : List ℕ) (r : Plan) (sc' hints' : List ℕ) : Type 0 where
  pub same : r ≡ p
  pub scratch : sc' ≡ zeroed sc
  pub index : hints' ≡ zeroed hints
