-- The list of asks and adds that a plan by a name makes, in the words of demand 3 from nothing. Assumes nothing.
use Rattle.std.specs.Prelude.{◌≡◌, Bool, true, List, ℕ}
use Rattle.type_provider.specs.Find.{find}
use Rattle.type_book_check.specs.declared.BookCheck.TheVariants.{Valid}
use Rattle.type_book_check.specs.Check.{check_book, ValidBook}
use Rattle.type_index.specs.Index.{index_fits}
use Rattle.resolve_walk.specs.Scratch.{scratch_fits, list_fits}
use Rattle.closure.specs.Calls.{Ours, book_of, Call, after_calls, Each}
use Rattle.closure.specs.Demand.{Lent}
use Rattle.closure_named.specs.Named.{NamedNone}
use Rattle.plan_save.specs.Rounds.{Decision, decided}
use Rattle.plan_save.specs.Call.{outcome_ours}
use Rattle.plan_named.specs.Named.{plan_by_name}

-- an outcome is what a list of calls left: each is an ask with index, scratch and list long enough or an add of the controller's, our buffer is what
-- they made of it, and an ask by the name listed none where read-modify-write was decided
pub record NamedMade (c : List ℕ) (width : ℕ) (name : List ℕ) (s : Ours) (o : Decision) : Type 0 where
  pub items : List Call
  pub given : Each c (Lent c) s items
  pub left : after_calls c items s ≡ outcome_ours o
  pub none : (t : Bool) (z : Ours) → o ≡ decided t z → NamedNone c width name s items

-- the claim, for two valid books: the root's add, if any, and the rounds are such a list. ix, sc and list are what is lent to the asks
unfoldable pub PlanNamedMade : Type 0
PlanNamedMade = (c : List ℕ) (width : ℕ) (name : List ℕ) (s : Ours) (ix sc list : List ℕ) → index_fits ix ≡ true → scratch_fits sc ≡ true → list_fits list ≡ true
    → ValidBook c → check_book s.buffer s.len ≡ Valid → NamedMade c width name s (plan_by_name c width name s (find (book_of s) name))
