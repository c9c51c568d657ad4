-- Eighteen rounds suffice, whatever the books hold; each has one ask, so a plan makes eighteen asks at most. Assumes nothing.
use Rattle.std.specs.Prelude.{◌≡◌, true, List, ℕ}
use Rattle.type_book.specs.Book.{is_type}
use Rattle.type_book_check.specs.declared.BookCheck.TheVariants.{Valid}
use Rattle.type_book_check.specs.Check.{check_book, ValidBook}
use Rattle.closure.specs.Calls.{Ours, book_of}
use Rattle.plan_save.specs.Rounds.{Decision, rounds_then, plan_from}

-- the claim, for two valid books and a root: whatever were answered where the rounds run out, the outcome is the same, so they never do
unfoldable pub PlanFew : Type 0
PlanFew = (go : Ours → Decision) (c : List ℕ) (width root : ℕ) (s : Ours) → ValidBook c → check_book s.buffer s.len ≡ Valid
    → is_type (book_of s) root ≡ true → rounds_then go c width root 18 s ≡ plan_from c width root 18 s
