use mathlib.Core.Path.{sym}
use borrow.Author.Count.{below_more}
use borrow.Author.Rules.{rules}
use native.Mathlib.Omega.{arith}
use Rattle.type_doubles.proofs.All.{all-fails, all_of}
use Rattle.type_book_check.proofs.Blocks.{sum_fails, sum-holds, placed-stop, placed-again, placed-fields, placed-entries, placed_end, scan_sum, scan_form, scan_right, scan_misplaced}
use Rattle.type_book_check.proofs.scanned.Goals as goal
use Rattle.type_book_check.proofs.scanned.Goals.{else-fields-eq0-via-then-fields-eq0+else-entries-eq0, else-fields-eq0-via-else-fields-eq0}

pub returns-then-not-sum_right : goal.returns-then-not-sum_right
returns-then-not-sum_right c = scan_sum _ (all-fails _ _ c.loop-i.i (omega arith) (search sum_fails))

pub due_after-requires : goal.due_after-requires
due_after-requires c = search (sum-holds, rules)

pub returns-in_default : goal.returns-in_default
returns-in_default c = search (scan_misplaced, placed-stop)

pub loop-i-preserved : goal.loop-i-preserved
loop-i-preserved c = (below_more _ _ c.loop-i.invariant.0 (search sum-holds), search placed-again)

pub returns-then-entries-eq0 : goal.returns-then-entries-eq0
returns-then-entries-eq0 c = scan_right _ (sym (all_of _ _ (λ m l. c.loop-i.invariant.0 m (omega arith)))) (search placed_end)

pub returns-else-fields-eq0 : goal.returns-else-fields-eq0
returns-else-fields-eq0 c =
    scan_form _ (sym (all_of _ _ (λ m l. c.loop-i.invariant.0 m (omega arith))))
    (elim c.else-fields-eq0.branch [
      | else-fields-eq0-via-then-fields-eq0+else-entries-eq0 w ↦ search placed-entries
      | else-fields-eq0-via-else-fields-eq0 w ↦ search placed-fields
    ])
