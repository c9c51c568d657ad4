-- `copy` meets its contract. The loop keeps: whatever lays what is left from here on lays the whole. Assumes nothing.
use mathlib.Core.Path.{◌≡◌}
use mathlib.Core.Bool.{true, false}
use lib.Dec.{eqb}
use lib.ListN.{length}
use Rattle.enc_ascii.proofs.Copies.{copy_none, copy_past, copy_over, copy_start, copy_again, copy_end}
use Rattle.enc_ascii.proofs.copy.Goals as goal
use Rattle.enc_ascii.proofs.copy.Goals.{then-out-at-via-then-out-at, then-out-at-via-else-out-at+then-out-at-2}

pub returns-then-is_empty : goal.returns-then-is_empty
returns-then-is_empty c = let e : eqb (length c.args.bytes.now) 0 ≡ true = cc in search copy_none

pub returns-then-out-at : goal.returns-then-out-at
returns-then-out-at c =
    let e : eqb (length c.args.bytes.now) 0 ≡ false = cc in
    elim c.then-out-at.branch [ then-out-at-via-then-out-at w ↦ search copy_past | then-out-at-via-else-out-at+then-out-at-2 w ↦ search copy_over ]

pub loop-i-init : goal.loop-i-init
loop-i-init c = search copy_start

pub loop-i-preserved : goal.loop-i-preserved
loop-i-preserved c = search copy_again

pub returns : goal.returns
returns c = search copy_end
