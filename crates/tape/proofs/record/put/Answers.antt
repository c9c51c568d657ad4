use native.Mathlib.Omega.{arith}
use Rattle.tape.proofs.Records.{put_full, put_done}
use Rattle.tape.proofs.record.put.Goals as goal
use Rattle.tape.proofs.record.put.Goals.{then-tape-at-via-then-tape-at, then-tape-at-via-else-tape-at+then-tape-at-lt-LENGTH}

pub returns-then-tape-at : goal.returns-then-tape-at
returns-then-tape-at c =
    elim c.then-tape-at.branch [ then-tape-at-via-then-tape-at w ↦ put_full _ _ _ (omega arith) | then-tape-at-via-else-tape-at+then-tape-at-lt-LENGTH w ↦ put_full _ _ _ (omega arith) ]

pub returns : goal.returns
returns c = search put_done
