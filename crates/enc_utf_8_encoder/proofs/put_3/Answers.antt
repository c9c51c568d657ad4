-- `enc_utf_8_encoder::put_3` meets its contract. Each exit is a law of `Splices`. Assumes nothing.
use native.Mathlib.Omega.{arith}
use lib.ListN.{length-set}
use Rattle.enc_utf_8.proofs.Splices.{wrote-full, stored_3}
use Rattle.enc_utf_8_encoder.proofs.put_3.Goals as goal

pub returns-then-out-at : goal.returns-then-out-at
returns-then-out-at c = wrote-full _ _ _ (omega arith) (omega arith)

pub returns-then-out-at-lt3 : goal.returns-then-out-at-lt3
returns-then-out-at-lt3 c = wrote-full _ _ _ (omega arith) (omega arith)

pub bounds-out-at-2 : goal.bounds-out-at-2
bounds-out-at-2 c = simp length-set (omega arith)

pub bounds-out-at-3 : goal.bounds-out-at-3
bounds-out-at-3 c = simp length-set (omega arith)

pub returns : goal.returns
returns c = stored_3 _ _ _ _ _ (omega arith)
