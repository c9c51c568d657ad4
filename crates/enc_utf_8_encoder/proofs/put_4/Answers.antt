-- `enc_utf_8_encoder::put_4` meets its contract. Each exit is a law of `Splices`. Assumes nothing.
use native.Mathlib.Omega.{arith}
use lib.ListN.{length-set}
use Rattle.enc_utf_8.proofs.Splices.{wrote-full, stored_4}
use Rattle.enc_utf_8_encoder.proofs.put_4.Goals as goal

pub returns-then-out-at : goal.returns-then-out-at
returns-then-out-at c = wrote-full _ _ _ (omega arith) (omega arith)

pub returns-then-out-at-lt4 : goal.returns-then-out-at-lt4
returns-then-out-at-lt4 c = wrote-full _ _ _ (omega arith) (omega arith)

pub bounds-out-at-2 : goal.bounds-out-at-2
bounds-out-at-2 c = simp length-set (omega arith)

pub bounds-out-at-3 : goal.bounds-out-at-3
bounds-out-at-3 c = simp length-set (omega arith)

pub bounds-out-at-4 : goal.bounds-out-at-4
bounds-out-at-4 c = simp length-set (omega arith)

pub returns : goal.returns
returns c = stored_4 _ _ _ _ _ _ (omega arith)
