-- `enc_utf_8_encoder::put_1` meets its contract. Each exit is a law of `Splices`. Assumes nothing.
use native.Mathlib.Omega.{arith}
use Rattle.enc_utf_8.proofs.Splices.{wrote-full, stored_1}
use Rattle.enc_utf_8_encoder.proofs.put_1.Goals as goal

pub returns-then-out-at : goal.returns-then-out-at
returns-then-out-at c = wrote-full _ _ _ (omega arith) (omega arith)

pub returns : goal.returns
returns c = stored_1 _ _ _ (omega arith)
