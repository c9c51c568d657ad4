-- `enc_utf_16_encoder::put_bytes` meets its contract: the bytes laid over the buffer, or no room for them. Assumes nothing.
use native.Mathlib.Omega.{arith}
use Rattle.enc_utf_8.proofs.Splices.{wrote-full}
use Rattle.enc_utf_16_encoder.proofs.Encodes.{wrote-part}
use Rattle.enc_utf_16_encoder.proofs.put_bytes.Goals as goal
use Rattle.enc_utf_16_encoder.proofs.put_bytes.Goals.{then-out-at-via-then-out-at, then-out-at-via-else-out-at+then-out-at-2}

pub returns-then-out-at : goal.returns-then-out-at
returns-then-out-at g c =
    elim c.then-out-at.branch [
      | then-out-at-via-then-out-at w ↦ wrote-full _ _ _ (omega arith) (omega arith)
      | then-out-at-via-else-out-at+then-out-at-2 w ↦ wrote-full _ _ _ (omega arith) (omega arith)
    ]

pub returns : goal.returns
returns g c = wrote-part _ _ _ _ _ (omega arith) (omega arith) c.copy_from_slice.ensures.after
