-- `enc_utf_16_encoder::write_16` meets its contract. The loop's invariant: what is left, written from `to` on, makes the buffer that the whole text makes. Assumes nothing.
use borrow.Author.Rules.{rules}
use native.Mathlib.Omega.{arith}
use Rattle.enc_utf_8.specs.Utf8.{scalars}
use Rattle.enc_utf_16.specs.Encode.{utf16_of}
use Rattle.enc_utf_16_encoder.proofs.Scalars.{no-scalars}
use Rattle.enc_utf_16.proofs.Runs.{left-all, write_again, write_never, write_end}
use Rattle.enc_utf_16_encoder.proofs.write_16.Goals as goal

pub loop-from-init : goal.loop-from-init
loop-from-init c = (search rules, left-all _ _ _ (omega arith))

pub returns-in_default : goal.returns-in_default
returns-in_default c = search (write_never scalars utf16_of no-scalars)

pub loop-from-preserved : goal.loop-from-preserved
loop-from-preserved c = (search rules, search (write_again scalars utf16_of no-scalars))

pub returns : goal.returns
returns c = search (write_end scalars utf16_of no-scalars)
