-- `enc_utf_16_decoder::write_units` meets its contract. The loop's invariant: what is left, written from `place` on, makes the buffer that the text from `from` on makes. Assumes nothing.
use native.Mathlib.Omega.{arith}
use Rattle.enc_utf_8.specs.Utf8.{utf8_of}
use Rattle.enc_utf_16.specs.Decode.{decode_scalars}
use Rattle.enc_utf_16_scalar.proofs.Decodes.{nothing_left}
use Rattle.enc_utf_16.proofs.Runs.{left-all, write_again}
use Rattle.enc_utf_16_decoder.proofs.Blocks.{units_written, units_never}
use borrow.Author.Rules.{rules}
use Rattle.enc_utf_16_decoder.proofs.write_units.Goals as goal

pub loop-at-init : goal.loop-at-init
loop-at-init c = (search rules, left-all _ _ _ (omega arith))

pub returns-in_default : goal.returns-in_default
returns-in_default c = search units_never

pub loop-at-preserved : goal.loop-at-preserved
loop-at-preserved c = (search rules, search (write_again decode_scalars utf8_of nothing_left))

pub returns : goal.returns
returns c = search units_written
