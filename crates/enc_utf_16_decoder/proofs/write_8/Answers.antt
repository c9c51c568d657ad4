-- `enc_utf_16_decoder::write_8` meets its contract. The loop's invariant: what is left, written from `to` on, makes the buffer that the whole text makes. Assumes nothing.
use native.Mathlib.Omega.{arith}
use Rattle.enc_utf_8.specs.Utf8.{utf8_of}
use Rattle.enc_utf_16.specs.Decode.{decode_scalars}
use Rattle.enc_utf_16_scalar.proofs.Decodes.{nothing_left}
use Rattle.enc_utf_16.proofs.Runs.{left-all, write_end}
use Rattle.enc_utf_16_decoder.proofs.Blocks.{part_room, part-next}
use borrow.Author.Rules.{rules}
use Rattle.enc_utf_16_decoder.proofs.write_8.Goals as goal

pub loop-from-init : goal.loop-from-init
loop-from-init c = (search rules, left-all _ _ _ (omega arith))

pub write_block-done-requires : goal.write_block-done-requires
write_block-done-requires c = record { from_in_bounds = search rules; bytes_in_bounds = search part_room }

pub loop-from-preserved : goal.loop-from-preserved
loop-from-preserved c = (search rules, search part-next)

pub returns : goal.returns
returns c = search (write_end decode_scalars utf8_of nothing_left)
