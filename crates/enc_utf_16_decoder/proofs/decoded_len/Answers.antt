-- `enc_utf_16_decoder::decoded_len` meets its contract. The loop's invariant: `used` and the length of the text from `at` on are the length of the whole text. Assumes nothing.
use native.Mathlib.Omega.{arith}
use Rattle.enc_utf_8.specs.Utf8.{utf8_of}
use Rattle.enc_utf_16.specs.Decode.{decode_scalars}
use Rattle.enc_utf_16_scalar.proofs.Decodes.{nothing_left}
use Rattle.enc_utf_16.proofs.Runs.{size-end}
use Rattle.enc_utf_16_decoder.proofs.Blocks.{part-again, part-over}
use borrow.Author.Rules.{rules}
use Rattle.enc_utf_16_decoder.proofs.decoded_len.Goals as goal

pub loop-at-init : goal.loop-at-init
loop-at-init c = (search rules, search rules, omega arith)

pub returns-then-room-used : goal.returns-then-room-used
returns-then-room-used c = search part-over

pub loop-at-preserved : goal.loop-at-preserved
loop-at-preserved c = (search rules, search rules, search part-again)

pub returns : goal.returns
returns c = search (size-end decode_scalars utf8_of nothing_left)
