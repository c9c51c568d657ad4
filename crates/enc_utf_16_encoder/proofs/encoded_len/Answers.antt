-- `enc_utf_16_encoder::encoded_len` meets its contract. The loop's invariant: `used` and the length of the text from `at` on are the length of the whole text. Assumes nothing.
use borrow.Author.Rules.{rules}
use native.Mathlib.Omega.{arith}
use Rattle.enc_utf_8.specs.Utf8.{scalars}
use Rattle.enc_utf_16.specs.Encode.{utf16_of}
use Rattle.enc_utf_16_encoder.proofs.Scalars.{no-scalars}
use Rattle.enc_utf_16.proofs.Runs.{size-again, size-over, size-end}
use Rattle.enc_utf_16_encoder.proofs.encoded_len.Goals as goal

pub loop-at-init : goal.loop-at-init
loop-at-init c = (search rules, search rules, omega arith)

pub returns-then-room-used : goal.returns-then-room-used
returns-then-room-used c = search (size-over scalars utf16_of no-scalars)

pub loop-at-preserved : goal.loop-at-preserved
loop-at-preserved c = (search rules, search rules, search (size-again scalars utf16_of no-scalars))

pub returns : goal.returns
returns c = search (size-end scalars utf16_of no-scalars)
