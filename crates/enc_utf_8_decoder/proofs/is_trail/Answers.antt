-- `is_trail` meets its contract. Assumes nothing.
use mathlib.Core.Path.{◌∙◌}
use borrow.Author.Tests.{lt-leb}
use Rattle.enc_utf_8.proofs.Cuts.{trail-below, trail-from}
use Rattle.enc_utf_8_decoder.proofs.is_trail.Goals as goal

pub returns-then-b-ge128 : goal.returns-then-b-ge128
returns-then-b-ge128 c = search trail-from

pub returns-else-b-ge128 : goal.returns-else-b-ge128
returns-else-b-ge128 c = lt-leb 0x80 c.args.b c.if-b-ge128.false ∙ search trail-below
