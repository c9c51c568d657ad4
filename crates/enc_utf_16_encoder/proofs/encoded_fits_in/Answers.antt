-- `enc_utf_16_encoder::encoded_fits_in` meets its contract: a short text fits. Assumes nothing.
use mathlib.Core.Path.{◌∙◌}
use borrow.Author.Tests.{le-leb}
use Rattle.enc_utf_16_encoder.proofs.Sizes.{fits-short}
use Rattle.enc_utf_16_encoder.proofs.encoded_fits_in.Goals as goal

pub returns-then-text-room : goal.returns-then-text-room
returns-then-text-room c = le-leb _ _ c.if-text-room.true ∙ fits-short _ _ c.if-text-room.true
