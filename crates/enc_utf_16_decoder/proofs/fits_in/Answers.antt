-- `enc_utf_16_decoder::fits_in` meets its contract: a short text fits. Assumes nothing.
use mathlib.Core.Path.{◌∙◌}
use borrow.Author.Tests.{le-leb}
use Rattle.enc_utf_16_scalar.proofs.Decodes.{fits-short}
use Rattle.enc_utf_16_decoder.proofs.fits_in.Goals as goal

pub returns-then-bytes-room : goal.returns-then-bytes-room
returns-then-bytes-room c = le-leb _ _ c.if-bytes-room.true ∙ fits-short _ _ c.type_inv.bytes c.if-bytes-room.true
