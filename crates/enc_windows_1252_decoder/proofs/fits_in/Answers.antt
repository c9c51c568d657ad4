-- `fits_in` meets its contract: a short text fits, so does one whose most fits, and another is measured. Assumes nothing.
use Rattle.std.proofs.Common.{arith}
use Rattle.enc_windows_1252_decoder.proofs.Texts.{fits-short}
use Rattle.enc_windows_1252_decoder.proofs.Decoders.{fits_surely}
use Rattle.enc_windows_1252_decoder.proofs.fits_in.Goals as goal

pub returns-then-surely_fits : goal.returns-then-surely_fits
returns-then-surely_fits c = grind (arith, fits_surely, fits-short c.args.bytes.now c.args.room c.type_inv.bytes)
