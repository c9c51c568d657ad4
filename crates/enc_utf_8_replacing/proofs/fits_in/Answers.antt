use Rattle.enc_utf_8_replacing.proofs.Texts.{fits-short}
use Rattle.enc_utf_8_replacing.proofs.Decoders.{measured_fits, measured_over}
use Rattle.enc_utf_8_replacing.proofs.fits_in.Goals as goal

-- src/lib.rt:99:9
pub returns-then-bytes-room : goal.returns-then-bytes-room
returns-then-bytes-room c = search fits-short

-- src/lib.rt:95:1
pub returns-in-Some : goal.returns-in-Some
returns-in-Some c = search measured_fits

-- src/lib.rt:95:1
pub returns-in-None : goal.returns-in-None
returns-in-None c = search measured_over
