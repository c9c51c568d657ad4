use Rattle.enc_utf_8_replacing.proofs.Decoders.{decode-copied, decode-past, decode-over, decode-room, decode-done}
use borrow.Author.Rules.{rules}
use Rattle.enc_utf_8_replacing.proofs.decode.Goals as goal

-- src/lib.rt:156:9
pub returns-then-formed-bytes : goal.returns-then-formed-bytes
returns-then-formed-bytes c = search decode-copied

-- src/lib.rt:159:9
pub returns-then-out-at : goal.returns-then-out-at
returns-then-out-at c = search decode-past

-- src/lib.rt:162:26
pub put_text-requires : goal.put_text-requires
put_text-requires c = record { valid_to = search rules; bytes_in_bounds = decode-room _ _ _ _ c.if-out-at.false c.fits_in.ensures c.if-fits_in.true }

-- src/lib.rt:162:9
pub returns-then-fits_in : goal.returns-then-fits_in
returns-then-fits_in c = search decode-done

-- src/lib.rt:151:1
pub returns : goal.returns
returns c = search decode-over
