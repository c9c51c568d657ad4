use Rattle.enc_windows_1252_decoder.proofs.Decoders.{long-room, long-done, decode-none, decode-ascii, decode-past, decode-over, decode-room, decode-done}
use Rattle.enc_windows_1252_decoder.proofs.decode.Goals as goal

pub returns-then-bytes-eq0 : goal.returns-then-bytes-eq0
returns-then-bytes-eq0 c = search decode-none

pub put_pieces-requires : goal.put_pieces-requires
put_pieces-requires c = search long-room

pub returns-then-is_long_with_room : goal.returns-then-is_long_with_room
returns-then-is_long_with_room c = search long-done

pub returns-then-is_ascii : goal.returns-then-is_ascii
returns-then-is_ascii c = search decode-ascii

pub returns-then-out-at : goal.returns-then-out-at
returns-then-out-at c = search decode-past

pub put_text-requires : goal.put_text-requires
put_text-requires c = decode-room c.args.bytes.now c.args.out.now c.args.at _ c.if-out-at.false c.fits_in.ensures c.if-fits_in.true

pub returns-then-fits_in : goal.returns-then-fits_in
returns-then-fits_in c = search decode-done

pub returns : goal.returns
returns c = search decode-over
