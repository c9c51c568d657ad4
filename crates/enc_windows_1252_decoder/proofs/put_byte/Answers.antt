-- `put_byte` meets its contract: a law for each exit. Assumes nothing.
use Rattle.enc_windows_1252_decoder.proofs.Texts.{point_from, point_below, point_third}
use Rattle.enc_windows_1252_decoder.proofs.Decoders.{byte-room, byte-ascii, first-room, high-room, byte_high, wide_room, byte-wide}
use Rattle.enc_windows_1252_decoder.proofs.put_byte.Goals as goal

pub bounds-out-at : goal.bounds-out-at
bounds-out-at c = search byte-room

pub returns-then-byte-lt128 : goal.returns-then-byte-lt128
returns-then-byte-lt128 c = search byte-ascii

pub bounds-out-at-then-byte-ge160 : goal.bounds-out-at-then-byte-ge160
bounds-out-at-then-byte-ge160 c = search first-room

pub bounds-out-at-then-byte-ge160-2 : goal.bounds-out-at-then-byte-ge160-2
bounds-out-at-then-byte-ge160-2 c = search high-room

pub returns-then-byte-ge160 : goal.returns-then-byte-ge160
returns-then-byte-ge160 c = search byte_high

pub put_wide-requires : goal.put_wide-requires
put_wide-requires c = record { le_code = (search point_from, search point_below, search point_third); code_in_bounds = search wide_room }

pub returns : goal.returns
returns c = search byte-wide
