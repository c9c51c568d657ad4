-- `put_each` meets its contract. The loop keeps: whatever lays what is left from here on lays the whole. Assumes nothing.
use Rattle.enc_windows_1252_decoder.proofs.Decoders.{each-room, each_again, each-end}
use Rattle.enc_windows_1252_decoder.proofs.put_each.Goals as goal

pub put_byte-next-requires : goal.put_byte-next-requires
put_byte-next-requires c = search each-room

pub loop-byte-preserved : goal.loop-byte-preserved
loop-byte-preserved c = search each_again

pub returns : goal.returns
returns c = search each-end
