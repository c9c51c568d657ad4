-- `put_from` meets its contract. The loop keeps: whatever lays what is left from here on lays the whole. Assumes nothing.
use Rattle.enc_utf_8.proofs.Lays.{rest_all}
use Rattle.enc_windows_1252_encoder.proofs.Encoders.{codes_room, codes_again, codes_end}
use Rattle.enc_windows_1252_encoder.proofs.put_from.Goals as goal

pub loop-i-init : goal.loop-i-init
loop-i-init c = search rest_all

pub put_code-next-requires : goal.put_code-next-requires
put_code-next-requires c = search codes_room

pub loop-i-preserved : goal.loop-i-preserved
loop-i-preserved c = search codes_again

pub returns : goal.returns
returns c = search codes_end
