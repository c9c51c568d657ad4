-- `encode` meets its contract: a law for each exit. Assumes nothing.
use Rattle.enc_windows_1252_encoder.proofs.Encoders.{encode_room, encode_done, encode_full}
use Rattle.enc_windows_1252_encoder.proofs.encode.Goals as goal

pub put_codes-requires : goal.put_codes-requires
put_codes-requires c = search encode_room

pub returns-in-Some : goal.returns-in-Some
returns-in-Some c = search encode_done

pub returns-in-None : goal.returns-in-None
returns-in-None c = search encode_full
