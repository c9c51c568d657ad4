-- `put_code` meets its contract: a law for each exit. Assumes nothing.
use Rattle.enc_windows_1252_encoder.proofs.Encoders.{ascii-code-room, ascii-code-laid, code-byte-room, code-byte-laid, code-none-room, code-none-laid}
use Rattle.enc_windows_1252_encoder.proofs.put_code.Goals as goal

pub bounds-out-at : goal.bounds-out-at
bounds-out-at c = search ascii-code-room

pub returns-then-code-lt128 : goal.returns-then-code-lt128
returns-then-code-lt128 c = search ascii-code-laid

pub bounds-out-at-in-Some : goal.bounds-out-at-in-Some
bounds-out-at-in-Some c = search code-byte-room

pub put_reference-requires : goal.put_reference-requires
put_reference-requires c = search code-none-room

pub returns-in-Some : goal.returns-in-Some
returns-in-Some c = search code-byte-laid

pub returns-in-None : goal.returns-in-None
returns-in-None c = search code-none-laid
