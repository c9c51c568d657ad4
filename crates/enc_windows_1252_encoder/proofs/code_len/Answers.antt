-- `code_len` meets its contract: a law for each exit. Assumes nothing.
use Rattle.enc_windows_1252_encoder.proofs.Encoders.{ascii-code-len, code-len-byte, code-len-none}
use Rattle.enc_windows_1252_encoder.proofs.code_len.Goals as goal

pub returns-then-code-lt128 : goal.returns-then-code-lt128
returns-then-code-lt128 c = search ascii-code-len

pub returns-in-Some : goal.returns-in-Some
returns-in-Some c = search code-len-byte

pub returns-in-None : goal.returns-in-None
returns-in-None c = search code-len-none
