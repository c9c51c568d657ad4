-- `enc_utf_16_encoder::utf16_len` meets its contract: two bytes for one code unit, four for two. Assumes nothing.
use Rattle.enc_utf_16_encoder.proofs.Encodes.{one-length, two-length}
use Rattle.enc_utf_16_encoder.proofs.utf16_len.Goals as goal

pub returns-then-code-lt65536 : goal.returns-then-code-lt65536
returns-then-code-lt65536 c = search one-length

pub returns : goal.returns
returns c = search two-length
