-- `enc_utf_16_encoder::put_16` meets its contract: one code unit, or the surrogate pair. Assumes nothing.
use Rattle.enc_utf_16_encoder.proofs.Encodes.{put_one, put_two}
use Rattle.enc_utf_16_encoder.proofs.put_16.Goals as goal

pub returns-then-code-lt65536 : goal.returns-then-code-lt65536
returns-then-code-lt65536 c = search put_one

pub returns : goal.returns
returns c = search put_two
