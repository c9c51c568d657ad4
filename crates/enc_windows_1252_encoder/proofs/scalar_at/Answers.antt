-- `scalar_at` meets its contract: an ASCII byte is its own code point. Assumes nothing.
use Rattle.enc_windows_1252_encoder.proofs.Encoders.{taken-ascii}
use Rattle.enc_windows_1252_encoder.proofs.scalar_at.Goals as goal

pub returns-then-first-lt128 : goal.returns-then-first-lt128
returns-then-first-lt128 c = search taken-ascii
