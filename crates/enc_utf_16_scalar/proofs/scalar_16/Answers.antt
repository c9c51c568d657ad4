-- `enc_utf_16_scalar::scalar_16` meets its contract: each exit is a law of the decoder. Assumes nothing.
use Rattle.enc_utf_16_scalar.proofs.Decodes.{scalar_odd, scalar-low, scalar-high}
use Rattle.enc_utf_16_scalar.proofs.scalar_16.Goals as goal

pub returns-then-bytes-at-lt2 : goal.returns-then-bytes-at-lt2
returns-then-bytes-at-lt2 c = search scalar_odd

pub returns-then-code-lt55296 : goal.returns-then-code-lt55296
returns-then-code-lt55296 c = search scalar-low

pub returns-then-code-gt57343 : goal.returns-then-code-gt57343
returns-then-code-gt57343 c = search scalar-high
