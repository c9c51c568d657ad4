-- `enc_utf_8_encoder::utf8_len` meets its contract. Each exit is a law of `Encodes`. Assumes nothing.
use Rattle.enc_utf_8.proofs.Encodes.{len-one, len-two, len-three, len-four, len-past}
use Rattle.enc_utf_8_encoder.proofs.utf8_len.Goals as goal

ruleset exits = (len-one, len-two, len-three, len-four, len-past)

pub returns-then-code-lt128 : goal.returns-then-code-lt128
returns-then-code-lt128 c = search exits

pub returns-then-code-lt2048 : goal.returns-then-code-lt2048
returns-then-code-lt2048 c = search exits

pub returns-then-code-lt65536 : goal.returns-then-code-lt65536
returns-then-code-lt65536 c = search exits

pub returns-then-code-lt1114112 : goal.returns-then-code-lt1114112
returns-then-code-lt1114112 c = search exits

pub returns : goal.returns
returns c = search exits
