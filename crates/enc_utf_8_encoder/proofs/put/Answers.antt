-- `enc_utf_8_encoder::put` meets its contract. Each exit is a law of `Encodes`. Assumes nothing.
use Rattle.enc_utf_8.proofs.Encodes.{put_one, put_two, put_three-low, put_surrogate, put_three-high, put_four, put_past}
use Rattle.enc_utf_8_encoder.proofs.put.Goals as goal

ruleset exits = (put_one, put_two, put_three-low, put_surrogate, put_three-high, put_four, put_past)

pub returns-then-code-lt128 : goal.returns-then-code-lt128
returns-then-code-lt128 c = search exits

pub returns-then-code-lt2048 : goal.returns-then-code-lt2048
returns-then-code-lt2048 c = search exits

pub returns-then-code-lt55296 : goal.returns-then-code-lt55296
returns-then-code-lt55296 c = search exits

pub returns-then-code-lt57344 : goal.returns-then-code-lt57344
returns-then-code-lt57344 c = search exits

pub returns-then-code-lt65536 : goal.returns-then-code-lt65536
returns-then-code-lt65536 c = search exits

pub returns-then-code-lt1114112 : goal.returns-then-code-lt1114112
returns-then-code-lt1114112 c = search exits

pub returns : goal.returns
returns c = search exits
