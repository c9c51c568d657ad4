-- `enc_utf_8_decoder::next_long` meets its contract. Each exit is a law of `Decodes`. Assumes nothing.
use Rattle.enc_utf_8.proofs.Decodes.{next-three, next-four, next_past}
use Rattle.enc_utf_8_decoder.proofs.next_long.Goals as goal

pub returns-then-b-lt240 : goal.returns-then-b-lt240
returns-then-b-lt240 c = search next-three

pub returns-then-b-lt245 : goal.returns-then-b-lt245
returns-then-b-lt245 c = search next-four

pub returns : goal.returns
returns c = search next_past
