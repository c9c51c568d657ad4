-- `decoded_len` meets its contract. The loop keeps: the length so far and that of what is left are the whole. Assumes nothing.
use Rattle.std.proofs.Common.{rules}
use Rattle.enc_windows_1252_decoder.proofs.Decoders.{length_part, length_over, length-fits}
use Rattle.enc_windows_1252_decoder.proofs.decoded_len.Goals as goal

pub returns-then-room-n : goal.returns-then-room-n
returns-then-room-n c = search (length_over, c.in-Some.ensures.steps.1.0)

pub loop-block-preserved : goal.loop-block-preserved
loop-block-preserved c = (search rules, search rules, search (length_part, c.in-Some.ensures.steps.1.0))

pub returns : goal.returns
returns c = search (length-fits, c.in-None.ensures.steps.1.0)
