-- `codes_end` meets its contract. The loop keeps: the text is UTF-8 up to `i`. Assumes nothing.
use Rattle.enc_utf_8_decoder.proofs.Steps.{after-passed, after_less, passed_out, stops}
use Rattle.enc_utf_8_decoder.proofs.codes_end.Goals as goal

pub returns-then-after-i : goal.returns-then-after-i
returns-then-after-i c = search (passed_out, stops)

pub loop-i-smaller : goal.loop-i-smaller
loop-i-smaller c = search after_less

pub loop-i-preserved : goal.loop-i-preserved
loop-i-preserved c = search after-passed
